pub mod Carrying
pub mod Inside
