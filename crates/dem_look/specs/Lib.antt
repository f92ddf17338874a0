pub mod Looker
pub mod Inside
pub mod Looking
