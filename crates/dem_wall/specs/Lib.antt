pub mod Inside
pub mod Normal
