pub mod Courses
pub mod Rows
pub mod Worlds
pub mod SoFar
pub mod Playing
