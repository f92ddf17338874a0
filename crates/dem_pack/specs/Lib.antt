pub mod Layouts
pub mod Layers
pub mod Asks
pub mod Rows
pub mod Starts
