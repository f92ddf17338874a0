pub mod Loaded
pub mod Resting
