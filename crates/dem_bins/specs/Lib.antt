pub mod Bins
pub mod Blocks
pub mod Keys
pub mod Walk
pub mod Faces
