pub mod Kin
pub mod Matrices
pub mod Offs
pub mod Pose
pub mod Table
