pub mod Gives
pub mod Records
pub mod PartialFrames
pub mod ReadBack
