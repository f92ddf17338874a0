pub mod Gives
pub mod Walls
pub mod Clumps
pub mod Table
pub mod Stands
pub mod WallNames
