pub mod NearList
pub mod Marks
