pub mod Rows
pub mod Comparisons
pub mod Verdicts
pub mod Cuts
