pub mod CommandLine
pub mod Values
pub mod Orders
pub mod Meaning
