pub mod FaultFacts
pub mod Prefixes
pub mod PutFacts
pub mod ReadFacts
pub mod Written
