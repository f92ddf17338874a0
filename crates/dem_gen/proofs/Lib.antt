pub mod WordFacts
pub mod ListFacts
pub mod EdgeFacts
pub mod MadeFacts
