pub mod StreamFacts
pub mod ThreadFacts
