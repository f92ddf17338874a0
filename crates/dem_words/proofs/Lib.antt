pub mod MatchFacts
pub mod CommandFacts
pub mod NumberFacts
pub mod TurnFacts
