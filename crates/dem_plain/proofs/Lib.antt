pub mod HoldsFacts
pub mod RunFacts
