pub mod CarryFacts
