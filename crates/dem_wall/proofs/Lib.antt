pub mod DirectionFacts
pub mod PlaneFacts
pub mod UnitFacts
