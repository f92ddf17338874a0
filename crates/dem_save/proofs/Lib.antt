pub mod TurnFacts
pub mod StepFacts
pub mod HeldFacts
pub mod FitFacts
pub mod CheckFacts
pub mod WritableFacts
pub mod LoadFacts
