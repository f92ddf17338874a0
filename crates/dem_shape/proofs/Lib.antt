pub mod FamilyFacts
pub mod FillFacts
pub mod MatrixFacts
pub mod PoseFacts
pub mod TableFacts
pub mod StepFacts
pub mod PutFacts
