pub mod BoxFacts
pub mod CloseFacts
pub mod CoverFacts
pub mod EdgeFacts
pub mod FitFacts
pub mod PointFacts
pub mod UnitFacts
