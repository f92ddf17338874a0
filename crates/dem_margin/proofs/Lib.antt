pub mod OrderFacts
pub mod FoundFacts
pub mod PairsFacts
pub mod FloorFacts
pub mod DotFacts
pub mod TouchFacts
pub mod CoverFacts
pub mod MarkFacts
