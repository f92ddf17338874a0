pub mod ProductBounds
pub mod QuatSizes
pub mod QuotientFacts
pub mod RootFacts
pub mod ShareFacts
pub mod Sizes
pub mod VectorSizes
