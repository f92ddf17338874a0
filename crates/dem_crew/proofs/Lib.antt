pub mod GoingOnFacts
pub mod NotedFacts
pub mod WorkFacts
