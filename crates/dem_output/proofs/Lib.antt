pub mod RunLaw
pub mod RunFacts
pub mod WholeFacts
pub mod LoopFacts
