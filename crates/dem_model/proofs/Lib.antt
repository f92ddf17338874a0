pub mod SphereFacts
pub mod SoundFacts
pub mod PairFacts
pub mod CountFacts
pub mod LoadFacts
