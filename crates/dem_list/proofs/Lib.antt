pub mod AscendingFacts
