pub mod KindFacts
pub mod CycleFacts
pub mod SeatFacts
pub mod LawFacts
pub mod EventFacts
