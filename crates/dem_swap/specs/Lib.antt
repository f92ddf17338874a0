pub mod ExchangeEvents
pub mod Cycle
pub mod Seats
