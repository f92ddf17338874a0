pub mod Faults
pub mod Known
pub mod MemSourceValue
pub mod MemSinkValue
pub mod Change
pub mod Meeting
