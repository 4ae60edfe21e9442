pub mod Settled
pub mod Refused
