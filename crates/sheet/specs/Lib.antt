pub mod Ended
pub mod Code
