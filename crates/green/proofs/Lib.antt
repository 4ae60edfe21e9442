pub mod Lists
pub mod Written
pub mod Reading
pub mod Known
pub mod Untouched
pub mod Answering
pub mod Empty
pub mod Measured
