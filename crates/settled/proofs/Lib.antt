pub mod Storing
pub mod Walking
pub mod Reading
pub mod Settled
pub mod Refused
pub mod TokenTexts
