pub mod SameToken
pub mod Seeking
pub mod Events
pub mod TokenEvents
pub mod SameNode
pub mod NodeEvents
