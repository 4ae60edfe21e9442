pub mod TokenText
pub mod Alike
