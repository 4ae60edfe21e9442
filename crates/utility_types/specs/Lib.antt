pub mod Numbers
pub mod Elements
pub mod Paths
