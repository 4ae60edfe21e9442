pub mod Op
pub mod Words
