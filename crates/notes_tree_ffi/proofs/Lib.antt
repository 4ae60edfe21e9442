pub mod Going
pub mod Exporting
