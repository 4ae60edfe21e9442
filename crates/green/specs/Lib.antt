pub mod Layout
pub mod Store
pub mod View
pub mod Valid
pub mod Measure
pub mod Answers
