pub mod ChildTrees
pub mod SharedEvents
pub mod TreeBuilding
pub mod TreeEdits
pub mod Logs
