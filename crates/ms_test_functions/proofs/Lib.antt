pub mod Graphs
pub mod Near
pub mod Rooms
pub mod Targets
