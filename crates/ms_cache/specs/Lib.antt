pub mod Same
pub mod Stays
pub mod Edited
