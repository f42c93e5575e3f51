pub mod Again
pub mod Basis
pub mod Ordered
pub mod Same
