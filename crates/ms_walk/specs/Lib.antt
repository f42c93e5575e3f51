pub mod Clobber
pub mod Pointed
pub mod Turn
