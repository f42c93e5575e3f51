pub mod Forms
pub mod Funcs
pub mod Output
pub mod Told
