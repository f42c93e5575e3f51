pub mod Cause
pub mod Faults
pub mod Raw
pub mod Tables
pub mod Told
pub mod View
