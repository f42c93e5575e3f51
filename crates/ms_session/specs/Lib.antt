pub mod Annotated
pub mod Shown
