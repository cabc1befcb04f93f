pub mod Programming
pub mod Copying
