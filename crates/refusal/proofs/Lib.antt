pub mod Outcomes
pub mod First
