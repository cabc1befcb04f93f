pub mod Texts
pub mod Refusals
pub mod Plays
pub mod Comparing
