pub mod Places
pub mod Stacks
pub mod Pages
pub mod Holdings
pub mod Calls
pub mod Layout
pub mod Steps
