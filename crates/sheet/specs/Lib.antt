pub mod Kinds
pub mod Sectors
pub mod Flat
