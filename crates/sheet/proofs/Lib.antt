pub mod Indexed
pub mod Overwrites
pub mod Sectors
pub mod Listed
mod FlatSectors
mod FlatPrograms
