pub mod Handing
pub mod Tallies
