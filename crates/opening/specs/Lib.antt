pub mod Opening
pub mod Lawful
