mod Tested
mod Facing
mod Pairs
pub mod Lengths
pub mod OneStar
pub mod Errors
