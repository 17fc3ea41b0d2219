pub mod Openings
pub mod FlatPoints
pub mod Offsets
pub mod Orders
pub mod Opened
pub mod Tables
pub mod Networks
pub mod Lengths
