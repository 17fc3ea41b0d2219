pub mod Counting
pub mod Copying
pub mod Opening
pub mod OneTally
