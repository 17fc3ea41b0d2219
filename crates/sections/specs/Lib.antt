pub mod Delaunay
pub mod Tapes
