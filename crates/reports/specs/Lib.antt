pub mod Lines
pub mod Layers
pub mod Reports
