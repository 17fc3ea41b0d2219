pub mod Systems
pub mod Outlines
pub mod Layers
pub mod Theorems
pub mod First
