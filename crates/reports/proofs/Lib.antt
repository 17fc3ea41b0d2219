pub mod Texts
pub mod Adding
pub mod Telling
pub mod OneReport
