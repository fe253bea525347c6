pub mod Rows
pub mod Telling
pub mod Folding
pub mod Instructions
