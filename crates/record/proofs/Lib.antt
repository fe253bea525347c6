pub mod Parts
pub mod Sections
pub mod Rules
pub mod Whole
