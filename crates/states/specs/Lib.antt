pub mod Layout
pub mod States
