pub mod Stretches
pub mod Dominance
