pub mod BlockWalks
pub mod LevelWalks
pub mod Visits
pub mod Tables
