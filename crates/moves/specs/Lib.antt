pub mod Walks
pub mod Moves
