pub mod Deciding
pub mod Walks
pub mod Moving
