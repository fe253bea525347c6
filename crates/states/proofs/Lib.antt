pub mod Spans
pub mod Cells
pub mod FirstStates
pub mod Meeting
pub mod TakingIn
pub mod HandingOn
pub mod Starting
