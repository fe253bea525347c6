pub mod Loading
pub mod Call
pub mod Theorem
