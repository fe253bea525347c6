pub mod Limits
pub mod Forms
