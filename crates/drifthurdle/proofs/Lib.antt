pub mod Refusing
pub mod Loading
pub mod Fitting
pub mod Cleaning
pub mod Theorem
