pub mod Swept
pub mod Theorem
