pub mod Text
pub mod Rows
