pub mod Computing
pub mod Words
pub mod Digits
pub mod Sheets
pub mod Worked
pub mod Examples
pub mod Refusals
