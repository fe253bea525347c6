pub mod Cases
pub mod Bit
pub mod First
pub mod Lists
pub mod Words
