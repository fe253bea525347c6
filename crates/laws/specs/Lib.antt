pub mod Choice
pub mod Digits
pub mod First
pub mod Fold
pub mod Lists
pub mod Spans
