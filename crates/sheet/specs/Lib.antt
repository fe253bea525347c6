pub mod Packing
pub mod Answers
pub mod Grammar
