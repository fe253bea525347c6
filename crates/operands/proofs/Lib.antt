pub mod Finding
pub mod Heading
pub mod Fields
