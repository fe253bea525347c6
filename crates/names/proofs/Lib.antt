pub mod Rows
pub mod Sets
pub mod Naming
pub mod Totals
pub mod Within
