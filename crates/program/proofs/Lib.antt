pub mod Printing
mod Filling
