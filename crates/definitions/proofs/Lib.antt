pub mod Loops
pub mod Defining
pub mod OwnUnits
pub mod Clobbering
