pub mod Slots
pub mod Touched
pub mod Worklist
pub mod Strikes
pub mod Held
