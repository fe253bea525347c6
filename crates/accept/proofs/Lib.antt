pub mod Ranges
pub mod Blockwise
pub mod Heads
pub mod Lowest
pub mod Reaching
pub mod Operandwise
pub mod Pairing
