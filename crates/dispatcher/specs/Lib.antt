pub mod Dispatchers
pub mod Moves
pub mod Law
