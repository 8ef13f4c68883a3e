pub mod Costs
pub mod Runs
pub mod Moves
