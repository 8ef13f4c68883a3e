pub mod Dice
pub mod Records
pub mod Day
pub mod Turns
