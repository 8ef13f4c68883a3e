pub mod Refusals
pub mod Recorders
pub mod Answers
pub mod Law
pub mod Kept
