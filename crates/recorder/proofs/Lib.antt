-- which gates are fit
pub mod Fit
-- a recorder in hand stays one
pub mod InHand
-- what a call that is not turned down does
pub mod Written
-- what is written is a lawful file of the orders recorded
pub mod FileSoFar
-- a gate that obeys these orders follows the gate that is recorded
pub mod Follows
-- the law of a recorder
pub mod Replayed
-- a call, and a start, leave the written bytes at the start of the memory, for hosts
pub mod Kept
pub mod KeptBegun
