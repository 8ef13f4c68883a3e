-- no pass is out between two moves; an arm that is not idle moves at a call or stays not idle
mod NoPassOut
mod Busy
-- which arm is served next
mod CyclicOrder
-- an arm that goes inside in a move is inside after it
mod InsideAfterMove
-- a move serves an arm, n moves serve all, and so a waiting arm goes inside
mod Served
-- the calls of a move, put together
mod MoveByCalls
-- k moves and one more are k + 1 moves
pub mod OneMoveMore
