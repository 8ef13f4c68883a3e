-- tests, lists, the room that arms take
pub mod Bools
pub mod Tables
pub mod Registers
pub mod Rooms
-- what a call does, and what it makes of an arm's record
pub mod Accepted
pub mod Effects
pub mod SameButRow
pub mod Records
-- one induction over calls; what no call alters, what leads to a gate, what a state never exceeds
pub mod Always
pub mod Unaltered
pub mod Origins
pub mod Bounds
pub mod Rests
-- the rules put together, and what they say of a state
pub mod Changes
pub mod Meant
-- each doorway reads the bit once
pub mod Doorways
-- an arm that goes inside within k rounds goes inside within more
pub mod Sooner
-- a step: put together; it touches one register, which the bank has
pub mod Steps
pub mod Spared
pub mod Makeable
-- the index of an arm
pub mod Indexes
-- records as far as the arms go; gates over unlike banks that go the same way
pub mod Seen
pub mod Twins
-- rows and notes have a place for each arm; gates that are the same go the same way
pub mod Widths
pub mod SameGates
-- records with no pass out; a pass is out only of an arm that is inside
pub mod Unmarked
pub mod PassesInside
-- a gate with no visit begun is the gate just made
pub mod AsMade
