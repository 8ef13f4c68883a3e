pub mod InHand
pub mod Kept
pub mod Noting
pub mod RecordPlaces
pub mod RecordsRead
pub mod StaySame
pub mod FirstEqual
pub mod SameParts
