pub mod Fits
pub mod OtherBank
