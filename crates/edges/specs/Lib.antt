pub mod Cases
pub mod DoorCases
pub mod SameCases
pub mod ThreeBitCases
pub mod FourValuedCases
pub mod EveryCase
