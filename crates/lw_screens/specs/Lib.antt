pub mod Display
pub mod Bands
pub mod Composed
pub mod Laid
pub mod Text
pub mod Laws
pub mod Cases
