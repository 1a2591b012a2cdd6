pub mod AskedParts
pub mod FirstPoint
pub mod LineReading
pub mod GzzParts
