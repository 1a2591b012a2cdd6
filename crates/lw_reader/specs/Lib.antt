pub mod CallParts
pub mod ReaderKnows
pub mod Represents
pub mod LinesRead
