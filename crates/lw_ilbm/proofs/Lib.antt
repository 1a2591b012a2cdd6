pub mod ChunkSteps
pub mod ChunksBack
pub mod Codes
pub mod Computing
pub mod FilesBack
pub mod PictureBytes
pub mod RowsBack
pub mod Unpacking
