pub mod Kernel
pub mod Spans
pub mod Words
pub mod Wide
