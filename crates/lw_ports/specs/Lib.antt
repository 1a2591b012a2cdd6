pub mod Ports
pub mod Sets
