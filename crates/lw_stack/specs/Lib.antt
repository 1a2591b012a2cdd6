pub mod Stack
pub mod Laws
pub mod Desktop
pub mod Sets
