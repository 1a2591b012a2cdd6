pub mod AreasRead
pub mod GzzRead
