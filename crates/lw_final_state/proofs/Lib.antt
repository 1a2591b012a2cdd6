pub mod SeenTables
pub mod SeenLaws
