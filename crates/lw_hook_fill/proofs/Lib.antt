pub mod FillingLaws
pub mod PaintingLaws
pub mod RectangleLaws
pub mod TileLaws
