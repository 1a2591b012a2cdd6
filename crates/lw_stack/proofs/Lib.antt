pub mod ListLaws
pub mod FirstLaws
pub mod ShownLaws
pub mod AreaLaws
pub mod ListedLaws
pub mod DesktopLaws
pub mod SetsLaws
