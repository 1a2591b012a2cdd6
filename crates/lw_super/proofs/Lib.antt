pub mod ShownLaws
pub mod WritingLaws
pub mod PortionLaws
pub mod ScrollLaws
