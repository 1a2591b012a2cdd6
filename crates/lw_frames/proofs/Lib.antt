pub mod FillLaws
pub mod FrameLaws
pub mod OverlayLaws
pub mod TitleLaws
pub mod OwnFrameLaws
pub mod TellingLaws
