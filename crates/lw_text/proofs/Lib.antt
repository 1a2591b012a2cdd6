pub mod TemplateLaws
pub mod TextLaws
