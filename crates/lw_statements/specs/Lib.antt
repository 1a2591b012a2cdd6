pub mod CallMeaning
pub mod GroupMeaning
pub mod OwnBits
pub mod SectionMeaning
pub mod StatementMeaning
