pub mod SharedLaws
pub mod LookupLaws
pub mod LaidLaws
pub mod StripsLaws
