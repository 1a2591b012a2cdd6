pub mod Grouped
pub mod Joined
pub mod ManyLines
pub mod Numbers
pub mod PairWords
