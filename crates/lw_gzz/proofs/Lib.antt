mod Lists
mod Order
mod Lasting
mod Pairs
mod Between
mod Boxes
mod InnerRectangle
mod Joining
mod Opening
mod Closing
mod Groups
mod Inside
mod PairGroups
mod Starts
mod Runs
mod Fresh
pub mod Spelling
pub mod OnePair
mod FilledPair
