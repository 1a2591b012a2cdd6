mod AssetsAdded
mod Begun
pub mod CallLines
mod ListsOfLists
mod NamesAdded
mod Places
pub mod Found
