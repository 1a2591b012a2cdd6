mod Addable
mod AreasAdded
mod Passing
