mod Opened
mod Passes
