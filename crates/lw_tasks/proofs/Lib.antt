mod Opening
mod Started
