mod ActNumbers
mod RectRanges
mod GzzBoxes
