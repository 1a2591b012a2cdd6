mod AreaPoints
mod Classes
mod PatternWords
