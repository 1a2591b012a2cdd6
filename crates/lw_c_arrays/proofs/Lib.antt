mod ArrayPixels
mod AroundLaws
