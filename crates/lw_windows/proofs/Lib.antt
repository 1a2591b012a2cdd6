mod FramePixels
mod InnerPixels
