mod OneDrawing
mod LineFills
