mod DrawnBySize
mod Frames
mod Places
mod Sayings
