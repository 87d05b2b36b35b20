pub mod DecodedFrames
pub mod ReferencePictures
pub mod Code
