pub mod PayloadFrames
