-- Laws of frames, for the proofs of the readers.
pub mod Frames
