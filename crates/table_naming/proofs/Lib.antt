-- Laws of naming.
mod Idle
