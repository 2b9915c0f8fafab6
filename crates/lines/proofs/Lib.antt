-- Laws of the lines and of the texts, for the programs.
pub mod Writing
pub mod Cursors
pub mod Giving
pub mod Left
pub mod Fits
mod Examples
