-- That nothing is lost between a record and its numbers, and when the address slots need no writing.
mod Parts
mod Tested
pub mod Stands
pub mod Whole
pub mod RoundTrip
pub mod ButSlots
