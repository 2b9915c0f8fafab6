-- The definitions that the contracts of `show` cite.
pub mod Ends
pub mod Input
pub mod Bytes
