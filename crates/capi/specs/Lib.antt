-- The definitions that the contracts of `capi` cite.
pub mod Packed
pub mod Step
pub mod Numbers
