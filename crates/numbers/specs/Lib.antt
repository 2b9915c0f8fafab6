-- The definitions that the contracts of `numbers` cite.
pub mod Places
pub mod Lists
pub mod Record
