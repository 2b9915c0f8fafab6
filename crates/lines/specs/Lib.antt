-- The definitions that the contracts of `lines` cite.
pub mod Lines
pub mod Text
pub mod Printed
pub mod Cursor
pub mod Left
