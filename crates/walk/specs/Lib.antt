-- The definitions that the contracts of `walk` cite.
pub mod FieldRecord
