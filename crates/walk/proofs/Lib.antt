-- Laws of the record after a field, for the pre-check, the run and the demands.
pub mod RecordKept
pub mod Advanced
