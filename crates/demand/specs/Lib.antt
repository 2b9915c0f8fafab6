-- What the buyer signs for, as statements over the definitions that the contracts cite.
pub mod WellShaped
pub mod RecordRange
pub mod Breaks
pub mod Offending
pub mod Meetings
pub mod Numbers
pub mod Demand
pub mod Keeping
