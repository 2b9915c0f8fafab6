-- The proofs of demand 3, of demand 1, of the lowest offending bit, that 10 is no number, of what the two Dst modes leave, of the last SrcA row and of a clear.
mod Ranges
mod Tags
mod Cutting
mod Shapes
mod Rules
pub mod Bits
mod MarksStay
mod Agreement
mod FieldAgrees
mod Lines
mod Widths
pub mod Steps
mod Passed
mod Refused
mod Values
pub mod Modes
mod ByOpcode
pub mod LastRow
mod Tagged
pub mod Demand
pub mod Keeping
pub mod Numbers
