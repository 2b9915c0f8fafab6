-- That no packed answer loses anything and none has number 10, that a step leaves the address slots, and that steps can be chained.
mod SlotsKept
mod Steps
pub mod Unpacked
pub mod Chained
pub mod Numbers
