-- What the loop that writes text after text has written, and what a program's end says of it.
mod Written
pub mod Ended
