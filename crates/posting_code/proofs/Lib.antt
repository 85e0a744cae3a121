pub mod Numbers
pub mod Spellings
pub mod Rising
pub mod Packed
pub mod Joining
pub mod Shorts
pub mod Steps
mod Taking
pub mod InRows
pub mod Around
pub mod MovedUp
pub mod Unpacking
pub mod Runs
pub mod Cuts
mod Worked
mod WorkedNumbers
pub mod Ends
