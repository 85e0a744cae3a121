-- What a made corpus is.
pub mod Draws
pub mod MadeFiles
pub mod MadeLines
pub mod Summary
pub mod Counted
pub mod Taken
