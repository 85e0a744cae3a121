pub mod TableLaws
pub mod ShardWords
pub mod Walks
pub mod Heads
pub mod KeptTables
pub mod PartEnds
pub mod MovedUp
mod Worked
