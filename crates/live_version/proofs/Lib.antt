pub mod SlotLemmas
pub mod LeapLemmas
pub mod WordLemmas
pub mod PlaceLemmas
pub mod FileLemmas
mod Worked
pub mod ChangeRanges
pub mod ChangeFiles
pub mod ChangeContents
pub mod ChangeAdd
pub mod ChangeDelete
pub mod ChangeSlots
pub mod Tails
pub mod ChangeLaw
pub mod PartLaws
pub mod PartWords
mod ChangeWorked
pub mod TermLemmas
pub mod CountLemmas
pub mod MemberLemmas
