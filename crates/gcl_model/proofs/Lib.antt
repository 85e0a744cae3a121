pub mod Lists
pub mod Cases
pub mod FormLemmas
pub mod Covers
pub mod Minimal
pub mod Meanings
pub mod Reach
pub mod Places
pub mod Pairs
pub mod WordLists
pub mod Parts
pub mod Grouping
pub mod Other
mod WorkedMeaning
mod WorkedWide
mod WorkedTokens
mod WorkedCollections
