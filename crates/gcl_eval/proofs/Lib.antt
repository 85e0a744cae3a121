pub mod Overlaps
pub mod Beginnings
pub mod ChainRules
pub mod ChainSteps
pub mod ContainForms
pub mod ContainLoops
pub mod ContainSteps
pub mod CostLemmas
pub mod ElementLemmas
pub mod FarAccess
pub mod Found
pub mod KnownLemmas
pub mod RunLemmas
pub mod Listing
pub mod OperandLemmas
pub mod TermAccess
pub mod TwoWidths
mod Worked
mod PageCost
