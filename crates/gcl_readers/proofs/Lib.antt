pub mod Members
mod FrontLemmas
mod Answers
mod Standings
mod BothLemmas
mod SeqLemmas
mod EndLemmas
mod TellLemmas
mod ContainRules
mod OperandRules
mod Exits
mod FormRules
mod NewStands
mod ListingLemmas
mod CostLemmas
mod OnwardLemmas
mod NewCost
mod Worked
