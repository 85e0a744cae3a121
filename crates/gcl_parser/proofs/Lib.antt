pub mod Faults
pub mod Trees
pub mod OneForm
pub mod Derives
pub mod QueryForms
pub mod Cuts
pub mod Runs
pub mod Growing
pub mod OneWord
pub mod WellFormedQueries
mod WorkedQueries
