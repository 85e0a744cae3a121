mod InRows
mod Matches
mod Costs
mod Merges
mod Worked
