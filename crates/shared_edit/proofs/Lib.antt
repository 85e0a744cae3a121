pub mod JournalLemmas
pub mod BookLemmas
pub mod SharedLemmas
pub mod PlanLemmas
pub mod SettleLemmas
pub mod PlanFits
pub mod BookSettled
pub mod SharedSettle
pub mod FileCount
mod Worked
