pub mod Places
pub mod Grouping
pub mod Tables
pub mod NameLists
pub mod Numbering
pub mod NameOrder
pub mod SeenNames
pub mod NumberedNames
pub mod Noting
pub mod SeenRows
pub mod Handing
pub mod AheadLemmas
pub mod MapTables
mod Worked
