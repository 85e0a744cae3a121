pub mod InOrder
pub mod SeqAccess
pub mod SeqFarAccess
mod Worked
