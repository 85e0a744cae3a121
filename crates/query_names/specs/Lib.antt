pub mod Defining
pub mod Faults
pub mod Names
pub mod PutIn
