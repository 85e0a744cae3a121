pub mod PutLemmas
mod Worked
