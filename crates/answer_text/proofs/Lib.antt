-- Lemmas.
pub mod CauseLemmas
pub mod LineLemmas
pub mod PageLemmas
pub mod PutLemmas
pub mod ToldLemmas
