pub mod WrittenLemmas
pub mod WriterLemmas
pub mod MemberLemmas
