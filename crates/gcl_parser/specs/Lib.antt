pub mod QueryTokens
pub mod Grammar
pub mod Refusal
pub mod QueryForm
pub mod Scanned
pub mod Reading
pub mod Parsed
pub mod Laws
