pub mod Lexemes
pub mod Joined
pub mod Cursors
