pub mod Places
pub mod Laws
pub mod Cursors
pub mod Walks
