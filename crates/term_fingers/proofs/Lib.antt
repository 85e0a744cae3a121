pub mod AtHand
pub mod Beside
pub mod Found
pub mod Nearest
pub mod Places
