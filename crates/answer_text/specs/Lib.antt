pub mod Given
pub mod Puts
pub mod Texts
pub mod Watching
