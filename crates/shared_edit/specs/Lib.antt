pub mod Editors
pub mod Histories
pub mod Books
pub mod Shared
pub mod Plans
pub mod Settling
pub mod Drafts
