pub mod Fate
pub mod FateLaws
pub mod Most
