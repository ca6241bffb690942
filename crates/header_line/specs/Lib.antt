pub mod Lines
pub mod LineLaws
pub mod Clean
pub mod CleanLaws
pub mod NameLaws
