pub mod Trimmed
pub mod Group
pub mod NestingLaws
