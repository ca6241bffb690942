pub mod GroupLaws
pub mod NestingLaws
pub mod TrimmedLaws
