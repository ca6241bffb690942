pub mod FateLaws
pub mod MostLaws
pub mod OwedLaws
