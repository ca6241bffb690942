pub mod HeaderContent
pub mod HeaderOutcome
pub mod HeaderOutcomeLaws
