pub mod HeaderBoundLaws
pub mod HeaderOutcomeLaws
