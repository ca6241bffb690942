pub mod BoundLaws
pub mod NewFieldLaws
pub mod OutcomeLaws
pub mod OutputLaws
