pub mod BoundLaws
pub mod Outcome
pub mod OutcomeLaws
pub mod OutgoingHeader
pub mod OutputLaws
