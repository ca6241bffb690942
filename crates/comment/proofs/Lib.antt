pub mod BoundaryLaws
pub mod CommentCases
pub mod CommentLaws
pub mod GrammarLaws
pub mod PartsLaws
pub mod RunLaws
