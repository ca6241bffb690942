pub mod BoundaryLaws
pub mod GrammarLaws
pub mod TokenCases
pub mod TokensLaws
pub mod ValueLaws
pub mod WalkLaws
