pub mod ClauseLaws
pub mod GrammarLaws
pub mod TokenCases
pub mod TokensLaws
