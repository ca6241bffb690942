pub mod Parameter
pub mod ParameterLaws
pub mod Grammar
pub mod GrammarLaws
