pub mod GrammarLaws
pub mod StructuredFieldLaws
pub mod ValueLaws
