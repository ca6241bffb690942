pub mod GrammarLaws
pub mod XtextLaws
