pub mod WordGrammar
pub mod WordGrammarLaws
