pub mod EnvelopeLine
pub mod LineGrammar
pub mod FaultLaws
