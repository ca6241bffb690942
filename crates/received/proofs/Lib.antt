pub mod GrammarLaws
pub mod FitLaws
pub mod PassesLaws
pub mod ReceivedLaws
pub mod WritingLaws
