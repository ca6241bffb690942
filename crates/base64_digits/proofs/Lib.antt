pub mod Base64Cases
pub mod Base64Laws
pub mod GrammarLaws
pub mod WritingLaws
