pub mod LetterCase
pub mod LetterCaseLaws
