pub mod Words
pub mod WordsLaws
pub mod Phrase
pub mod PhraseLaws
pub mod BoundaryLaws
