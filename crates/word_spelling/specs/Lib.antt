pub mod Spelling
pub mod Cost
pub mod HighChar
pub mod SpellingLaws
pub mod FirstChars
pub mod FirstCharsLaws
pub mod HighCharLaws
