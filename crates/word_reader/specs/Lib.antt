pub mod Each
pub mod EachLaws
pub mod Word
pub mod WordFaults
pub mod WordLaws
