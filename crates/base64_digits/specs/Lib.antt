pub mod Base64
pub mod WritingLaws
pub mod Grammar
pub mod Reading
