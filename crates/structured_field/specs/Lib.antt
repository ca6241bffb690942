pub mod StructuredField
pub mod Grammar
pub mod CalmLaws
pub mod WritingLaws
