pub mod Fields
pub mod FieldLaws
pub mod FieldShape
pub mod FieldShapeLaws
pub mod AsciiFields
pub mod AsciiFieldsLaws
pub mod LineNumberLaws
