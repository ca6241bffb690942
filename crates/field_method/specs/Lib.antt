pub mod FieldMethod
