pub mod Xtext
pub mod XtextLaws
pub mod Grammar
