pub mod Parts
pub mod PartsLaws
pub mod PartCasesLaws
pub mod Grammar
pub mod Table
pub mod TableLaws
