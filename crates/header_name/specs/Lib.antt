pub mod Names
pub mod NameTable
pub mod NameTableLaws
