pub mod Names
pub mod NamesLaws
pub mod KeysLaws
