pub mod PartTexts
pub mod PartGrammar
pub mod AddressField
