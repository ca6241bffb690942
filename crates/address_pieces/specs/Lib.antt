pub mod Pieces
pub mod AddressField
