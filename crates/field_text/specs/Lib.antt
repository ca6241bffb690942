pub mod TextLaws
pub mod TextPlace
