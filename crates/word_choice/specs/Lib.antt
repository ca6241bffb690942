pub mod Choice
pub mod Block
pub mod BlockLaws
pub mod ChoiceLaws
pub mod ChoiceOfLaws
pub mod RegularLaws
pub mod EndInQLaws
