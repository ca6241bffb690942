pub mod HeaderStop
pub mod HeaderStopLaws
