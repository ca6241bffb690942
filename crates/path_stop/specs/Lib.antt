pub mod PathStop
pub mod PathStopLaws
pub mod PathNeedLaws
