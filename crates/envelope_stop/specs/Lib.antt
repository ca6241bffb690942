pub mod EnvelopeStop
pub mod EnvelopeStopLaws
