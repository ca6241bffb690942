pub mod Offset
pub mod OffsetLaws
pub mod EnvelopeRefusalLaws
