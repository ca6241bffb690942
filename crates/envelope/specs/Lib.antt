pub mod Envelope
pub mod LineStarts
pub mod CheckLaws
pub mod EnvelopeDemand
