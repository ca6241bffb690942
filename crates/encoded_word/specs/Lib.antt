pub mod Segments
pub mod SegmentsLaws
pub mod Writing
pub mod WritingLaws
pub mod MappedLaws
