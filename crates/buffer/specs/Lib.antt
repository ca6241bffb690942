pub mod Buffer
pub mod BufferLaws
