pub mod LengthLaws
pub mod PiecesLaws
pub mod SoundLaws
pub mod WritingLaws
