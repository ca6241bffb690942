pub mod CommentPiecesLaws
pub mod PieceLaws
