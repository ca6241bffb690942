pub mod Piece
pub mod CommentPieces
