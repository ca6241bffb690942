pub mod Received
pub mod Grammar
pub mod FrontLaws
pub mod CommentLinesLaws
pub mod LinesLaws
pub mod RowLinesLaws
pub mod TokenLaws
