pub mod Comment
pub mod CommentLaws
pub mod Grammar
pub mod Parts
