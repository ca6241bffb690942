pub mod Tokens
pub mod Walk
pub mod Grammar
