pub mod Clause
pub mod Grammar
pub mod Tokens
