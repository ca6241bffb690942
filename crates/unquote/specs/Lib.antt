pub mod Unquote
pub mod UnquoteLaws
