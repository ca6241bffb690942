pub mod Parameter
pub mod ParameterLaws
pub mod LengthLaws
pub mod AsciiLaws
pub mod First
pub mod FirstLaws
