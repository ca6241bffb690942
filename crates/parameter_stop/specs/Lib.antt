pub mod ParameterStop
