pub mod ParameterStopLaws
