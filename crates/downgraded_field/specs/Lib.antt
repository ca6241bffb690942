pub mod FieldFaults
pub mod FormedLaws
pub mod Shown
pub mod ShownLaws
