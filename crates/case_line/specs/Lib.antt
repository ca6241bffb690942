pub mod CaseLine
pub mod CaseLineLaws
