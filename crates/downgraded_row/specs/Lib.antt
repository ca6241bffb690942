pub mod RowTurnsLaws
pub mod RowLinesLaws
pub mod RowFieldLaws
pub mod ReadBackLaws
