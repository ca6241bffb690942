pub mod ReadBack
pub mod Calls
pub mod CallsLaws
pub mod UnlabelledLaws
pub mod WrittenLaws
pub mod ReadBackLaws
