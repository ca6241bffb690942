pub mod FirstBad
pub mod Scanner
pub mod CharScan
pub mod Product
pub mod Word
