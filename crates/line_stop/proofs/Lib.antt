pub mod CharScanLaws
pub mod FirstBadLaws
pub mod PlaceLaws
pub mod ProductLaws
pub mod Scanner
pub mod ScannerLaws
pub mod WordLaws
