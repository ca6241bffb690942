pub mod Batch
pub mod BatchLaws
pub mod BatchRecords
pub mod BatchRecordsLaws
