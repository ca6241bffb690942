pub mod Downgraded
pub mod HeaderGiven
pub mod Demands
pub mod ReadsBack
pub mod BatchDemands
pub mod MailboxDemands
