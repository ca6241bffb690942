pub mod Address
pub mod AddressLaws
pub mod TakenLaws
pub mod Grammar
pub mod GrammarLaws
pub mod BeginningLaws
pub mod AtomBits
pub mod AtextTable
