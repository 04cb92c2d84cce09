pub mod Made
pub mod Calls
pub mod Operands
pub mod Ends
pub mod Dictionaries
pub mod Deques
pub mod Costs
