pub mod Chains
pub mod Rewrites
mod Appended
pub mod Records
mod Calls
pub mod Created
pub mod Apart
mod Ends
mod Idled
pub mod Idle
