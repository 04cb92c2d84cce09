pub mod Agrees
pub mod Law
pub mod PatternLaw
pub mod NamedLaw
pub mod Deliveries
pub mod JudgedNames
pub mod Within
pub mod WithinLaw
pub mod NamedWithin
pub mod SoundLaw
pub mod Coded
pub mod CodedNames
pub mod Plain
mod Runs
mod Examples
mod BuiltInExamples
mod EventExamples
mod ScopeExamples
