pub mod Results
pub mod Failures
