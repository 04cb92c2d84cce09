pub mod Report
pub mod Drive
pub mod Run
