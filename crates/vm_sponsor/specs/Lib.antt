pub mod Grant
pub mod Ledger
pub mod Totals
pub mod Sheets
pub mod Keeps
pub mod Answers
