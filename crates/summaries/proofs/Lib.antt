pub mod Summaries
pub mod Outcomes
