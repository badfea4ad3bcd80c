-- Document 01 as definitions that compute, in the paper's order, with document 02's requests where they change it. Each carries the paper's sentence that it stands for, behind a bar.
pub mod Bytes
pub mod Refusals
pub mod Pass
pub mod Table
pub mod Walk
pub mod States
pub mod Answers
pub mod Steps
pub mod Calls
pub mod Journal
pub mod Numbers
pub mod Replay
pub mod Sample
