pub mod ArrivingLemmas
pub mod Outputs
pub mod Prefixes
mod PipeArrivals
pub mod Ended
pub mod PipeLegal
pub mod Loans
pub mod PipeRests
