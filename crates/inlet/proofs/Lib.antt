pub mod CallLemmas
pub mod MessageLemmas
pub mod PumpLemmas
