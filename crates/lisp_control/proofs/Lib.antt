pub mod TargetLemmas
pub mod LeavingLemmas
