pub mod LevelLemmas
pub mod StackLemmas
pub mod RowLemmas
pub mod StepLemmas
pub mod PartLemmas
pub mod WaitingLemmas
pub mod LeavingLemmas
pub mod FormLemmas
