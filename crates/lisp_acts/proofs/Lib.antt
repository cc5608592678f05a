pub mod LevelLemmas
pub mod GoingLemmas
pub mod FormLemmas
pub mod ExitLemmas
