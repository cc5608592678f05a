pub mod SimpleLemmas
pub mod GoingSimple
pub mod ActsSimple
pub mod StepSimple
pub mod NameLemmas
