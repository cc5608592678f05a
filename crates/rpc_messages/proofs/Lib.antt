pub mod CutLemmas
pub mod PlainLemmas
