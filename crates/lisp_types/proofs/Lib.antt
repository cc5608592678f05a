pub mod KindLemmas
pub mod TypesLemmas
