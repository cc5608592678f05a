pub mod ListLemmas
pub mod StringLemmas
