pub mod SizeLemmas
pub mod NameLemmas
