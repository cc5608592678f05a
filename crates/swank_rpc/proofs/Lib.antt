pub mod TextLemmas
pub mod SizeLemmas
pub mod NameLemmas
pub mod ListLemmas
pub mod CarryLemmas
pub mod HeadLemmas
