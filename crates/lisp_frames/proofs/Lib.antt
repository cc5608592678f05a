pub mod ContextLemmas
pub mod SearchLemmas
pub mod RoomLemmas
