pub mod HistoryLemmas
pub mod RuleLemmas
pub mod ViewLemmas
