pub mod VariantLemmas
pub mod BurstLemmas
pub mod ReadingLemmas
pub mod FirstImageLemmas
pub mod InformationSteps
pub mod EvaluationSteps
pub mod UnbuiltCallSteps
pub mod AnnouncementLemmas
