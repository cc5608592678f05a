pub mod FirstImage
pub mod Entries
pub mod Information
pub mod Evaluation
pub mod UnbuiltCall
pub mod Announcement
