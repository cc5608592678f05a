pub mod Forms
pub mod Judging
pub mod Numbers
pub mod Reading
