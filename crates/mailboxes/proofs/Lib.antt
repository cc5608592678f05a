pub mod MailLemmas
