pub mod FooterText
pub mod LayoutLines
pub mod Lists
pub mod QuotedLemmas
pub mod RowLines
