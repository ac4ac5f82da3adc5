pub mod FooterText
pub mod Lines
pub mod RowsText
pub mod SizesText
