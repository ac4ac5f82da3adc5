pub mod DigitLemmas
pub mod HexLemmas
pub mod NumberLemmas
pub mod OptionLemmas
pub mod TextLemmas
pub mod VectorLemmas
pub mod RoomLemmas
