pub mod FormatLemmas
pub mod HexadecimalLemmas
