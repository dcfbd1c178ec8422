pub mod DigitWords
pub mod WithinLemmas
pub mod ScanLemmas
