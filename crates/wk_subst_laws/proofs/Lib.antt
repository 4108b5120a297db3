pub mod SizeLemmas
pub mod SpendLemmas
pub mod TextSpends
pub mod RoundLemmas
