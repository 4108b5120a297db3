pub mod FedFacts
pub mod RowFacts
pub mod ToldFacts
