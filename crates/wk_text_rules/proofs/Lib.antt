pub mod TitleLemmas
