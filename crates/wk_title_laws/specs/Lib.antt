pub mod NormalTitles
