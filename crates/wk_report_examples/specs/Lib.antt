pub mod Wikis
