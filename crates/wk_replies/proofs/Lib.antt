pub mod Arrays
mod Puts
