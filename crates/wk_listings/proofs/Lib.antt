mod Above
mod Falling
mod Last
mod Listed
