mod Behind
mod Pointed
