mod ReadFront
mod TakenBytes
