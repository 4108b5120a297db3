mod TakenBytes
