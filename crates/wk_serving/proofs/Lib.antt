mod DrainedBy
mod Hired
mod Sent
mod Sharing
