mod Answering
mod Completing
mod Runs
