mod AskedKinds
mod ByNumber
mod EarlyAnswers
mod JobCounts
mod ReadFacts
mod Shown
