pub mod Contents
pub mod CutLemmas
pub mod NewlineLemmas
pub mod PageLemmas
pub mod LinkLemmas
pub mod Places
pub mod SeenLemmas
pub mod Words
