-- The first of the reads of a draft that isn't current, by their marks.
use Rattle.std.specs.Prelude.{ℕ, Bool, ◌==◌, not, List, find, Option, option_map}
use Rattle.wk_view_rules.specs.Worlds.{World, answer_in, mark}
use Rattle.wk_wiki_rules.specs.Staleness.{StaleRead}
use Rattle.wk_expand.specs.declared.answer.Read.{Read}

-- the mark that the read would have now
abbrev pub mark_now : World → Read → ℕ
mark_now pages read = mark (answer_in pages read.title read.kind)

abbrev pub is_mark_stale : World → Read → Bool
is_mark_stale pages read = not (read.mark == mark_now pages read)

-- a read with the mark that it would have now
abbrev pub with_present : Read → ℕ → StaleRead
with_present read now = record { title = read.title; kind = read.kind; read = read.mark; now = now }

-- the first of the reads that isn't current; nothing where each is
abbrev pub first_stale_mark : World → List Read → Option StaleRead
first_stale_mark pages reads = option_map (λ read. with_present read (mark_now pages read)) (find (is_mark_stale pages) reads)
