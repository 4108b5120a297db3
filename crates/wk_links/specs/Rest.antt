-- The occurrences that are still to be found from a place on (own).
use Rattle.std.specs.Prelude.{ℕ, List, filter_map, None}
use Rattle.wk_text_rules.specs.Marked.{MarkedByte}
use Rattle.wk_text_rules.specs.Occurrences.{Occurrence, occurrence_of, link_at}
use Rattle.wk_text_rules.specs.Shapes.{spans_from}

-- the occurrences in the rest of an output, which begins at this place of the whole
abbrev pub occurrences_from : ℕ → List MarkedByte → List Occurrence
occurrences_from at rest = filter_map occurrence_of (spans_from link_at at None 0 rest)
