-- The lines of a feed in bytes (own).
use Rattle.std.specs.Prelude.{◌≡◌, ℕ, List, [], ◌∷◌, ◌++◌, map, IfSome, Option, Some}
use Rattle.serde_json.specs.Data.{Data}
use Rattle.serde_json.specs.Written.{compact_text}
use Rattle.wk_answer_rules.specs.Values.{array_of}
use Rattle.wk_wiki_rules.specs.Events.{Event}
use Rattle.wk_feed_rules.specs.Feeds.{event_line}
use Rattle.wk_feed_rules.specs.Lines.{FeedLine, bytes_of_lines, line_text}

-- a line of these values, ended by a newline
abbrev pub bytes_of_values : List Data → List ℕ
bytes_of_values values = compact_text (array_of values) ++ 10 ∷ []

-- these lines, each ended by a newline
abbrev pub feed_bytes : List FeedLine → List ℕ
feed_bytes lines = bytes_of_lines (map line_text lines)

-- the lines of these events
abbrev pub event_bytes : List Event → List ℕ
event_bytes events = feed_bytes (map event_line events)

-- a sink that had told these bytes tells these more, where it tells any
abbrev pub HasTaken : Option (List ℕ) → Option (List ℕ) → List ℕ → Type 0
HasTaken told now bytes = IfSome told (λ (before : List ℕ). now ≡ Some (before ++ bytes))
