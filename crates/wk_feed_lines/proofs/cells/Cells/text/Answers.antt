use Rattle.std.proofs.Common.{◌≡◌, ℕ, List, Option, Result, Ok, Err, sym, ap, ◌∙◌}
use Rattle.std.specs.Prelude.{IfOk}
use Rattle.serde_json.specs.Data.{Data}
use Rattle.wk_feed_rules.specs.Lines.{FeedLine}
use Rattle.wk_feed_rules.specs.Reading.{with_text}
use Rattle.wk_feed_lines.specs.Cells.{CellsLeft, left_of, read_on}
use Rattle.wk_feed_lines.proofs.cells.Cells.text.Goals as goal

-- the text that is kept is the one that was read
kept : {E : Type 0} (words : List ℕ) (old new : CellsLeft) (made : Result (List ℕ) E) → IfOk made (λ text. text ≡ words)
    → ((rest : List ℕ → List Data → Option FeedLine) → read_on (with_text rest) old ≡ read_on (rest words) new)
    → IfOk made (λ text. (rest : List ℕ → List Data → Option FeedLine) → read_on (with_text rest) old ≡ read_on (rest text) new)
kept words old new (Ok text) is law = λ rest. law rest ∙ ap (λ (t : List ℕ). read_on (rest t) new) (sym is)
kept words old new (Err e) is law = tt

pub returns : goal.returns
returns c = kept c.words.result.now (left_of c.args.self.now) (left_of c.words.new.self) c.text_of.result c.text_of.ensures c.words.ensures
