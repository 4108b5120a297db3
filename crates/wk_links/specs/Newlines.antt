-- A text without its newlines (own).
use Rattle.std.specs.Prelude.{ℕ, ◌==◌, not, List, filter}

abbrev pub without_newlines : List ℕ → List ℕ
without_newlines text = filter (λ b. not (b == 10)) text
