use Rattle.std.proofs.Common.{◌≡◌, ◌+◌, ◌-◌, ◌≤◌, vec_len}
use Rattle.std.specs.List.{All}
use Rattle.wk_page_rules.specs.PageRows.{no_rows}
use Rattle.wk_index.proofs.blanks.fill.Given as goal

abbrev pub invariant-loop-blanks : goal.invariant-loop-blanks
invariant-loop-blanks l = All (λ rows. rows ≡ no_rows) l.blanks.items × (vec_len l.initial.blanks ≤ vec_len l.blanks)

abbrev pub decreases-loop-blanks : goal.decreases-loop-blanks
decreases-loop-blanks l = l.count + 1 - vec_len l.blanks
