-- What comes of lines of a script that are answered and written (own).
use Rattle.std.specs.Prelude.{◌≡◌, ℕ, List, ◌++◌, Option}
use Rattle.wk_table_rules.specs.Rows.{StoreTables}
use Rattle.wk_core.specs.Seen.{WikiSeen}
use Rattle.wk_script_rules.specs.WikiScripts.{TicketDraft}
use Rattle.wk_script_runs.specs.Served.{WritesInPart}

-- the list goes on from the front
abbrev pub Begins : List (Option (List ℕ)) → List (Option (List ℕ)) → Type 0
Begins front all = (rest : List (Option (List ℕ))) × (all ≡ front ++ rest)

-- The first of some lines were answered, and the sink took a prefix of their answers.
pub record WritesFirst {K : Type 0} (told : K → Option StoreTables) (faults : K → ℕ) (old new : WikiSeen K) (drafts after : List TicketDraft)
    (all : List (Option (List ℕ))) (left later taken more_taken : Option (List ℕ)) (points more_points : List ℕ) : Type 0 where
  pub done : List (Option (List ℕ))
  pub begins : Begins done all
  pub part : WritesInPart told faults old new drafts after done left later taken more_taken points more_points
