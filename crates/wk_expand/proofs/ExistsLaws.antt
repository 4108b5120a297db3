-- The rules of `#ifexist`.
use Rattle.std.proofs.Common.{◌≡◌, ◌+◌, Some, Bool, true, false, List, [], ◌∷◌, ◌++◌, if◌then◌else◌, refl, sym, ap, ap₂, ◌∙◌}
use Rattle.std.specs.Bool.{nat_lt}
use Rattle.std.specs.List.{list_any}
use Rattle.wk_text_rules.specs.Titles.{PageTitle, title_eq}
use Rattle.wk_tree_rules.specs.Tree.{Part}
use Rattle.wk_tree_rules.specs.Trees.{Item}
use Rattle.wk_view_rules.specs.Expand.{by_existence, existence_output, operand}
use Rattle.wk_view_rules.specs.Expansions.{Expansion, Output, Progress, answer_to, ◌>>=◌, most_tests, with_test}
use Rattle.wk_view_rules.specs.Frames.{Frame}
use Rattle.wk_view_rules.specs.Plans.{run}
use Rattle.wk_view_rules.specs.Worlds.{Answer, Seen, is_there, of_seen}
use Rattle.wk_view_rules.specs.declared.Kind.TheVariants.{Exists}
use Rattle.wk_expand.specs.Answers.{counters_of}
use Rattle.wk_expand.specs.Running.{ComesTo, IsMissing, StopsAt, needed}
use Rattle.wk_expand.specs.State.{progress_of}
use Rattle.wk_expand.specs.declared.answer.Counts.{Counts}
use Rattle.wk_expand.specs.declared.state.Expander.{Expander}
use Rattle.wk_expand.specs.declared.state.Stop.{Stop}
use Rattle.wk_expand.specs.declared.state.Stop.TheVariants.{Needs, Memory}
use Rattle.wk_view_laws.proofs.PlanLemmas.{met, run-asks}
use Rattle.wk_expand.proofs.RunLaws.{comes-as, passes-at}

pub tested-one : (s t : Expander) (title : PageTitle) → t.counts ≡ record s.counts { exists = s.counts.exists + 1 } → t.tested.items ≡ s.tested.items ++ title ∷ [] → progress_of t ≡ with_test title (progress_of s)
tested-one s t title counts tested = ap₂ (λ (c : Counts) (titles : List PageTitle). record { counters = counters_of c; tested = titles }) counts tested

module _ (inner : Frame → List Item → Expansion Output) (viewed : PageTitle) (frame : Frame) where
  abbrev pub by_test : List Part → Bool → Expansion Output
  by_test parts there = operand inner viewed frame (if there then 2 else 3) parts

  abbrev pub by_answer : List Part → Answer → Expansion Output
  by_answer parts answer = by_test parts (is_there answer)

  pub existence-asks : (title : PageTitle) (parts : List Part) → by_existence inner viewed frame title parts ≡ (answer_to title Exists >>= by_answer parts)
  unfolding by_existence
  existence-asks title parts = refl

  existence-tested : (title : PageTitle) (parts : List Part) (progress : Progress) → list_any (title_eq title) progress.tested ≡ true → existence_output inner viewed frame title parts progress ≡ by_existence inner viewed frame title parts progress
  unfolding existence_output
  existence-tested title parts progress tested = rw tested refl

  existence-new : (title : PageTitle) (parts : List Part) (progress : Progress) → list_any (title_eq title) progress.tested ≡ false → nat_lt progress.counters.exists most_tests ≡ true → existence_output inner viewed frame title parts progress ≡ by_existence inner viewed frame title parts (with_test title progress)
  unfolding existence_output
  existence-new title parts progress untested few = rw (untested, few) refl

  existence-full : (title : PageTitle) (parts : List Part) (progress : Progress) → list_any (title_eq title) progress.tested ≡ false → nat_lt progress.counters.exists most_tests ≡ false → existence_output inner viewed frame title parts progress ≡ operand inner viewed frame 3 parts progress
  unfolding existence_output
  existence-full title parts progress untested many = rw (untested, many) refl

  pub tested-comes : (seen : Seen) (s : Expander) (title : PageTitle) (parts : List Part) → list_any (title_eq title) s.tested.items ≡ true → ComesTo seen (existence_output inner viewed frame title parts) s (by_existence inner viewed frame title parts) s
  tested-comes seen s title parts tested = comes-as seen (existence_output inner viewed frame title parts) (by_existence inner viewed frame title parts) s (existence-tested title parts (progress_of s) tested)

  pub full-comes : (seen : Seen) (s : Expander) (title : PageTitle) (parts : List Part) → list_any (title_eq title) s.tested.items ≡ false → nat_lt s.counts.exists most_tests ≡ false → ComesTo seen (existence_output inner viewed frame title parts) s (operand inner viewed frame 3 parts) s
  full-comes seen s title parts untested many = comes-as seen (existence_output inner viewed frame title parts) (operand inner viewed frame 3 parts) s (existence-full title parts (progress_of s) untested many)

  -- one more title is tested
  pub new-comes : (seen : Seen) (s t : Expander) (title : PageTitle) (parts : List Part) → list_any (title_eq title) s.tested.items ≡ false → nat_lt s.counts.exists most_tests ≡ true → t.page ≡ s.page → t.levels ≡ s.levels → t.reads ≡ s.reads → progress_of t ≡ with_test title (progress_of s) → ComesTo seen (existence_output inner viewed frame title parts) s (by_existence inner viewed frame title parts) t
  new-comes seen s t title parts untested few page levels reads progress = record {
    same = record { page = page; levels = levels };
    passes = passes-at seen (existence_output inner viewed frame title parts) (by_existence inner viewed frame title parts) s t reads
        (existence-new title parts (progress_of s) untested few ∙ ap (by_existence inner viewed frame title parts) (sym progress));
  }

  -- the title isn't answered
  pub new-stops : (seen : Seen) (s : Expander) (title : PageTitle) (parts : List Part) (stop : Stop) → list_any (title_eq title) s.tested.items ≡ false → nat_lt s.counts.exists most_tests ≡ true → IsMissing seen title Exists stop → StopsAt seen (existence_output inner viewed frame title parts) s stop
  unfolding by_existence
  new-stops seen s title parts (Needs wanted kind) untested few missing = λ agrees.
      ap needed (ap (λ p. run (of_seen seen) p s.reads) (existence-new title parts (progress_of s) untested few)
      ∙ run-asks (of_seen seen) title Exists (λ a. by_answer parts a (with_test title (progress_of s))) s.reads
      ∙ ap (met (of_seen seen) title Exists (λ a. by_answer parts a (with_test title (progress_of s))) s.reads) missing.0)
      ∙ (λ i. Some (sym missing.1 i, sym missing.2 i))
  new-stops seen s title parts Memory untested few missing = λ agrees. tt
