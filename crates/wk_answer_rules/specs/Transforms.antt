-- What an edit's text becomes before the edit is judged, where that is asked for (MediaWiki's Help:Substitution; that it is asked
-- for by a flag is own).
use Rattle.std.specs.Prelude.{List, [], option_map, ℕ}
use Rattle.wk_page_rules.specs.Verdict.{EditAsked}
use Rattle.wk_view_rules.specs.Plans.{Outcome, done, need}
use Rattle.wk_view_rules.specs.Worlds.{of_world}
use Rattle.wk_wiki_rules.specs.States.{State, world_of}
use Rattle.wk_subst_rules.specs.Substitution.{substituted}

-- what a text has become. A world needs nothing, so it is done.
abbrev pub text_made : Outcome (List ℕ) → List ℕ
text_made (done text reads) = text
text_made (need title kind reads) = []

-- what a text becomes in a state
abbrev pub transformed : State → List ℕ → List ℕ
transformed state text = text_made (substituted (of_world (world_of state)) text)

-- the same edit, of what its text becomes
abbrev pub transformed_edit : State → EditAsked → EditAsked
transformed_edit state edit = record edit { body = option_map (transformed state) edit.body }
