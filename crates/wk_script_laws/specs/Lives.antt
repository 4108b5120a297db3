-- What is true of a script's life at all times (own).
use Rattle.std.specs.Prelude.{◌≡◌, map, IsSome}
use Rattle.std.specs.List.{AllByRecursion}
use Rattle.wk_page_rules.specs.Verdict.{MostHeld}
use Rattle.wk_wiki_rules.specs.Jobs.{page_held_by}
use Rattle.wk_wiki_rules.specs.Steps.{fan_pages}
use Rattle.wk_table_laws.specs.InOrder.{Rises}
use Rattle.wk_wiki_laws.specs.Kept.{IsKept}
use Rattle.wk_wiki_rules.specs.Calls.{CallsMake}
use Rattle.wk_wiki_rules.specs.Room.{tickets_out}
use Rattle.wk_script_rules.specs.WikiScripts.{WikiScript}

-- The life began in a state of good form with no ticket out. Its journal is what calls make from there, and leads to its
-- state. The tickets of its drafts are out, and rise.
pub record IsLife (most : MostHeld) (s : WikiScript) : Type 0 where
  pub kept : IsKept s.start
  pub free : tickets_out s.start ≡ 0
  pub made : CallsMake fan_pages most s.start s.journal s.state
  pub out : AllByRecursion (λ draft. IsSome (page_held_by s.state.jobs draft.ticket)) s.drafts
  pub rises : Rises (map (λ draft. draft.ticket) s.drafts)
