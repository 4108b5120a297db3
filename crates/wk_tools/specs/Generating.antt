-- Pages that are being generated (own).
use Rattle.std.specs.Prelude.{◌≡◌, ℕ, ◌+◌, ◌-◌, List, ◌++◌, codes, Option, Some, IfSome}
use Rattle.std.specs.List.{range_with_len}
use Rattle.wk_base.specs.Clock.{Ticks}
use Rattle.wk_table_rules.specs.Rows.{StoreTables}
use Rattle.wk_page_rules.specs.Verdict.{EditAsked, refuse}
use Rattle.wk_wiki_rules.specs.Verdicts.{event_of}
use Rattle.wk_wiki_rules.specs.SaveOutcomes.{SaveOutcome, save_outcome}
use Rattle.wk_tool_rules.specs.Generator.{infobox_text, note_text, page_drawn, page_name, page_saves, plain_save}
use Rattle.wk_revs.specs.Verdict.{refusal_of}
use Rattle.wk_revs.specs.declared.verdict.SaveRefusal.{SaveRefusal}
use Rattle.wk_core.specs.Seen.{WikiSeen, verdict_now}
use Rattle.wk_core.specs.Steps.{HasMadeAtMost, HasMadeNothing}
use Rattle.wk_tools.specs.Saves.{HasSaved}

-- the edits of the templates
abbrev pub infobox_save : EditAsked
infobox_save = plain_save (codes "Template:Infobox") infobox_text

abbrev pub note_save : EditAsked
note_save = plain_save (codes "Template:Note") note_text

-- the edit of a page, where the draws go on with this number
abbrev pub page_save : ℕ → ℕ → ℕ → EditAsked
page_save pages page seed = plain_save (page_name page) (page_drawn pages page seed).text

-- the edits of the pages from this one on, where the draws go on with this number
abbrev pub pages_left : ℕ → ℕ → ℕ → List EditAsked
pages_left pages page seed = page_saves pages (range_with_len page (pages + 1 - page)) seed

-- ---- one edit

-- the edit was saved at the clock's next moment, or changed nothing
pub record SavesNext {K : Type 0} (told : K → Option StoreTables) (old new : WikiSeen K) (edit : EditAsked) (left later : Option (List ℕ)) : Type 0 where
  pub moment : ℕ
  pub ticks : Ticks left later moment
  pub outcome : SaveOutcome
  pub some : Some outcome ≡ save_outcome old.state.history (verdict_now old edit)
  pub happened : HasMadeAtMost told old new (event_of (verdict_now old edit) moment)

-- nothing happened, and the edit is refused for this cause, where the rules have it
pub record Refuses {K : Type 0} (told : K → Option StoreTables) (old new : WikiSeen K) (edit : EditAsked) (refusal : SaveRefusal) : Type 0 where
  pub nothing : HasMadeNothing told old new
  pub cause : IfSome (refusal_of refusal) (λ cause. verdict_now old edit ≡ refuse cause)

-- ---- many

-- these edits were saved, and those that are left are the others
pub record IsGenerating {K : Type 0} (old now : WikiSeen K) (whole rest : List EditAsked) (left later : Option (List ℕ)) : Type 0 where
  pub edits : List EditAsked
  pub saved : HasSaved old now edits left later
  pub all : edits ++ rest ≡ whole
