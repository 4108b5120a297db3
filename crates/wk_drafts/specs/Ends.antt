-- What runs, and what is made of them, come to.
use Rattle.wk_text_rules.specs.Titles.{PageTitle}
use Rattle.wk_view_rules.specs.declared.Kind.{Kind}
use Rattle.wk_drafts.specs.declared.drafted.Ended.{Ended}
use Rattle.wk_drafts.specs.declared.drafted.Ended.TheVariants.{Made, Unknown}
use Rattle.wk_drafts.specs.declared.drafting.Run.{Run}
use Rattle.wk_drafts.specs.declared.drafting.Run.TheVariants.{Done, Needs}

-- done with what is so, or in need of what is so
abbrev pub IsRun : {M D : Type 0} → (D → Type 0) → (PageTitle → Kind → M → Type 0) → Run M D → Type 0
IsRun is_made is_needed (Done made) = is_made made
IsRun is_made is_needed (Needs title kind next) = is_needed title kind next

-- made what is so, or without the answer to what is so
abbrev pub IsEnded : {D : Type 0} → (D → Type 0) → (PageTitle → Kind → Type 0) → Ended D → Type 0
IsEnded is_made is_unknown (Made made) = is_made made
IsEnded is_made is_unknown (Unknown title kind) = is_unknown title kind
