-- The fan job that a save makes.
use Rattle.std.proofs.Common.{◌≡◌, ℕ, Bool, true, false, cond, ◌||◌, List, [], ◌∷◌, length, Option, Some, None, refl, sym, ap, ap₂, ◌∙◌, inl, inr}
use Rattle.std.specs.Prelude.{find, is_some, map}
use Rattle.std.specs.List.{list_any}
use Rattle.std.proofs.lemmas.Bool.{cases_Bool, or_left, or_parts, or_right}
use Rattle.std.proofs.lemmas.List.Folds.{list_any-append}
use Rattle.wk_text_rules.specs.Titles.{PageTitle, title_eq}
use Rattle.wk_page_rules.specs.History.{page_exists, page_to_save}
use Rattle.wk_page_rules.specs.PageRows.{PageRows}
use Rattle.wk_page_rules.specs.declared.Reach.{Reach}
use Rattle.wk_view_laws.proofs.PlanLemmas.{title_eq-same}
use Rattle.wk_wiki_rules.specs.Jobs.{FanEntry, JobLists, fan_set, has_fan, refresh_queued, set_anew}
use Rattle.wk_wiki_rules.specs.Steps.{after_save, reach_of_save}
use Rattle.wk_wiki_rules.specs.Users.{some_page_names}
use Rattle.wk_wiki_rules.specs.States.{State}
use Rattle.wk_wiki_rules.specs.Events.{jobs_after_save, stored_with}
use Rattle.wk_wiki_rules.specs.TableChanges.{fan_edits}
use Rattle.wk_wiki_laws.proofs.Fanned.{fans-queued}
use Rattle.wk_changes.specs.Parts.{is_fan_wanted}
use Rattle.wk_changes.proofs.FanEdits.{added, found, unwanted, wanted-is}
use Rattle.wk_live.specs.Wanted.{fan_of_save}

abbrev is_its : PageTitle → FanEntry → Bool
is_its title fan = title_eq fan.title title

-- ---- a fan job that is set stands

anew-title : (title : PageTitle) (reach : Reach) (fan : FanEntry) → (set_anew title reach fan).title ≡ fan.title
anew-title title reach fan = elim (cases_Bool (title_eq fan.title title)) [ inl its ↦ rw its refl | inr other ↦ rw other refl ]

anew-any : (title : PageTitle) (reach : Reach) (fans : List FanEntry) → list_any (is_its title) (map (set_anew title reach) fans) ≡ list_any (is_its title) fans
anew-any title reach [] = refl
anew-any title reach (fan ∷ fans) = ap₂ (λ a b. a || b) (ap (λ (t : PageTitle). title_eq t title) (anew-title title reach fan)) (anew-any title reach fans)

set-stands : (lists : JobLists) (title : PageTitle) (reach : Reach) → has_fan (fan_set lists title reach) title ≡ true
set-stands lists title reach = elim (cases_Bool (has_fan lists title)) [
  | inl there ↦ rw there (anew-any title reach lists.fans ∙ there)
  | inr none ↦ rw none
      (list_any-append (is_its title) lists.fans (record { number = lists.next; title = title; reach = reach; cursor = 0 } ∷ [])
      ∙ or_right (list_any (is_its title) lists.fans) (title_eq title title || false) (or_left (title_eq title title) false (title_eq-same title)))
]

wanted-stands : (lists : JobLists) (title : PageTitle) (reach : Reach) (named : Bool)
    → has_fan (cond (has_fan lists title || named) (fan_set lists title reach) lists) title ≡ (has_fan lists title || named)
wanted-stands lists title reach named = elim (cases_Bool (has_fan lists title || named)) [
  | inl wanted ↦ rw wanted (set-stands lists title reach)
  | inr none ↦ rw none (or_parts (has_fan lists title) named none).0
]

-- ---- behind a save

pub stands-behind : (stored : List PageRows) (lists : JobLists) (page : ℕ) (title : PageTitle) (reach : Reach)
    → has_fan (after_save stored lists page title reach) title ≡ (has_fan lists title || some_page_names stored title reach)
stands-behind stored lists page title reach =
    wanted-stands (refresh_queued lists page) title reach (some_page_names stored title reach)
    ∙ ap (λ (fans : List FanEntry). list_any (is_its title) fans || some_page_names stored title reach) (fans-queued lists page)

module _ (state : State) (title : PageTitle) (text : Option (List ℕ)) where
  abbrev reaches : Reach
  reaches = reach_of_save (page_exists state.history title) (is_some text)

  abbrev queued : JobLists
  queued = refresh_queued state.jobs (page_to_save state.history title)

  stands-queued : has_fan (jobs_after_save state title text) title ≡ (has_fan queued title || some_page_names (stored_with state title) title reaches)
  stands-queued = wanted-stands queued title reaches (some_page_names (stored_with state title) title reaches)

  pub wanted-behind : is_fan_wanted state title text ≡ has_fan (jobs_after_save state title text) title
  wanted-behind = wanted-is state title text (page_to_save state.history title) ∙ sym stands-queued

  pub given-behind : fan_of_save state title text ≡ cond (has_fan (jobs_after_save state title text) title) (Some title) None
  given-behind = ap (λ (wanted : Bool). cond wanted (Some title) None) wanted-behind

-- ---- the edit of the job table

abbrev edits : Bool → ℕ
edits wanted = cond wanted 1 0

wanted-edits : (stored : List PageRows) (lists : JobLists) (title : PageTitle) (reach : Reach) → (has_fan lists title || some_page_names stored title reach) ≡ true
    → (o : Option FanEntry) → find (is_its title) lists.fans ≡ o → length (fan_edits stored lists title reach) ≡ 1
wanted-edits stored lists title reach wanted (Some fan) is = ap length (found stored lists title reach fan is)
wanted-edits stored lists title reach wanted None is = ap length (added stored lists title reach is wanted)

fan-edits : (stored : List PageRows) (lists : JobLists) (title : PageTitle) (reach : Reach)
    → length (fan_edits stored lists title reach) ≡ edits (has_fan lists title || some_page_names stored title reach)
fan-edits stored lists title reach = elim (cases_Bool (has_fan lists title || some_page_names stored title reach)) [
  | inl wanted ↦ wanted-edits stored lists title reach wanted (find (is_its title) lists.fans) refl ∙ ap edits (sym wanted)
  | inr none ↦ ap length (unwanted stored lists title reach none) ∙ ap edits (sym none)
]

pub written-behind : (state : State) (title : PageTitle) (text : Option (List ℕ))
    → length (fan_edits (stored_with state title) (refresh_queued state.jobs (page_to_save state.history title)) title (reach_of_save (page_exists state.history title) (is_some text)))
    ≡ edits (has_fan (jobs_after_save state title text) title)
written-behind state title text =
    fan-edits (stored_with state title) (refresh_queued state.jobs (page_to_save state.history title)) title (reach_of_save (page_exists state.history title) (is_some text))
    ∙ ap edits (sym (stands-queued state title text))
