-- The edits of the fan job of a save.
use Rattle.std.proofs.Common.{◌≡◌, ℕ, true, false, ◌||◌, List, [], ◌∷◌, ◌++◌, Option, Some, None, is_some, refl, sym, ap, ap₂, ◌∙◌, inl, inr}
use Rattle.std.specs.Prelude.{Bool, find}
use Rattle.std.specs.List.{list_any}
use Rattle.std.proofs.Math.Bool.{or-false}
use Rattle.std.proofs.lemmas.Bool.{cases_Bool, or_parts}
use Rattle.std.proofs.lemmas.List.{append_assoc}
use Rattle.std.proofs.lemmas.List.Folds.{list_any-append}
use Rattle.wk_text_rules.specs.Titles.{PageTitle, title_eq}
use Rattle.wk_page_rules.specs.History.{page_exists, page_number, page_to_save}
use Rattle.wk_page_rules.specs.declared.Reach.{Reach}
use Rattle.wk_page_rules.specs.declared.Reach.TheVariants.{Text, Both}
use Rattle.wk_page_rules.specs.PageRows.{PageRows, no_rows, names}
use Rattle.wk_table_rules.specs.Changes.{TableEdit, add_job, add_revision, set_job, set_page}
use Rattle.wk_table_laws.proofs.SavedPages.{find-passes}
use Rattle.wk_wiki_rules.specs.Jobs.{FanEntry, JobLists, has_fan, has_refresh, refresh_queued, wider}
use Rattle.wk_wiki_rules.specs.Steps.{reach_of_save}
use Rattle.wk_wiki_rules.specs.Users.{some_page_names}
use Rattle.wk_wiki_rules.specs.States.{State}
use Rattle.wk_wiki_rules.specs.Events.{stored_with}
use Rattle.wk_wiki_rules.specs.TableChanges.{fan_edits, refresh_edits, row_of_fan, save_change, saved_page, saved_revision}
use Rattle.wk_changes.specs.Parts.{is_fan_wanted}

find-none : {X : Type 0} (p : X → Bool) (xs : List X) → list_any p xs ≡ false → find p xs ≡ None
find-none p [] none = refl
find-none p (x ∷ xs) none = let parts = or_parts (p x) (list_any p xs) none in rw parts.0 (find-none p xs parts.1)

none-found : {X : Type 0} (p : X → Bool) (xs : List X) → find p xs ≡ None → list_any p xs ≡ false
none-found p [] none = refl
none-found p (x ∷ xs) none = elim (cases_Bool (p x)) [
  | inl here ↦ absurd (let e : Some x ≡ None = rw here at none in cc)
  | inr other ↦ rw other (none-found p xs (rw other at none))
]

module _ (stored : List PageRows) (lists : JobLists) (title : PageTitle) (reach : Reach) where
  abbrev is_its : FanEntry → Bool
  is_its fan = title_eq fan.title title

  pub unwanted : (has_fan lists title || some_page_names stored title reach) ≡ false → fan_edits stored lists title reach ≡ []
  unwanted none =
      let parts = or_parts (has_fan lists title) (some_page_names stored title reach) none in
      let none_is : find is_its lists.fans ≡ None = find-none is_its lists.fans parts.0 in
      let no_page : some_page_names stored title reach ≡ false = parts.1 in
      rw (none_is, fan_edits) (rw no_page refl)

  pub found : (fan : FanEntry) → find is_its lists.fans ≡ Some fan → fan_edits stored lists title reach ≡ set_job (row_of_fan (record fan { reach = wider fan.reach reach; cursor = 0 })) ∷ []
  found fan is =
      let own : is_its fan ≡ true = (find-passes is_its lists.fans fan is).0 in
      rw (is, fan_edits) (rw own refl)

  pub added : find is_its lists.fans ≡ None → (has_fan lists title || some_page_names stored title reach) ≡ true
      → fan_edits stored lists title reach ≡ add_job (row_of_fan (record { number = lists.next; title = title; reach = reach; cursor = 0 })) ∷ []
  added none wanted =
      let alone : has_fan lists title ≡ false = none-found is_its lists.fans none in
      let some : some_page_names stored title reach ≡ true = rw alone at wanted in
      rw (none, fan_edits) (rw some refl)

-- ---- a page without rows names no title

no-names : (title : PageTitle) (reach : Reach) → names no_rows title reach ≡ false
no-names title Text = refl
no-names title Both = refl

pub new-names-none : (state : State) (new title : PageTitle) (reach : Reach) → some_page_names (stored_with state new) title reach ≡ some_page_names state.stored title reach
new-names-none state new title reach = elim (cases_Bool (is_some (page_number state.history new))) [
  | inl old ↦ rw old refl
  | inr first ↦
      rw first
      (list_any-append (λ rows. names rows title reach) state.stored (no_rows ∷ [])
      ∙ (ap (λ b. some_page_names state.stored title reach || (b || false)) (no-names title reach) ∙ or-false (some_page_names state.stored title reach)))
]

-- ---- the jobs behind the refresh job of the page

pub queued-fans : (lists : JobLists) (page : ℕ) → (refresh_queued lists page).fans ≡ lists.fans
queued-fans lists page = elim (cases_Bool (has_refresh lists page)) [ inl there ↦ rw there refl | inr none ↦ rw none refl ]

pub wanted-is : (state : State) (title : PageTitle) (text : Option (List ℕ)) (page : ℕ)
    → is_fan_wanted state title text
    ≡ (has_fan (refresh_queued state.jobs page) title || some_page_names (stored_with state title) title (reach_of_save (page_exists state.history title) (is_some text)))
wanted-is state title text page =
    let reach = reach_of_save (page_exists state.history title) (is_some text) in
    ap₂ (λ a b. a || b)
    (ap (list_any (λ (fan : FanEntry). title_eq fan.title title)) (sym (queued-fans state.jobs page)))
    (sym (new-names-none state title title reach))

-- ---- the edits of a save, one after the other

pub save-is : (state : State) (title : PageTitle) (text : Option (List ℕ)) (moment : ℕ) (first second refresh fan : List TableEdit)
    → first ≡ add_revision (saved_revision state.history title text moment) ∷ set_page (saved_page state.history title text) ∷ []
    → second ≡ first ++ refresh
    → refresh ≡ refresh_edits state.jobs (page_to_save state.history title) title
    → fan ≡ fan_edits (stored_with state title) (refresh_queued state.jobs (page_to_save state.history title)) title (reach_of_save (page_exists state.history title) (is_some text))
    → second ++ fan ≡ save_change state title text moment
save-is state title text moment first second refresh fan one two three four =
    let two-first = add_revision (saved_revision state.history title text moment) ∷ set_page (saved_page state.history title text) ∷ [] in
    ap (λ edits. edits ++ fan) (two ∙ ap (λ edits. edits ++ refresh) one)
    ∙ (append_assoc two-first refresh fan ∙ ap₂ (λ (a b : List TableEdit). two-first ++ (a ++ b)) three four)

-- the same, where the page, the reach and whether a fan job is wanted are told
module _ (state : State) (title : PageTitle) (text : Option (List ℕ)) (page : ℕ) (reach : Reach) (wants : Bool) where
  -- what the edits of the fan job are, whatever is stored, for lists with these fan jobs and this next number
  abbrev pub AreFanEdits : List TableEdit → Type 0
  AreFanEdits fan = (stored : List PageRows) (lists : JobLists) → lists.fans ≡ state.jobs.fans → lists.next ≡ (refresh_queued state.jobs page).next
      → wants ≡ (has_fan lists title || some_page_names stored title reach) → fan ≡ fan_edits stored lists title reach

  pub save-by : (moment : ℕ) (first second refresh fan : List TableEdit)
      → page ≡ page_to_save state.history title → reach ≡ reach_of_save (page_exists state.history title) (is_some text) → wants ≡ is_fan_wanted state title text
      → first ≡ add_revision (saved_revision state.history title text moment) ∷ set_page (saved_page state.history title text) ∷ []
      → second ≡ first ++ refresh → refresh ≡ refresh_edits state.jobs page title → AreFanEdits fan
      → second ++ fan ≡ save_change state title text moment
  save-by moment first second refresh fan page_is reach_is wants_is one two three four =
      let stored = stored_with state title in
      let queued = refresh_queued state.jobs page in
      let wanted : wants ≡ (has_fan queued title || some_page_names stored title reach) =
      wants_is ∙ (wanted-is state title text page ∙ ap (λ (r : Reach). has_fan queued title || some_page_names stored title r) (sym reach_is)) in
      save-is state title text moment first second refresh fan one two
      (three ∙ ap (λ (p : ℕ). refresh_edits state.jobs p title) page_is)
      (four stored queued (queued-fans state.jobs page) refl wanted
      ∙ ap₂ (λ (p : ℕ) (r : Reach). fan_edits stored (refresh_queued state.jobs p) title r) page_is reach_is)
