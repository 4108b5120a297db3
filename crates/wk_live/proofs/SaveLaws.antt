-- What a save does to the jobs.
use Rattle.std.proofs.Common.{◌≡◌, ℕ, ◌+◌, length, length-append, Bool, true, false, cond, eqb, not, ◌||◌, List, [], ◌∷◌, ◌++◌, Option, Some, None, refl, sym, ap, ap₂, ◌∙◌, inl, inr}
use Rattle.std.specs.Prelude.{find, is_some}
use Rattle.std.specs.List.{list_any}
use Rattle.std.proofs.lemmas.Bool.{cases_Bool}
use Rattle.std.proofs.lemmas.List.Folds.{list_any-append}
use Rattle.wk_text_rules.specs.Titles.{PageTitle, title_eq}
use Rattle.wk_page_rules.specs.History.{History, Page, next_revision, page_exists, page_number, page_to_save, saved, with_current}
use Rattle.wk_page_rules.specs.PageRows.{PageRows, names, no_rows}
use Rattle.wk_page_rules.specs.declared.Reach.{Reach}
use Rattle.wk_page_rules.specs.declared.Reach.TheVariants.{Text, Both}
use Rattle.wk_wiki_rules.specs.Jobs.{FanEntry, JobLists, fan_set, has_fan, refresh_queued}
use Rattle.wk_wiki_rules.specs.Steps.{reach_of_save}
use Rattle.wk_wiki_rules.specs.Users.{some_page_names}
use Rattle.wk_wiki_rules.specs.States.{State}
use Rattle.wk_wiki_rules.specs.Events.{jobs_after_save, stored_with, with_saved}
use Rattle.wk_wiki_laws.proofs.Fanned.{fans-queued}
use Rattle.wk_wiki_laws.proofs.Formed.{length-new, length-old, numbered}
use Rattle.wk_wiki_laws.proofs.Saved.{pages-saved}
use Rattle.wk_revs.specs.Standing.{standing}
use Rattle.wk_revs.specs.declared.standing.Standing.{Standing}
use Rattle.wk_live.specs.Wanted.{fan_of_save, queued_with, wants_fan}

-- a title has a fan job where one is found
pub some_found : {X : Type 0} (p : X → Bool) (xs : List X) → is_some (find p xs) ≡ list_any p xs
some_found p [] = refl
some_found p (x ∷ xs) = elim (cases_Bool (p x)) [ inl this ↦ rw this refl | inr other ↦ rw other (some_found p xs) ]

or-nothing : (b : Bool) → (b || (false || false)) ≡ b
or-nothing true = refl
or-nothing false = refl

none-named : (title : PageTitle) (reach : Reach) → names no_rows title reach ≡ false
none-named title Text = refl
none-named title Both = refl

-- a page without rows names no title
named-with : (state : State) (title : PageTitle) (reach : Reach) → some_page_names (stored_with state title) title reach ≡ some_page_names state.stored title reach
named-with state title reach = elim (cases_Bool (is_some (page_number state.history title))) [
  | inl there ↦ rw there refl
  | inr new ↦ rw new
      (list_any-append (λ (rows : PageRows). names rows title reach) state.stored (no_rows ∷ [])
      ∙ (ap (λ b. some_page_names state.stored title reach || (b || false)) (none-named title reach) ∙ or-nothing (some_page_names state.stored title reach)))
]

wanted-with : (state : State) (title : PageTitle) (reach : Reach) (page : ℕ)
    → (has_fan (refresh_queued state.jobs page) title || some_page_names (stored_with state title) title reach) ≡ wants_fan state title reach
wanted-with state title reach page =
    ap₂ (λ a b. a || b) (ap (λ (fans : List FanEntry). list_any (λ job. title_eq job.title title) fans) (fans-queued state.jobs page)) (named-with state title reach)

queued-cond : (lists : JobLists) (page : ℕ) (title : PageTitle) (reach : Reach) (wants : Bool)
    → queued_with lists page reach (cond wants (Some title) None) ≡ cond wants (fan_set (refresh_queued lists page) title reach) (refresh_queued lists page)
queued-cond lists page title reach true = refl
queued-cond lists page title reach false = refl

pub saved-jobs : (state : State) (title : PageTitle) (text : Option (List ℕ))
    → queued_with state.jobs (page_to_save state.history title) (reach_of_save (page_exists state.history title) (is_some text)) (fan_of_save state title text)
    ≡ jobs_after_save state title text
saved-jobs state title text =
    let page = page_to_save state.history title in
    let reach = reach_of_save (page_exists state.history title) (is_some text) in
    queued-cond state.jobs page title reach (wants_fan state title reach)
    ∙ ap (λ b. cond b (fan_set (refresh_queued state.jobs page) title reach) (refresh_queued state.jobs page)) (sym (wanted-with state title reach page))

-- ---- the pages

pub lengths-saved : (h : History) (stored : List PageRows) (title : PageTitle) (text : Option (List ℕ)) (moment : ℕ) → length stored ≡ length h.pages
    → length (cond (is_some (page_number h title)) stored (stored ++ no_rows ∷ [])) ≡ length (saved h title text moment).pages
lengths-saved h stored title text moment same =
    let number = cond (is_some text) (next_revision h) 0 in
    let pages : length (saved h title text moment).pages ≡ length (with_current h.pages title number) = ap (λ (ps : List Page). length ps) (pages-saved h title text moment) in
    let is = numbered title number h.pages in
    by (list_any (λ (page : Page). title_eq page.title title) h.pages) refl is ∙ sym pages
  where
    by : (b : Bool) → list_any (λ (page : Page). title_eq page.title title) h.pages ≡ b → is_some (page_number h title) ≡ list_any (λ (page : Page). title_eq page.title title) h.pages
        → length (cond (is_some (page_number h title)) stored (stored ++ no_rows ∷ [])) ≡ length (with_current h.pages title (cond (is_some text) (next_revision h) 0))
    by true there is = rw (is, there) (same ∙ sym (length-old title (cond (is_some text) (next_revision h) 0) h.pages there))
    by false none is =
        rw (is, none) (length-append stored (no_rows ∷ []) ∙ (ap (λ n. n + 1) same ∙ sym (length-new title (cond (is_some text) (next_revision h) 0) h.pages none)))

-- ---- the state

abbrev state_with : History → List PageRows → JobLists → State
state_with h stored jobs = record { history = h; stored = stored; jobs = jobs }

-- by what stands of the title
pub saved-state : (state : State) (title : PageTitle) (text : Option (List ℕ)) (moment : ℕ) (h : History) (stored : List PageRows) (jobs : JobLists) (stands : Standing) (reach : Reach) (fan : Option PageTitle)
    → stands ≡ standing state.history title
    → h ≡ saved state.history title text moment
    → stored ≡ cond (is_some stands.page) state.stored (state.stored ++ no_rows ∷ [])
    → reach ≡ reach_of_save (not (eqb stands.current 0)) (is_some text)
    → fan ≡ fan_of_save state title text
    → jobs ≡ queued_with state.jobs stands.to_save reach fan
    → state_with h stored jobs ≡ with_saved state title text moment
saved-state state title text moment h stored jobs stands reach fan is h-is stored-is reach-is fan-is jobs-is =
    let rows : stored ≡ stored_with state title = stored-is ∙ ap (λ (s : Standing). cond (is_some s.page) state.stored (state.stored ++ no_rows ∷ [])) is in
    let reaches : reach ≡ reach_of_save (page_exists state.history title) (is_some text) = reach-is ∙ ap (λ (s : Standing). reach_of_save (not (eqb s.current 0)) (is_some text)) is in
    let after : jobs ≡ jobs_after_save state title text =
    jobs-is
    ∙ (ap (λ (s : Standing). queued_with state.jobs s.to_save reach fan) is
    ∙ (ap (λ r. queued_with state.jobs (page_to_save state.history title) r fan) reaches
    ∙ (ap (queued_with state.jobs (page_to_save state.history title) (reach_of_save (page_exists state.history title) (is_some text))) fan-is
    ∙ saved-jobs state title text))) in
    λ i. state_with (h-is i) (rows i) (after i)
