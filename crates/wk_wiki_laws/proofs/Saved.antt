-- A save keeps a wiki sound.
use Rattle.std.proofs.Common.{◌≡◌, ◌≢◌, ℕ, zero, suc, ◌+◌, ◌-◌, ◌≤◌, Bool, true, false, cond, eqb, ltb, not, ◌||◌, List, [], ◌∷◌, ◌++◌, map, unwrap_or, Option, Some, None, refl, sym, ap, ◌∙◌, inl, inr, subst, arith, ◌⊎◌}
use Rattle.std.specs.Prelude.{slice_get, option_map, is_some}
use Rattle.std.specs.List.{list_any}
use Rattle.std.proofs.lemmas.Bool.{cases_Bool, cond_both, and_parts, and_from, or_left, or_right, lt-ltb, eqb-false, eq-eqb, ne_eqb}
use Rattle.std.proofs.lemmas.List.Folds.{list_any-append}
use Rattle.std.proofs.lemmas.List.Elements.{recursion_from_All}
use Rattle.wk_text_rules.specs.Titles.{PageTitle, title_eq}
use Rattle.wk_page_rules.specs.History.{History, Page, page_number, page_exists, current_revision, current_text, text_of_revision, with_current, next_revision, saved, can_save, page_to_save}
use Rattle.wk_page_rules.specs.declared.Reach.{Reach}
use Rattle.wk_page_rules.specs.declared.Reach.TheVariants.{Text, Both}
use Rattle.wk_page_rules.specs.PageRows.{PageRows, no_rows, names}
use Rattle.wk_wiki_rules.specs.Jobs.{FanEntry, JobLists, has_refresh, has_fan, refresh_queued, wider, set_anew, fan_set}
use Rattle.wk_wiki_rules.specs.Steps.{reach_of_save, after_save}
use Rattle.wk_wiki_rules.specs.Users.{some_page_names}
use Rattle.wk_wiki_rules.specs.Covers.{is_covered, fan_covers}
use Rattle.wk_wiki_rules.proofs.JobLemmas.{has_refresh-queued}
use Rattle.wk_view_rules.specs.Worlds.{PageText}
use Rattle.wk_view_rules.specs.Rows.{rows}
use Rattle.wk_view_laws.specs.Changes.{DifferOnlyAt}
use Rattle.wk_view_laws.proofs.PlanLemmas.{title_eq-true}
use Rattle.wk_view_laws.proofs.RowLemmas.{rows-unnamed_both, rows-unnamed_text}
use Rattle.wk_wiki_rules.specs.States.{State, page_at, stored_at, world_of}
use Rattle.wk_wiki_rules.specs.Events.{Save, stored_with, with_saved, step_by}
use Rattle.wk_wiki_rules.specs.Soundness.{IsSound, IsCurrent, Covers}
use Rattle.wk_wiki_laws.specs.WellFormed.{IsWellFormed}
use Rattle.wk_wiki_laws.proofs.Opened.{page-within}
use Rattle.wk_wiki_laws.proofs.Fanned.{fans-queued}
use Rattle.wk_wiki_laws.proofs.SavedHistory.{eq-apart, number-other, number-own, page-other, number-of-own, Stands, text-kept, stands-in, text-own}

-- ---- the jobs after a save

wider-names : (links : PageRows) (title : PageTitle) (was reach : Reach) → names links title was ≡ true → names links title (wider was reach) ≡ true
wider-names links title Text Text named = named
wider-names links title Text Both named = or_left (list_any (title_eq title) links.templates) (list_any (title_eq title) links.exists) named
wider-names links title Both reach named = named

reach-names : (links : PageRows) (title : PageTitle) (was reach : Reach) → names links title reach ≡ true → names links title (wider was reach) ≡ true
reach-names links title Text reach named = named
reach-names links title Both Text named = or_left (list_any (title_eq title) links.templates) (list_any (title_eq title) links.exists) named
reach-names links title Both Both named = named

module _ (number : ℕ) (links : PageRows) (title : PageTitle) (reach : Reach) (positive : 1 ≤ number) where
  anew-covers : (fan : FanEntry) → fan_covers number links fan ≡ true → fan_covers number links (set_anew title reach fan) ≡ true
  anew-covers fan covers = elim (cases_Bool (title_eq fan.title title)) [
    | inl same ↦ rw same
        (and_from (ltb 0 number) (names links fan.title (wider fan.reach reach)) (lt-ltb 0 number (omega (arith, positive)))
        (wider-names links fan.title fan.reach reach (and_parts (ltb fan.cursor number) (names links fan.title fan.reach) covers).1))
    | inr other ↦ rw other covers
  ]

  all-anew : (fans : List FanEntry) → list_any (fan_covers number links) fans ≡ true → list_any (fan_covers number links) (map (set_anew title reach) fans) ≡ true
  all-anew [] covers = covers
  all-anew (fan ∷ fans) covers = elim (cases_Bool (fan_covers number links fan)) [
    | inl first ↦ or_left (fan_covers number links (set_anew title reach fan)) (list_any (fan_covers number links) (map (set_anew title reach) fans)) (anew-covers fan first)
    | inr later ↦ or_right (fan_covers number links (set_anew title reach fan)) (list_any (fan_covers number links) (map (set_anew title reach) fans)) (all-anew fans (rw later at covers))
  ]

  named-anew : (fans : List FanEntry) → names links title reach ≡ true → list_any (λ (fan : FanEntry). title_eq fan.title title) fans ≡ true → list_any (fan_covers number links) (map (set_anew title reach) fans) ≡ true
  named-anew [] named there = there
  named-anew (fan ∷ fans) named there = elim (cases_Bool (title_eq fan.title title)) [
    | inl same ↦
        let covers : fan_covers number links (set_anew title reach fan) ≡ true = rw same
        (and_from (ltb 0 number) (names links fan.title (wider fan.reach reach)) (lt-ltb 0 number (omega (arith, positive)))
        (subst (λ (t : PageTitle). names links t (wider fan.reach reach) ≡ true) (sym (title_eq-true fan.title title same)) (reach-names links title fan.reach reach named))) in
        or_left (fan_covers number links (set_anew title reach fan)) (list_any (fan_covers number links) (map (set_anew title reach) fans)) covers
    | inr other ↦ or_right (fan_covers number links (set_anew title reach fan)) (list_any (fan_covers number links) (map (set_anew title reach) fans)) (named-anew fans named (rw other at there))
  ]

  set-keeps : (lists : JobLists) → list_any (fan_covers number links) lists.fans ≡ true → list_any (fan_covers number links) (fan_set lists title reach).fans ≡ true
  set-keeps lists covers = elim (cases_Bool (has_fan lists title)) [
    | inl there ↦ rw there (all-anew lists.fans covers)
    | inr none ↦ rw none
        (list_any-append (fan_covers number links) lists.fans (record { number = lists.next; title = title; reach = reach; cursor = 0 } ∷ [])
        ∙ or_left (list_any (fan_covers number links) lists.fans) (list_any (fan_covers number links) (record { number = lists.next; title = title; reach = reach; cursor = 0 } ∷ [])) covers)
  ]

  set-covers : (lists : JobLists) → names links title reach ≡ true → list_any (fan_covers number links) (fan_set lists title reach).fans ≡ true
  set-covers lists named = elim (cases_Bool (has_fan lists title)) [
    | inl there ↦ rw there (named-anew lists.fans named there)
    | inr none ↦
        let new : FanEntry = record { number = lists.next; title = title; reach = reach; cursor = 0 } in
        let covers : fan_covers number links new ≡ true = and_from (ltb 0 number) (names links title reach) (lt-ltb 0 number (omega (arith, positive))) named in
        rw none
        (list_any-append (fan_covers number links) lists.fans (new ∷ [])
        ∙ or_right (list_any (fan_covers number links) lists.fans) (list_any (fan_covers number links) (new ∷ [])) (or_left (fan_covers number links new) false covers))
  ]

set-refresh : (lists : JobLists) (title : PageTitle) (reach : Reach) (number : ℕ) → has_refresh lists number ≡ true → has_refresh (fan_set lists title reach) number ≡ true
set-refresh lists title reach number there = elim (cases_Bool (has_fan lists title)) [ inl fan ↦ rw fan there | inr none ↦ rw none there ]

after-refresh : (stored : List PageRows) (lists : JobLists) (page : ℕ) (title : PageTitle) (reach : Reach) (number : ℕ) → has_refresh (refresh_queued lists page) number ≡ true → has_refresh (after_save stored lists page title reach) number ≡ true
after-refresh stored lists page title reach number there =
    cond_both _ _ _ (λ (after : JobLists). has_refresh after number ≡ true) (λ named. set-refresh (refresh_queued lists page) title reach number there) (λ nobody. there)

covered-kept : (stored : List PageRows) (lists : JobLists) (page : ℕ) (title : PageTitle) (reach : Reach) (number : ℕ) (links : PageRows) → 1 ≤ number → is_covered lists number links ≡ true → is_covered (after_save stored lists page title reach) number links ≡ true
covered-kept stored lists page title reach number links positive covered = elim (cases_Bool (has_refresh lists number)) [
  | inl there ↦
      or_left (has_refresh (after_save stored lists page title reach) number) (list_any (fan_covers number links) (after_save stored lists page title reach).fans)
      (after-refresh stored lists page title reach number (has_refresh-queued lists page number ∙ or_left (has_refresh lists number) (eqb page number) there))
  | inr none ↦
      let by_fan : list_any (fan_covers number links) lists.fans ≡ true = rw none at covered in
      let queued : list_any (fan_covers number links) (refresh_queued lists page).fans ≡ true = ap (list_any (fan_covers number links)) (fans-queued lists page) ∙ by_fan in
      or_right (has_refresh (after_save stored lists page title reach) number) (list_any (fan_covers number links) (after_save stored lists page title reach).fans)
      (cond_both _ _ _ (λ (after : JobLists). list_any (fan_covers number links) after.fans ≡ true) (λ named. set-keeps number links title reach positive (refresh_queued lists page) queued) (λ nobody. queued))
]

covered-named : (stored : List PageRows) (lists : JobLists) (page : ℕ) (title : PageTitle) (reach : Reach) (number : ℕ) (links : PageRows) → 1 ≤ number → some_page_names stored title reach ≡ true → names links title reach ≡ true → is_covered (after_save stored lists page title reach) number links ≡ true
covered-named stored lists page title reach number links positive someone named =
    let goes : (has_fan (refresh_queued lists page) title || some_page_names stored title reach) ≡ true = or_right (has_fan (refresh_queued lists page) title) (some_page_names stored title reach) someone in
    let covers = or_right (has_refresh (fan_set (refresh_queued lists page) title reach) number) (list_any (fan_covers number links) (fan_set (refresh_queued lists page) title reach).fans)
    (set-covers number links title reach positive (refresh_queued lists page) named) in
    subst (λ b. is_covered (cond b (fan_set (refresh_queued lists page) title reach) (refresh_queued lists page)) number links ≡ true) (sym goes) covers

-- ---- what is stored

one-more : (stored : List PageRows) (place : ℕ) → unwrap_or (slice_get (stored ++ no_rows ∷ []) place) no_rows ≡ unwrap_or (slice_get stored place) no_rows
one-more [] zero = refl
one-more [] (suc place) = refl
one-more (links ∷ stored) zero = refl
one-more (links ∷ stored) (suc place) = one-more stored place

stored-kept : (state : State) (title : PageTitle) (text : Option (List ℕ)) (moment number : ℕ) → stored_at (with_saved state title text moment) number ≡ stored_at state number
stored-kept state title text moment number = elim (cases_Bool (eqb number 0)) [
  | inl none ↦ rw none refl
  | inr more ↦ rw more
      (cond_both (is_some (page_number state.history title)) state.stored (state.stored ++ no_rows ∷ []) (λ (stored : List PageRows). unwrap_or (slice_get stored (number - 1)) no_rows ≡ unwrap_or (slice_get state.stored (number - 1)) no_rows)
      (λ old. refl) (λ new. one-more state.stored (number - 1)))
]

nothing-named : (title : PageTitle) (reach : Reach) → names no_rows title reach ≡ true → ⊥
nothing-named title Text named = let e : false ≡ true = named in cc
nothing-named title Both named = let e : false ≡ true = named in cc

named-at : (stored : List PageRows) (place : ℕ) (title : PageTitle) (reach : Reach) → names (unwrap_or (slice_get stored place) no_rows) title reach ≡ true → some_page_names stored title reach ≡ true
named-at [] place title reach named = absurd (nothing-named title reach named)
named-at (links ∷ stored) zero title reach named = or_left (names links title reach) (list_any (λ (l : PageRows). names l title reach) stored) named
named-at (links ∷ stored) (suc place) title reach named = or_right (names links title reach) (list_any (λ (l : PageRows). names l title reach) stored) (named-at stored place title reach named)

-- ---- the world

abbrev paged : ℕ → Option (List ℕ) → Option PageText
paged revision text = option_map (λ t. record { revision = revision; text = t }) text

is_some-paged : (revision : ℕ) (text : Option (List ℕ)) → is_some (paged revision text) ≡ is_some text
is_some-paged revision None = refl
is_some-paged revision (Some text) = refl

exists-stands : (h : History) (number : ℕ) → Stands h number → is_some (text_of_revision h number) ≡ not (eqb number 0)
exists-stands h number stands = elim (cases_Bool (eqb number 0)) [
  | inl none ↦ rw none refl
  | inr more ↦ elim stands [
    | inl none ↦ absurd (eqb-false number 0 more none)
    | inr there ↦ there ∙ sym (ap not more)
  ]
]

revision-other : (h : History) (title : PageTitle) (text : Option (List ℕ)) (moment : ℕ) (other : PageTitle) → other ≢ title → current_revision (saved h title text moment) other ≡ current_revision h other
unfolding saved
revision-other h title text moment other apart = number-other h.pages title other (cond (is_some text) (next_revision h) 0) apart

revision-own : (h : History) (title : PageTitle) (text : Option (List ℕ)) (moment : ℕ) → current_revision (saved h title text moment) title ≡ cond (is_some text) (next_revision h) 0
unfolding saved
revision-own h title text moment = number-own h.pages title (cond (is_some text) (next_revision h) 0)

pub pages-saved : (h : History) (title : PageTitle) (text : Option (List ℕ)) (moment : ℕ) → (saved h title text moment).pages ≡ with_current h.pages title (cond (is_some text) (next_revision h) 0)
unfolding saved
pages-saved h title text moment = refl

module _ (state : State) (title : PageTitle) (text : Option (List ℕ)) (moment : ℕ) (formed : IsWellFormed state) where
  abbrev next : State
  next = with_saved state title text moment

  abbrev reach : Reach
  reach = reach_of_save (page_exists state.history title) (is_some text)

  stands : (other : PageTitle) → Stands state.history (current_revision state.history other)
  stands other = stands-in state.history other state.history.pages (recursion_from_All (λ (page : Page). Stands state.history page.current) state.history.pages formed.texts)

  elsewhere : DifferOnlyAt title (world_of state) (world_of next)
  elsewhere other apart =
      let r = revision-other state.history title text moment other apart in
      let t : current_text next.history other ≡ current_text state.history other =
      ap (text_of_revision next.history) r ∙ text-kept state.history title text moment (current_revision state.history other) (stands other) in
      ap (λ n. paged n (current_text next.history other)) r ∙ ap (paged (current_revision state.history other)) t

  there-before : is_some (world_of state title) ≡ page_exists state.history title
  there-before =
      is_some-paged (current_revision state.history title) (current_text state.history title)
      ∙ exists-stands state.history (current_revision state.history title) (stands title)

  there-after : is_some (world_of next title) ≡ is_some text
  there-after =
      is_some-paged (current_revision next.history title) (current_text next.history title)
      ∙ ap (λ (t : Option (List ℕ)). is_some t) (ap (text_of_revision next.history) (revision-own state.history title text moment) ∙ text-own state.history title text moment)

  rows-kept : (page : PageTitle) → page ≢ title → (r : Reach) → r ≡ reach → names (rows (world_of state) page) title r ≡ false → rows (world_of next) page ≡ rows (world_of state) page
  rows-kept page apart Both is unnamed = rows-unnamed_both (world_of state) (world_of next) page title elsewhere apart unnamed
  rows-kept page apart Text is unnamed =
      rows-unnamed_text (world_of state) (world_of next) page title elsewhere apart
      (there-after ∙ (same (page_exists state.history title) (is_some text) (sym is) ∙ sym there-before)) unnamed
    where
      same : (a b : Bool) → reach_of_save a b ≡ Text → b ≡ a
      same true true text_only = refl
      same false false text_only = refl
      same true false text_only = absurd (let e : Both ≡ Text = text_only in cc)
      same false true text_only = absurd (let e : Both ≡ Text = text_only in cc)

  -- the page of the title itself has a refresh job
  own-covered : (number : ℕ) (page : Page) → 1 ≤ number → slice_get (with_current state.history.pages title (cond (is_some text) (next_revision state.history) 0)) (number - 1) ≡ Some page → page.title ≡ title → Covers next number
  own-covered number page positive got same =
      let at : page_to_save state.history title ≡ (number - 1) + 1 =
      number-of-own state.history.pages title (cond (is_some text) (next_revision state.history) 0) (number - 1) page formed.titles got same in
      let is : page_to_save state.history title ≡ number = omega (arith, at, positive) in
      or_left (has_refresh next.jobs number) (list_any (fan_covers number (stored_at next number)) next.jobs.fans)
      (after-refresh (stored_with state title) state.jobs (page_to_save state.history title) title reach number
      (has_refresh-queued state.jobs (page_to_save state.history title) number
      ∙ or_right (has_refresh state.jobs number) (eqb (page_to_save state.history title) number) (eq-eqb (page_to_save state.history title) number is)))

  -- a page of another title stays current, or its job or the title's fan job covers it
  other-sound : (number : ℕ) (page : Page) → 1 ≤ number → page.title ≢ title → IsCurrent state number page ⊎ Covers state number → IsCurrent next number page ⊎ Covers next number
  other-sound number page positive apart (inr covered) =
      inr (covered-kept (stored_with state title) state.jobs (page_to_save state.history title) title reach number (stored_at next number) positive
      (subst (λ (l : PageRows). is_covered state.jobs number l ≡ true) (sym (stored-kept state title text moment number)) covered))
  other-sound number page positive apart (inl current) = elim (cases_Bool (names (stored_at next number) title reach)) [
    | inl named ↦
        let more : eqb number 0 ≡ false = ne_eqb number 0 (λ none. omega (arith, none, positive)) in
        let at : stored_at next number ≡ unwrap_or (slice_get (stored_with state title) (number - 1)) no_rows = rw more refl in
        let someone = named-at (stored_with state title) (number - 1) title reach (subst (λ (l : PageRows). names l title reach ≡ true) at named) in
        inr (covered-named (stored_with state title) state.jobs (page_to_save state.history title) title reach number (stored_at next number) positive someone named)
    | inr unnamed ↦
        let is : stored_at next number ≡ rows (world_of state) page.title = stored-kept state title text moment number ∙ current in
        let kept = rows-kept page.title apart reach refl (subst (λ (l : PageRows). names l title reach ≡ false) is unnamed) in
        inl (is ∙ sym kept)
  ]

  sound-saved : IsSound state → IsSound next
  sound-saved sound number page there =
      let within = page-within next.history number page there in
      let more : eqb number 0 ≡ false = ne_eqb number 0 (λ none. omega (arith, none, within.0)) in
      let here : slice_get next.history.pages (number - 1) ≡ Some page = rw more at there in
      let got = subst (λ (pages : List Page). slice_get pages (number - 1) ≡ Some page) (pages-saved state.history title text moment) here in
      elim (cases_Bool (title_eq page.title title)) [
        | inl same ↦ inr (own-covered number page within.0 got (title_eq-true page.title title same))
        | inr differs ↦
            let apart = eq-apart page.title title differs in
            let old = page-other state.history.pages title (cond (is_some text) (next_revision state.history) 0) (number - 1) page got apart in
            let before : page_at state.history number ≡ Some page = rw more old in
            other-sound number page within.0 apart (sound number page before)
      ]

pub IsSound-saved : (most : ℕ) (state next : State) (journal : ℕ) (title : PageTitle) (text : Option (List ℕ)) (moment : ℕ) → IsWellFormed state → step_by most state journal (Save title text moment) ≡ Some next → IsSound state → IsSound next
IsSound-saved most state next journal title text moment formed done sound = elim (cases_Bool (can_save state.history title text)) [
  | inl can ↦
      let is : Some (with_saved state title text moment) ≡ Some next = rw can at done in
      let same : with_saved state title text moment ≡ next = cc in
      subst IsSound same (sound-saved state title text moment formed sound)
  | inr cannot ↦ absurd (let e : None ≡ Some next = rw cannot at done in cc)
]
