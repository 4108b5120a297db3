-- The history at a start, told by the present one: no save changes it.
use Rattle.std.proofs.Common.{◌≡◌, ◌≢◌, ℕ, zero, suc, ◌+◌, ◌≤◌, ◌<◌, Bool, true, false, cond, eqb, List, [], ◌∷◌, length, map, take, drop, unwrap_or, Option, Some, None, refl, sym, ap, ap₂, ◌∙◌, inl, inr, subst, arith, eq-eqb, ltb}
use Rattle.std.specs.Prelude.{find, is_some, option_map}
use Rattle.std.specs.List.{enumerate_from, position_or_len}
use Rattle.std.specs.Option.{option_or}
use Rattle.std.proofs.Math.Seq.{drop-length, take-length}
use Rattle.std.proofs.lemmas.Bool.{cases_Bool, ltb-false, ne_eqb}
use Rattle.std.proofs.lemmas.List.{drop-append-le, length-append, take-append-le}
use Rattle.std.proofs.lemmas.List.Folds.{find-append}
use Rattle.std.proofs.lemmas.Option.{option_and_then_some}
use Rattle.wk_text_rules.specs.Titles.{PageTitle, title_eq}
use Rattle.wk_page_rules.specs.History.{History, Page, Revision, current_revision, next_revision, page_to_save, saved, with_current}
use Rattle.wk_wiki_rules.specs.States.{State}
use Rattle.wk_wiki_rules.specs.Events.{Event, Save, Claim, Done, Back, Fan, step_by}
use Rattle.wk_wiki_rules.specs.Lives.{replay_from}
use Rattle.wk_wiki_laws.proofs.Formed.{no-fewer}
use Rattle.wk_wiki_laws.proofs.Histories.{history-saved, history-claimed, history-refreshed, history-given_back, history-fanned}
use Rattle.wk_wiki_rules.specs.Starts.{StartKept, first_later, history_before, kept_of, page_before, told_start}

-- ---- the place of a title's page

abbrev pub place_of : PageTitle → List Page → ℕ
place_of title pages = position_or_len (λ (page : Page). title_eq page.title title) pages

pub place-within : (title : PageTitle) (pages : List Page) → place_of title pages ≤ length pages
place-within title [] = omega arith
place-within title (page ∷ pages) = elim (cases_Bool (title_eq page.title title)) [
  | inl here ↦ rw here (omega arith)
  | inr later ↦ rw later (let below = place-within title pages in omega (arith, below))
]

pub page_to_save-is : (h : History) (title : PageTitle) → page_to_save h title ≡ place_of title h.pages + 1
page_to_save-is h title = elim (cases_Bool (ltb (place_of title h.pages) (length h.pages))) [
  | inl within ↦ rw within refl
  | inr past ↦
      let below = place-within title h.pages in
      let not_below = ltb-false (place_of title h.pages) (length h.pages) past in
      let last : length h.pages ≡ place_of title h.pages = omega (arith, below, not_below) in
      rw past (ap (λ n. n + 1) last)
]

-- ---- pages that are told

-- Of a list of pages in which one page has got another revision, each page is told as before, where this is so of that page
-- and of the others.
module _ (f g : ℕ × Page → Page) (at parent : ℕ) (others : (k : ℕ) (page : Page) → k ≢ at → f (k, page) ≡ g (k, page))
    (own : (page : Page) (number : ℕ) → page.current ≡ parent → f (at, record { title = page.title; current = number }) ≡ g (at, page)) where
  past : (a : ℕ) (pages : List Page) → at < a → map f (enumerate_from a pages) ≡ map g (enumerate_from a pages)
  past a [] below = refl
  past a (page ∷ pages) below = ap₂ (λ x xs. x ∷ xs) (others a page (λ same. omega (arith, same, below))) (past (a + 1) pages (omega (arith, below)))

  told-pages : (title : PageTitle) (number : ℕ) (pages : List Page) (p a : ℕ) → p ≤ length pages → a + place_of title pages ≡ at
      → unwrap_or (option_map (λ (page : Page). page.current) (find (λ (page : Page). title_eq page.title title) pages)) 0 ≡ parent
      → map f (enumerate_from a (take p (with_current pages title number))) ≡ map g (enumerate_from a (take p pages))
  told-pages title number pages zero a few is was = refl
  told-pages title number [] (suc p) a few is was = absurd (omega (arith, few))
  told-pages title number (page ∷ pages) (suc p) a few is was = elim (cases_Bool (title_eq page.title title)) [
    | inl same ↦
        let here : a ≡ at = (let e : a + 0 ≡ at = rw same at is in omega (arith, e)) in
        let now : page.current ≡ parent = rw same at was in
        rw same (ap₂ (λ x xs. x ∷ xs) (rw here (own page number now)) (past (a + 1) (take p pages) (omega (arith, here))))
    | inr differs ↦
        let later : a + (1 + place_of title pages) ≡ at = rw differs at is in
        let before = rw differs at was in
        rw differs (ap₂ (λ x xs. x ∷ xs) (others a page (λ same. omega (arith, same, later)))
        (told-pages title number pages p (a + 1) (omega (arith, few)) (omega (arith, later)) before))
  ]

-- ---- a save

module _ (h : History) (title : PageTitle) (text : Option (List ℕ)) (moment r p : ℕ) (revisions : r ≤ length h.revisions) (pages : p ≤ length h.pages) where
  abbrev after : History
  after = saved h title text moment

  abbrev new : Revision
  new = record { page = page_to_save h title; parent = current_revision h title; moment = moment; text = text }

  abbrev is_of : ℕ → Revision → Bool
  is_of page revision = eqb revision.page page

  later-is : (page : ℕ) → first_later after r page ≡ option_or (first_later h r page) (cond (eqb (page_to_save h title) page) (Some new) None)
  unfolding saved
  later-is page =
      ap (λ (rs : List Revision). find (is_of page) rs) (drop-append-le r h.revisions (new ∷ []) revisions)
      ∙ find-append (is_of page) (drop r h.revisions) (new ∷ [])

  abbrev told : Option Revision → Page → Page
  told o page = elim o [ None ↦ page | Some later ↦ record page { current = later.parent } ]

  or-none : (o : Option Revision) → option_or o None ≡ o
  or-none None = refl
  or-none (Some later) = refl

  other-pages : (k : ℕ) (page : Page) → k ≢ page_to_save h title → page_before after r (k, page) ≡ page_before h r (k, page)
  other-pages k page apart =
      let other : eqb (page_to_save h title) k ≡ false = ne_eqb (page_to_save h title) k (λ same. apart (sym same)) in
      let same : first_later after r k ≡ first_later h r k = later-is k ∙ (ap (λ b. option_or (first_later h r k) (cond b (Some new) None)) other ∙ or-none (first_later h r k)) in
      ap (λ o. told o page) same

  own-told : (o : Option Revision) (page : Page) (number : ℕ) → page.current ≡ current_revision h title
      → told (option_or o (Some new)) (record { title = page.title; current = number }) ≡ told o page
  own-told None page number was = ap (λ n. let one : Page = record { title = page.title; current = n } in one) (sym was)
  own-told (Some later) page number was = refl

  own-page : (page : Page) (number : ℕ) → page.current ≡ current_revision h title
      → page_before after r (page_to_save h title, record { title = page.title; current = number }) ≡ page_before h r (page_to_save h title, page)
  own-page page number was =
      let one = page_to_save h title in
      let here : eqb one one ≡ true = eq-eqb one one refl in
      let same : first_later after r one ≡ option_or (first_later h r one) (Some new) = later-is one ∙ ap (λ b. option_or (first_later h r one) (cond b (Some new) None)) here in
      ap (λ o. told o (record { title = page.title; current = number })) same ∙ own-told (first_later h r one) page number was

  pub before-saved : history_before r p after ≡ history_before r p h
  unfolding saved
  before-saved =
      let place : 1 + place_of title h.pages ≡ page_to_save h title = sym (page_to_save-is h title ∙ omega arith) in
      ap₂ (λ rs ps. let past_history : History = record { revisions = rs; pages = ps } in past_history)
      (take-append-le r h.revisions (new ∷ []) revisions)
      (told-pages (page_before after r) (page_before h r) (page_to_save h title) (current_revision h title) other-pages own-page title
      (cond (is_some text) (next_revision h) 0) h.pages p 1 pages place refl)

-- ---- a start

pages-now : (h : History) (a : ℕ) (pages : List Page) → map (page_before h (length h.revisions)) (enumerate_from a pages) ≡ pages
pages-now h a [] = refl
pages-now h a (page ∷ pages) =
    let none : first_later h (length h.revisions) a ≡ None = ap (λ (rs : List Revision). find (λ (r : Revision). eqb r.page a) rs) (drop-length h.revisions) in
    ap₂ (λ x xs. x ∷ xs) (ap (λ (o : Option Revision). (elim o as (λ q. Page) [ None ↦ page | Some later ↦ record page { current = later.parent } ])) none) (pages-now h (a + 1) pages)

pub told-now : (state : State) → told_start (kept_of state) state.history ≡ state
told-now state =
    let h = state.history in
    ap₂ (λ rs ps. let s : State = record { history = record { revisions = rs; pages = ps }; stored = state.stored; jobs = state.jobs } in s)
    (take-length h.revisions)
    (ap (λ ps. map (page_before h (length h.revisions)) (enumerate_from 1 ps)) (take-length h.pages) ∙ pages-now h 1 h.pages)

same-told : (kept : StartKept) (old later : History) → later ≡ old → told_start kept later ≡ told_start kept old
same-told kept old later same = ap (told_start kept) same

pub told-stepped : (most : ℕ) (kept : StartKept) (state next : State) (journal : ℕ) (event : Event) → kept.revisions ≤ length state.history.revisions → kept.pages ≤ length state.history.pages
    → step_by most state journal event ≡ Some next → told_start kept next.history ≡ told_start kept state.history
told-stepped most kept state next journal (Save title text moment) revisions pages done =
    same-told kept (saved state.history title text moment) next.history (history-saved most state next journal title text moment done)
    ∙ ap (λ (h : History). let s : State = record { history = h; stored = kept.stored; jobs = kept.jobs } in s)
    (before-saved state.history title text moment kept.revisions kept.pages revisions pages)
told-stepped most kept state next journal Claim revisions pages done = same-told kept state.history next.history (history-claimed most state next journal done)
told-stepped most kept state next journal (Done ticket) revisions pages done = same-told kept state.history next.history (history-refreshed most state next journal ticket done)
told-stepped most kept state next journal (Back ticket) revisions pages done = same-told kept state.history next.history (history-given_back most state next journal ticket done)
told-stepped most kept state next journal Fan revisions pages done = same-told kept state.history next.history (history-fanned most state next journal done)

-- ---- no revision and no page goes

abbrev pub NoFewer : History → History → Type 0
NoFewer old new = (length old.revisions ≤ length new.revisions) × (length old.pages ≤ length new.pages)

fewer-same : (old new : History) → new ≡ old → NoFewer old new
fewer-same old new same = subst (NoFewer old) (sym same) (omega arith, omega arith)

fewer-saved : (h : History) (title : PageTitle) (text : Option (List ℕ)) (moment : ℕ) → NoFewer h (saved h title text moment)
unfolding saved
fewer-saved h title text moment =
    let new : Revision = record { page = page_to_save h title; parent = current_revision h title; moment = moment; text = text } in
    let longer = length-append h.revisions (new ∷ []) in
    (omega (arith, longer), no-fewer title (cond (is_some text) (next_revision h) 0) h.pages)

pub no_fewer-stepped : (most : ℕ) (state next : State) (journal : ℕ) (event : Event) → step_by most state journal event ≡ Some next → NoFewer state.history next.history
no_fewer-stepped most state next journal (Save title text moment) done =
    subst (NoFewer state.history) (sym (history-saved most state next journal title text moment done)) (fewer-saved state.history title text moment)
no_fewer-stepped most state next journal Claim done = fewer-same state.history next.history (history-claimed most state next journal done)
no_fewer-stepped most state next journal (Done ticket) done = fewer-same state.history next.history (history-refreshed most state next journal ticket done)
no_fewer-stepped most state next journal (Back ticket) done = fewer-same state.history next.history (history-given_back most state next journal ticket done)
no_fewer-stepped most state next journal Fan done = fewer-same state.history next.history (history-fanned most state next journal done)

-- ---- a journal

told-from : (most : ℕ) (kept : StartKept) (state last : State) (journal : ℕ) (events : List Event) → kept.revisions ≤ length state.history.revisions → kept.pages ≤ length state.history.pages
    → replay_from most state journal events ≡ Some last → told_start kept last.history ≡ told_start kept state.history
told-from most kept state last journal [] revisions pages done = let same : state ≡ last = cc in ap (λ (s : State). told_start kept s.history) (sym same)
told-from most kept state last journal (event ∷ events) revisions pages done =
    option_and_then_some (λ next. replay_from most next (journal + 1) events) (step_by most state journal event) last done
    (λ next stepped later.
    let more = no_fewer-stepped most state next journal event stepped in
    let more_revisions = more.0 in
    let more_pages = more.1 in
    told-from most kept next last (journal + 1) events (omega (arith, revisions, more_revisions)) (omega (arith, pages, more_pages)) later
    ∙ told-stepped most kept state next journal event revisions pages stepped)

pub told-replayed : (most : ℕ) (start last : State) (journal : ℕ) (events : List Event) → replay_from most start journal events ≡ Some last → told_start (kept_of start) last.history ≡ start
told-replayed most start last journal events done = told-from most (kept_of start) start last journal events (omega arith) (omega arith) done ∙ told-now start
