-- What calls with full limits keep, so that the tables of the state are good.
use Rattle.std.proofs.Common.{◌≡◌, ℕ, zero, suc, ◌+◌, ◌-◌, ◌≤◌, ◌<◌, ◌^◌, pos, Bool, true, false, cond, eqb, ltb, leb, not, ◌&&◌, ◌||◌, List, [], ◌∷◌, ◌++◌, length, map, set, take, drop, fold, max, unwrap_or, Option, Some, None, refl, sym, ap, ◌∙◌, inl, inr, subst, arith}
use Rattle.std.specs.Prelude.{All, IfSome, slice_get, option_map, is_some, is_none}
use Rattle.std.specs.List.{AllByRecursion, list_any, last_or}
use Rattle.std.specs.Ordering.{is_lt}
use Rattle.std.proofs.lemmas.Bool.{cases_Bool, cond_both, and_parts, or_parts, eqb-true, ltb-false}
use Rattle.std.proofs.lemmas.List.{length-append}
use Rattle.std.proofs.lemmas.List.Elements.{All-weaker, recursion_from_All}
use Rattle.wk_text_rules.specs.Titles.{PageTitle, title_eq, title_cmp, is_virtual, is_normal, is_page_title}
use Rattle.wk_page_rules.specs.History.{History, Page, page_number, page_exists, text_bytes, can_save, page_to_save}
use Rattle.wk_page_rules.specs.Kept.{kept}
use Rattle.wk_page_rules.specs.declared.Limit.{Limit}
use Rattle.wk_page_rules.specs.declared.Limit.TheVariants.{Pages, Revisions, Text}
use Rattle.wk_page_rules.specs.Verdict.{EditAsked, MostHeld, Refusal, Verdict, refuse, no_change, accept, with_room, judged, judged_at, real_title, limit_passed, is_same_text, is_conflict, is_journal_full, body_bytes, max_text, max_job, content_too_big, article_exists, missing_title, edit_conflict, wiki_full, journal_full, invalid_title, max_pages, max_texts}
use Rattle.wk_page_rules.specs.History.{current_revision, current_text}
use Rattle.wk_page_rules.specs.declared.Reach.{Reach}
use Rattle.wk_table_rules.specs.Rows.{PageColumns, category_title}
use Rattle.wk_table_rules.specs.GoodStore.{IsGood, has_good_id}
use Rattle.wk_table_laws.specs.EachGood.{GoodAfter, EachGood, KeepsRules}
use Rattle.wk_table_laws.specs.Premises.{is_next_title, is_next_member}
use Rattle.wk_table_laws.proofs.FirstBad.{IsGood-from_rules}
use Rattle.wk_table_laws.proofs.Pairs.{Pairs, each-append, each-weaker, EachGood-from_passes}
use Rattle.wk_wiki_rules.specs.Jobs.{FanEntry, JobLists, IsNumbered, IsOneAPage, IsOneATitle, first_queued, page_held_by, has_fan, has_refresh, refresh_queued, claimed_by, given_back, fan_set, set_anew, with_first_cursor, left, numbers_of, pages_of}
use Rattle.wk_wiki_rules.specs.Steps.{all_queued, after_serving, cursor_behind, next_served, reach_of_save, reopened_jobs}
use Rattle.wk_wiki_rules.specs.Users.{users}
use Rattle.wk_wiki_rules.proofs.JobLemmas.{IsOneAPage-none, IsOneAPage-claimed, IsOneAPage-given_back, IsOneAPage-reopened, IsOneAPage-dropped, IsOneAPage-saved, IsOneAPage-served, IsOneATitle-none, IsOneATitle-saved, IsOneATitle-served, IsNumbered-none, IsNumbered-claimed, IsNumbered-given_back, IsNumbered-dropped, IsNumbered-saved, IsNumbered-served, IsNumbered-reopened}
use Rattle.wk_table_laws.specs.InOrder.{IsInOrder}
use Rattle.wk_table_laws.proofs.FanOrder.{IsInOrder-saved, IsInOrder-served}
use Rattle.wk_page_rules.specs.PageRows.{PageRows, Member, no_rows}
use Rattle.wk_view_laws.specs.Titles.{IsPageTitle, IsCategoryTitle, IsInTitleOrder, RowsAreInOrder, RowsHavePageTitles}
use Rattle.wk_view_laws.proofs.OrderLemmas.{order-rows, pages-rows}
use Rattle.wk_title_laws.proofs.NormalRows.{normal-page, page-title}
use Rattle.wk_view_rules.specs.Rows.{rows}
use Rattle.wk_wiki_rules.specs.States.{State, no_state, title_at, world_of}
use Rattle.wk_wiki_rules.specs.Events.{Event, Save, Claim, Done, Back, Fan, stored_with, with_saved, with_refreshed, with_jobs, step_by}
use Rattle.wk_wiki_rules.specs.Lives.{reopened}
use Rattle.wk_wiki_rules.specs.Tables.{tables_of, page_row}
use Rattle.wk_wiki_rules.specs.Verdicts.{journal_use, verdict_in}
use Rattle.wk_wiki_laws.specs.WellFormed.{IsWellFormed}
use Rattle.wk_wiki_rules.specs.Calls.{IsMade, by_save, by_claim, by_finish, by_give_back, by_fan}
use Rattle.wk_wiki_laws.specs.Reached.{IsWithinFull}
use Rattle.wk_wiki_laws.proofs.SavedHistory.{Stands}
use Rattle.wk_wiki_laws.proofs.Sound.{given}
use Rattle.wk_wiki_laws.proofs.Refreshed.{done-by}
use Rattle.wk_wiki_laws.proofs.Fanned.{fans-queued, fans-all_queued}
use Rattle.wk_wiki_laws.proofs.Served.{found, uses, users-is}
use Rattle.wk_wiki_laws.proofs.FanRuns.{found-few}
use Rattle.wk_wiki_laws.proofs.Formed.{Within, users-within, placed-in, IsWellFormed-none, IsWellFormed-step, IsWellFormed-reopened}
use Rattle.wk_wiki_laws.specs.Kept.{AreGoodRows, FanFits, IsKept, history_tables}
use Rattle.wk_wiki_laws.proofs.TableLinks.{AreGoodRows-none, links-good, categories-good, redirects-good}
use Rattle.wk_wiki_laws.proofs.TableJobs.{jobs-good}
use Rattle.wk_wiki_laws.proofs.TableHistory.{length-rows, saved-old, saved-new}

-- ---- the tables

few-after : (before rows : List PageColumns) → length before ≤ max_pages → GoodAfter has_good_id before rows → length before + length rows ≤ max_pages
few-after before [] few good = omega (arith, few)
few-after before (row ∷ rows) few good =
    let parts = and_parts (eqb row.page_id (length before + 1)) (leb row.page_id max_pages) good.0 in
    let id = eqb-true row.page_id (length before + 1) parts.0 in
    let longer = length-append before (row ∷ []) in
    let low : row.page_id ≤ max_pages = leb-true row.page_id max_pages parts.1 in
    let later = few-after (before ++ row ∷ []) rows (omega (arith, id, longer, low)) good.1 in
    omega (arith, later, longer)
  where
    leb-true : (a b : ℕ) → leb a b ≡ true → a ≤ b
    leb-true a b at = grind arith

pub few-pages : (h : History) → KeepsRules (history_tables h) → length h.pages ≤ max_pages
few-pages h keeps =
    let few = few-after [] (history_tables h).pages (omega arith) keeps.ids in
    let same = length-rows (page_row h) 1 h.pages in
    omega (arith, few, same)

pub IsGood-kept : (state : State) → IsKept state → IsGood (tables_of state)
IsGood-kept state keeps = IsGood-from_rules (tables_of state) (record {
  ids = keeps.history.ids;
  titles = keeps.history.titles;
  revisions = keeps.history.revisions;
  parents = keeps.history.parents;
  latest = keeps.history.latest;
  pagelinks = links-good state (λ links. links.links) (λ links good. good.links) keeps.formed.stored keeps.links;
  templatelinks = links-good state (λ links. links.templates) (λ links good. good.templates) keeps.formed.stored keeps.links;
  existlinks = links-good state (λ links. links.exists) (λ links good. good.exists) keeps.formed.stored keeps.links;
  categorylinks = categories-good state keeps.formed.stored keeps.links;
  redirects = redirects-good state keeps.formed.stored keeps.links;
  jobs = jobs-good state keeps.next keeps.formed.titles (recursion_from_All (Within (length state.history.pages)) (pages_of state.jobs) keeps.formed.jobs)
      keeps.numbered keeps.one_page keeps.one_title keeps.fans;
  version = refl;
})

-- ---- a new wiki

pub IsKept-none : IsKept no_state
IsKept-none = record {
  formed = IsWellFormed-none;
  history = record { ids = tt; titles = tt; revisions = tt; parents = tt; latest = tt; pagelinks = tt; templatelinks = tt; existlinks = tt; categorylinks = tt; redirects = tt; jobs = tt; version = refl };
  links = tt;
  numbered = IsNumbered-none;
  one_page = IsOneAPage-none;
  one_title = IsOneATitle-none;
  in_order = tt;
  next = omega arith;
  fans = tt;
}

-- ---- jobs alone

pub kept-jobs : (state : State) (lists : JobLists) → IsKept state → IsWellFormed (with_jobs state lists) → IsNumbered lists → IsOneAPage lists → IsOneATitle lists → IsInOrder lists → lists.next ≤ 2 ^ 63 → AllByRecursion (FanFits max_pages) lists.fans
    → IsKept (with_jobs state lists)
kept-jobs state lists keeps formed numbered one_page one_title in_order next fans = record {
  formed = formed;
  history = keeps.history;
  links = keeps.links;
  numbered = numbered;
  one_page = one_page;
  one_title = one_title;
  in_order = in_order;
  next = next;
  fans = fans;
}

pub greatest-within : (most start : ℕ) (numbers : List ℕ) → start < most → AllByRecursion (λ n. (1 ≤ n) × (n < most)) numbers → fold max start numbers < most
greatest-within most start [] low all = low
greatest-within most start (n ∷ numbers) low all = greatest-within most (max start n) numbers (let below = all.0.1 in omega (arith, low, below)) all.1

pub IsKept-reopened : (state : State) → IsKept state → IsKept (reopened state)
IsKept-reopened state keeps =
    let all = recursion_from_All (λ n. (1 ≤ n) × (n < state.jobs.next)) (numbers_of state.jobs) keeps.numbered.bounded in
    let greatest = greatest-within state.jobs.next 0 (numbers_of state.jobs) (let low = keeps.numbered.positive in omega (arith, low)) all in
    kept-jobs state (reopened_jobs state.jobs) keeps (IsWellFormed-reopened state keeps.formed) (IsNumbered-reopened state.jobs keeps.numbered) (IsOneAPage-reopened state.jobs keeps.one_page) keeps.one_title keeps.in_order
    (let bound = keeps.next in omega (arith, greatest, bound)) keeps.fans

-- ---- a claim, and a refresh that is given back

IsKept-claimed : (state : State) (ticket : ℕ) → IsKept state → IsWellFormed (with_jobs state (claimed_by state.jobs ticket)) → IsKept (with_jobs state (claimed_by state.jobs ticket))
IsKept-claimed state ticket keeps formed =
    kept-jobs state (claimed_by state.jobs ticket) keeps formed (IsNumbered-claimed state.jobs ticket keeps.numbered) (IsOneAPage-claimed state.jobs ticket keeps.one_page) keeps.one_title keeps.in_order keeps.next keeps.fans

IsKept-given_back : (state : State) (page : ℕ) → IsKept state → IsWellFormed (with_jobs state (given_back state.jobs page)) → IsKept (with_jobs state (given_back state.jobs page))
IsKept-given_back state page keeps formed =
    kept-jobs state (given_back state.jobs page) keeps formed (IsNumbered-given_back state.jobs page keeps.numbered) (IsOneAPage-given_back state.jobs page keeps.one_page) keeps.one_title keeps.in_order keeps.next keeps.fans

-- ---- a refresh

module _ {X : Type 0} (title_of : X → PageTitle) where
  abbrev before : X → X → Bool
  before a b = is_lt (title_cmp (title_of a) (title_of b))

  in-order : (xs : List X) → IsInTitleOrder title_of xs → Pairs before xs
  in-order [] pairs = tt
  in-order (x ∷ xs) pairs = (
    recursion_from_All (λ y. before x y ≡ true) xs (λ k d within. ap is_lt (pairs 0 (suc k) d (omega arith) (omega (arith, within)))),
    in-order xs (λ i j d lt within. pairs (suc i) (suc j) d (omega (arith, lt)) (omega (arith, within))),
  )

titles-good : (titles : List PageTitle) → All IsPageTitle titles → IsInTitleOrder (λ title. title) titles → EachGood is_next_title titles
titles-good titles pages order =
    EachGood-from_passes (λ (a b : PageTitle). is_lt (title_cmp a b)) is_page_title is_next_title (λ earlier title. refl) titles (record {
      alone = recursion_from_All (λ title. is_page_title title ≡ true) titles (All-weaker IsPageTitle (λ title. is_page_title title ≡ true) page-title titles pages);
      paired = in-order (λ (title : PageTitle). title) titles order;
    })

category-same : (title : PageTitle) → title.ns ≡ pos 14 → category_title title.key ≡ title
category-same title is = ap (λ ns. let t : PageTitle = record { ns = ns; key = title.key } in t) (sym is)

-- the title of a member's category, by its key
abbrev category_of : Member → PageTitle
category_of member = category_title member.category.key

members-passes : (members : List Member) → AllByRecursion (λ (m : Member). IsCategoryTitle m.category) members → Pairs (before (λ (m : Member). m.category)) members
    → AllByRecursion (λ (m : Member). is_normal (category_of m) ≡ true) members × (Pairs (before category_of) members × AllByRecursion (λ (m : Member). m.category.ns ≡ pos 14) members)
members-passes [] titles order = (tt, (tt, tt))
members-passes (m ∷ members) titles order =
    let later = members-passes members titles.1 order.1 in
    let is = category-same m.category titles.0.1 in (
      (subst (λ t. is_normal t ≡ true) (sym is) (normal-page m.category titles.0.0), later.0),
      ((ahead members titles.1 order.0, later.1.0), (titles.0.1, later.1.1)),
    )
  where
    ahead : (rest : List Member) → AllByRecursion (λ (n : Member). IsCategoryTitle n.category) rest → AllByRecursion (λ (n : Member). is_lt (title_cmp m.category n.category) ≡ true) rest
        → AllByRecursion (λ (n : Member). is_lt (title_cmp (category_title m.category.key) (category_of n)) ≡ true) rest
    ahead [] each less = tt
    ahead (n ∷ rest) each less = (
      subst (λ t. is_lt (title_cmp t (category_title n.category.key)) ≡ true) (sym (category-same m.category titles.0.1))
          (subst (λ t. is_lt (title_cmp m.category t) ≡ true) (sym (category-same n.category each.0.1)) less.0),
      ahead rest each.1 less.1,
    )

redirect-real : (o : Option PageTitle) → IfSome o IsPageTitle → IfSome o (λ title. is_page_title title ≡ true)
redirect-real None page = tt
redirect-real (Some title) page = page-title title page

rows-good : (r : PageRows) → RowsAreInOrder r → RowsHavePageTitles r → AreGoodRows r
rows-good r order titles =
    let members = members-passes r.members (recursion_from_All (λ (m : Member). IsCategoryTitle m.category) r.members titles.members) (in-order (λ (m : Member). m.category) r.members order.members) in
    record {
      templates = titles-good r.templates titles.templates order.templates;
      exists = titles-good r.exists titles.exists order.exists;
      links = titles-good r.links titles.links order.links;
      members = EachGood-from_passes (λ (a b : Member). is_lt (title_cmp (category_of a) (category_of b))) (λ m. is_normal (category_of m)) is_next_member (λ earlier m. refl) r.members
          (record { alone = members.0; paired = members.1.0 });
      categories = members.1.1;
      redirect = redirect-real r.redirect titles.redirect;
    }

set-each : {X : Type 0} (P : X → Type 0) (xs : List X) (place : ℕ) (x : X) → P x → AllByRecursion P xs → AllByRecursion P (set xs place x)
set-each P [] place x own all = tt
set-each P (y ∷ xs) zero x own all = (own, all.1)
set-each P (y ∷ xs) (suc place) x own all = (all.0, set-each P xs place x own all.1)

IsKept-refreshed : (state : State) (page : ℕ) → IsKept state → IsWellFormed (with_refreshed state page) → IsKept (with_refreshed state page)
IsKept-refreshed state page keeps formed =
    let title = title_at state.history page in record {
      formed = formed;
      history = keeps.history;
      links = set-each AreGoodRows state.stored (page - 1) (rows (world_of state) title)
          (rows-good (rows (world_of state) title) (order-rows (world_of state) title) (pages-rows (world_of state) title)) keeps.links;
      numbered = IsNumbered-dropped state.jobs page keeps.numbered;
      one_page = IsOneAPage-dropped state.jobs page keeps.one_page;
      one_title = keeps.one_title;
      in_order = keeps.in_order;
      next = keeps.next;
      fans = keeps.fans;
    }

-- ---- a fan

next-queued : (lists : JobLists) (page : ℕ) → (refresh_queued lists page).next ≤ lists.next + 1
next-queued lists page = elim (cases_Bool (has_refresh lists page)) [ inl there ↦ rw there (omega arith) | inr none ↦ rw none (omega arith) ]

pub next-all_queued : (lists : JobLists) (pages : List ℕ) → (all_queued lists pages).next ≤ lists.next + length pages
next-all_queued lists [] = omega arith
next-all_queued lists (page ∷ pages) =
    let first = next-queued lists page in
    let later = next-all_queued (refresh_queued lists page) pages in
    omega (arith, first, later)

length-taken : {X : Type 0} (most : ℕ) (xs : List X) → length (take most xs) ≤ length xs
length-taken zero [] = omega arith
length-taken zero (x ∷ xs) = omega arith
length-taken (suc most) [] = omega arith
length-taken (suc most) (x ∷ xs) = let later = length-taken most xs in omega (arith, later)

users-few : (stored : List PageRows) (fan : FanEntry) (most : ℕ) → length (users stored fan.title fan.reach fan.cursor most) ≤ length stored
users-few stored fan most =
    let taken = length-taken most (found (uses fan.title fan.reach fan.cursor) 1 stored) in
    let few = found-few (uses fan.title fan.reach fan.cursor) 1 stored in
    rw (users-is stored fan.title fan.reach fan.cursor most) (omega (arith, taken, few))

last-within : (n d : ℕ) (o : Option ℕ) (ns : List ℕ) → unwrap_or o d ≤ n → AllByRecursion (Within n) ns → unwrap_or (last_or o ns) d ≤ n
last-within n d o [] low all = low
last-within n d o (m ∷ ns) low all = last-within n d (Some m) ns all.0.1 all.1

fits-dropped : (n : ℕ) (fans : List FanEntry) → AllByRecursion (FanFits n) fans → AllByRecursion (FanFits n) (drop 1 fans)
fits-dropped n [] all = tt
fits-dropped n (fan ∷ fans) all = all.1

fits-moved : (n cursor : ℕ) (fans : List FanEntry) → cursor ≤ n → AllByRecursion (FanFits n) fans → AllByRecursion (FanFits n) (with_first_cursor fans cursor)
fits-moved n cursor [] low all = tt
fits-moved n cursor (fan ∷ fans) low all = ((all.0.0, low), all.1)

first-fits : (n : ℕ) (fans : List FanEntry) (fan : FanEntry) → slice_get fans 0 ≡ Some fan → AllByRecursion (FanFits n) fans → FanFits n fan
first-fits n [] fan there all = absurd (let e : None ≡ Some fan = there in cc)
first-fits n (x ∷ fans) fan there all = let is : x ≡ fan = (let e : Some x ≡ Some fan = there in cc) in subst (FanFits n) is all.0

IsKept-served : (most : ℕ) (state : State) (fan : FanEntry) → slice_get state.jobs.fans 0 ≡ Some fan → state.jobs.next ≤ max_job → IsKept state → IsWellFormed (with_jobs state (after_serving state.stored most state.jobs fan))
    → IsKept (with_jobs state (after_serving state.stored most state.jobs fan))
IsKept-served most state fan first low keeps formed =
    let n = length state.history.pages in
    let served = next_served state.stored most fan in
    let few = users-few state.stored fan most in
    let queued = all_queued state.jobs served in
    let pages = few-pages state.history keeps.history in
    let same = keeps.formed.stored in
    let more = next-all_queued state.jobs served in
    let next : queued.next ≤ 2 ^ 63 = omega (arith, few, pages, same, more, low) in
    let within : AllByRecursion (Within n) served = subst (λ m. AllByRecursion (Within m) served) same (users-within state.stored fan most) in
    let fits = first-fits max_pages state.jobs.fans fan first keeps.fans in
    let cursor = last-within max_pages fan.cursor None served fits.1 (each-weaker (Within n) (Within max_pages) (λ m inside. (inside.0, let low_page = inside.1 in omega (arith, low_page, pages))) served within) in
    let fans : AllByRecursion (FanFits max_pages) queued.fans = rw (fans-all_queued state.jobs served) keeps.fans in
    kept-jobs state (after_serving state.stored most state.jobs fan) keeps formed (IsNumbered-served state.stored most state.jobs fan keeps.numbered) (IsOneAPage-served state.stored most state.jobs fan keeps.one_page)
    (IsOneATitle-served state.stored most state.jobs fan keeps.one_title) (IsInOrder-served state.stored most state.jobs fan keeps.in_order)
    (cond_both _ _ _ (λ (after : JobLists). after.next ≤ 2 ^ 63) (λ nobody. next) (λ others. next))
    (cond_both _ _ _ (λ (after : JobLists). AllByRecursion (FanFits max_pages) after.fans) (λ nobody. fits-dropped max_pages queued.fans fans) (λ others. fits-moved max_pages (cursor_behind served fan.cursor) queued.fans cursor fans))

-- ---- what an accepted edit is

-- the limits leave room for the save
pub record LeavesRoom (state : State) (title : PageTitle) (text : Option (List ℕ)) : Type 0 where
  pub next : state.jobs.next ≤ max_job
  pub short : body_bytes text ≤ max_text
  pub pages : list_any (λ (page : Page). title_eq page.title title) state.history.pages ≡ false → length state.history.pages + 1 ≤ max_pages
  pub room : text_bytes state.history + body_bytes text ≤ max_texts

pub with_room-accept : (full : Bool) (v : Verdict) (title : PageTitle) (text : Option (List ℕ)) → with_room full v ≡ accept title text → (full ≡ false) × (v ≡ accept title text)
with_room-accept full (refuse r) title text is = absurd (let e : refuse r ≡ accept title text = is in cc)
with_room-accept full (no_change t) title text is = absurd (let e : no_change t ≡ accept title text = is in cc)
with_room-accept true (accept t x) title text is = absurd (let e : refuse journal_full ≡ accept title text = is in cc)
with_room-accept false (accept t x) title text is = (refl, is)

pub not-refused : (b : Bool) (r : Refusal) (rest : Verdict) (title : PageTitle) (text : Option (List ℕ)) → cond b (refuse r) rest ≡ accept title text → (b ≡ false) × (rest ≡ accept title text)
not-refused true r rest title text is = absurd (let e : refuse r ≡ accept title text = is in cc)
not-refused false r rest title text is = (refl, is)

pub changed : (b : Bool) (t : PageTitle) (rest : Verdict) (title : PageTitle) (text : Option (List ℕ)) → cond b (no_change t) rest ≡ accept title text → rest ≡ accept title text
changed true t rest title text is = absurd (let e : no_change t ≡ accept title text = is in cc)
changed false t rest title text is = is

pub within-limits : (o : Option Limit) (t title : PageTitle) (x text : Option (List ℕ)) → (elim o as (λ p. Verdict) [ None ↦ accept t x | Some limit ↦ refuse (wiki_full limit) ]) ≡ accept title text → (o ≡ None) × ((t ≡ title) × (x ≡ text))
within-limits None t title x text is = let e : accept t x ≡ accept title text = is in (refl, (cc, cc))
within-limits (Some limit) t title x text is = absurd (let e : refuse (wiki_full limit) ≡ accept title text = is in cc)

none-passed : (a b c : Bool) → cond a (Some Pages) (cond b (Some Revisions) (cond c (Some Text) None)) ≡ None → (a ≡ false) × (c ≡ false)
none-passed true b c is = absurd (let e : Some Pages ≡ None = is in cc)
none-passed false true c is = absurd (let e : Some Revisions ≡ None = is in cc)
none-passed false false true is = absurd (let e : Some Text ≡ None = is in cc)
none-passed false false false is = (refl, refl)

le-false : (a b : ℕ) → leb a b ≡ false → b < a
le-false a b at = grind arith

module _ (most : MostHeld) (full : IsWithinFull most) (state : State) where
  at-title : (edit : EditAsked) (t title : PageTitle) (x text : Option (List ℕ)) → judged_at state.history most edit t x ≡ accept title text → state.jobs.next ≤ max_job → LeavesRoom state title text
  at-title edit t title x text is low =
      let h = state.history in
      let current = current_revision h t in
      let rest5 = elim (limit_passed h most t x) as (λ p. Verdict) [ None ↦ accept t x | Some limit ↦ refuse (wiki_full limit) ] in
      let rest4 = cond (is_same_text (current_text h t) x) (no_change t) rest5 in
      let rest3 = cond (is_conflict edit.base current) (refuse (edit_conflict current)) rest4 in
      let rest2 = cond ((edit.no_create || is_none x) && not (page_exists h t)) (refuse missing_title) rest3 in
      let rest1 = cond (edit.create_only && page_exists h t) (refuse article_exists) rest2 in
      let one = not-refused (ltb max_text (body_bytes x)) content_too_big rest1 title text is in
      let two = not-refused (edit.create_only && page_exists h t) article_exists rest2 title text one.1 in
      let three = not-refused ((edit.no_create || is_none x) && not (page_exists h t)) missing_title rest3 title text two.1 in
      let four = not-refused (is_conflict edit.base current) (edit_conflict current) rest4 title text three.1 in
      let five = changed (is_same_text (current_text h t) x) t rest5 title text four.1 in
      let six = within-limits (limit_passed h most t x) t title x text five in
      let none = none-passed (is_none (page_number h t) && leb most.pages (length h.pages)) (leb most.revisions (length h.revisions)) (ltb most.text (text_bytes h + body_bytes x)) six.0 in
      let short = ltb-false max_text (body_bytes x) one.0 in
      let sum = ltb-false most.text (text_bytes h + body_bytes x) none.1 in
      let held = full.text in
      let first : LeavesRoom state t x = record {
        next = low;
        short = omega (arith, short);
        pages = λ missing.
            let past = placed-in t 0 h.pages ∙ missing in
            let new : is_none (page_number h t) ≡ true = rw past refl in
            let fewer : leb most.pages (length h.pages) ≡ false = rw new at none.0 in
            let below = le-false most.pages (length h.pages) fewer in
            let pages = full.pages in
            omega (arith, below, pages);
        room = omega (arith, sum, held);
      } in
      subst (λ (y : Option (List ℕ)). LeavesRoom state title y) six.1.1 (subst (λ (u : PageTitle). LeavesRoom state u x) six.1.0 first)

  pub accepted : (journal : ℕ) (edit : EditAsked) (title : PageTitle) (text : Option (List ℕ)) → verdict_in most state journal edit ≡ accept title text → LeavesRoom state title text
  unfolding judged
  accepted journal edit title text is =
      let parts = with_room-accept (is_journal_full most (journal_use state journal)) (judged state.history most edit) title text is in
      let low = ltb-false max_job state.jobs.next (or_parts (leb most.journal (journal + (left state.jobs).claimed)) (ltb max_job state.jobs.next) parts.0).1 in
      by (real_title edit.title) (omega (arith, low)) parts.1
    where
      by : (o : Option PageTitle) → state.jobs.next ≤ max_job → (elim o as (λ p. Verdict) [ None ↦ refuse invalid_title | Some t ↦ judged_at state.history most edit t (option_map kept edit.body) ]) ≡ accept title text → LeavesRoom state title text
      by None low is = absurd (let e : refuse invalid_title ≡ accept title text = is in cc)
      by (Some t) low is = at-title edit t title (option_map kept edit.body) text is low

-- ---- a save

next-set : (lists : JobLists) (title : PageTitle) (reach : Reach) → (fan_set lists title reach).next ≤ lists.next + 1
next-set lists title reach = elim (cases_Bool (has_fan lists title)) [ inl there ↦ rw there (omega arith) | inr none ↦ rw none (omega arith) ]

fits-anew : (n : ℕ) (title : PageTitle) (reach : Reach) (fans : List FanEntry) → AllByRecursion (FanFits n) fans → AllByRecursion (FanFits n) (map (set_anew title reach) fans)
fits-anew n title reach [] all = tt
fits-anew n title reach (fan ∷ fans) all = (
  cond_both (title_eq fan.title title) _ _ (FanFits n) (λ same. (all.0.0, omega arith)) (λ other. all.0),
  fits-anew n title reach fans all.1,
)

fits-set : (n : ℕ) (lists : JobLists) (title : PageTitle) (reach : Reach) → is_normal title ≡ true → AllByRecursion (FanFits n) lists.fans → AllByRecursion (FanFits n) (fan_set lists title reach).fans
fits-set n lists title reach normal_one all = elim (cases_Bool (has_fan lists title)) [
  | inl there ↦ rw there (fits-anew n title reach lists.fans all)
  | inr none ↦ rw none (each-append (FanFits n) lists.fans (record { number = lists.next; title = title; reach = reach; cursor = 0 } ∷ []) all ((normal_one, omega arith), tt))
]

IsKept-saved : (state : State) (title : PageTitle) (text : Option (List ℕ)) (moment : ℕ) → is_page_title title ≡ true → LeavesRoom state title text → IsKept state → IsWellFormed (with_saved state title text moment) → IsKept (with_saved state title text moment)
IsKept-saved state title text moment real leaves keeps formed =
    let h = state.history in
    let page = page_to_save h title in
    let reach = reach_of_save (page_exists h title) (is_some text) in
    let stored = stored_with state title in
    let queued = refresh_queued state.jobs page in
    let low = leaves.next in
    let first = next-queued state.jobs page in
    let second = next-set queued title reach in
    let named_next : (fan_set queued title reach).next ≤ 2 ^ 63 = omega (arith, first, second, low) in
    let queued_next : queued.next ≤ 2 ^ 63 = omega (arith, first, low) in
    let stand = recursion_from_All (λ (p : Page). Stands h p.current) h.pages keeps.formed.texts in
    let before_fans : AllByRecursion (FanFits max_pages) queued.fans = rw (fans-queued state.jobs page) keeps.fans in
    let normal_one = (and_parts (is_normal title) (not (is_virtual title)) real).0 in
    record {
      formed = formed;
      history = elim (cases_Bool (list_any (λ (p : Page). title_eq p.title title) h.pages)) [
        | inl there ↦ saved-old h title text moment stand keeps.history real leaves.short leaves.room there
        | inr none ↦ saved-new h title text moment stand keeps.history real leaves.short leaves.room none (leaves.pages none)
      ];
      links = cond_both (is_some (page_number h title)) state.stored (state.stored ++ no_rows ∷ []) (AllByRecursion AreGoodRows) (λ old. keeps.links)
          (λ new. each-append AreGoodRows state.stored (no_rows ∷ []) keeps.links (AreGoodRows-none, tt));
      numbered = IsNumbered-saved stored state.jobs page title reach keeps.numbered;
      one_page = IsOneAPage-saved stored state.jobs page title reach keeps.one_page;
      one_title = IsOneATitle-saved stored state.jobs page title reach keeps.one_title;
      in_order = IsInOrder-saved stored state.jobs page title reach keeps.numbered keeps.in_order;
      next = cond_both _ _ _ (λ (after : JobLists). after.next ≤ 2 ^ 63) (λ named. named_next) (λ nobody. queued_next);
      fans = cond_both _ _ _ (λ (after : JobLists). AllByRecursion (FanFits max_pages) after.fans) (λ named. fits-set max_pages queued title reach normal_one before_fans) (λ nobody. before_fans);
    }

-- ---- a step

pub IsKept-step : (most : MostHeld) (served : ℕ) (state next : State) (journal : ℕ) (event : Event) → IsWithinFull most → IsMade most state journal event → step_by served state journal event ≡ Some next → IsKept state → IsKept next
IsKept-step most served state next journal (Save title text moment) full (by_save edit is) done keeps = elim (cases_Bool (can_save state.history title text)) [
  | inl can ↦
      let after : Some (with_saved state title text moment) ≡ Some next = rw can at done in
      let same : with_saved state title text moment ≡ next = cc in
      let formed = subst IsWellFormed (sym same) (IsWellFormed-step served state next journal (Save title text moment) done keeps.formed) in
      let real = (and_parts (is_page_title title) (is_some text || page_exists state.history title) can).0 in
      subst IsKept same (IsKept-saved state title text moment real (accepted most full state journal edit title text is) keeps formed)
  | inr cannot ↦ absurd (let e : None ≡ Some next = rw cannot at done in cc)
]
IsKept-step most served state next journal Claim full (by_claim free) done keeps =
    given (λ (s : State). IsWellFormed s → IsKept s) (λ page. with_jobs state (claimed_by state.jobs (journal + 1))) (first_queued state.jobs) next done
    (λ page formed. IsKept-claimed state (journal + 1) keeps formed) (IsWellFormed-step served state next journal Claim done keeps.formed)
IsKept-step most served state next journal (Done ticket) full (by_finish page holds) done keeps =
    done-by (λ (s : State). IsWellFormed s → IsKept s) served state next journal ticket page holds done
    (λ formed. IsKept-refreshed state page keeps formed) (IsWellFormed-step served state next journal (Done ticket) done keeps.formed)
IsKept-step most served state next journal (Back ticket) full by_give_back done keeps =
    given (λ (s : State). IsWellFormed s → IsKept s) (λ page. with_jobs state (given_back state.jobs page)) (page_held_by state.jobs ticket) next done
    (λ page formed. IsKept-given_back state page keeps formed) (IsWellFormed-step served state next journal (Back ticket) done keeps.formed)
IsKept-step most served state next journal Fan full (by_fan room) done keeps = by (slice_get state.jobs.fans 0) refl done
  where
    low : state.jobs.next ≤ max_job
    low = let at = ltb-false max_job state.jobs.next (or_parts (leb most.journal (journal + (left state.jobs).claimed)) (ltb max_job state.jobs.next) room).1 in omega (arith, at)

    by : (o : Option FanEntry) → slice_get state.jobs.fans 0 ≡ o → option_map (λ jobs. with_jobs state jobs) (option_map (after_serving state.stored served state.jobs) o) ≡ Some next → IsKept next
    by None none is = absurd (let e : None ≡ Some next = is in cc)
    by (Some fan) first is =
        let got : Some (with_jobs state (after_serving state.stored served state.jobs fan)) ≡ Some next = is in
        let same : with_jobs state (after_serving state.stored served state.jobs fan) ≡ next = cc in
        let formed = subst IsWellFormed (sym same) (IsWellFormed-step served state next journal Fan done keeps.formed) in
        subst IsKept same (IsKept-served served state fan first low keeps formed)
