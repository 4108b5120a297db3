-- A page differs exactly where its stored rows aren't current.
use Rattle.std.proofs.Common.{◌≡◌, ℕ, suc, ◌+◌, ◌-◌, Bool, true, false, not, ◌&&◌, eqb, List, [], ◌∷◌, map, Option, Some, None, refl, ap, subst, arith}
use Rattle.std.specs.Bool.{Decides}
use Rattle.std.specs.Cmp.Lexicographic.{pointwise}
use Rattle.std.specs.List.{enumerate_from}
use Rattle.std.specs.Option.{option_eq}
use Rattle.std.specs.Prelude.{filter, slice_get, bytes_eq}
use Rattle.std.proofs.lemmas.Bool.{and_from, and_parts, ne_eqb}
use Rattle.std.proofs.lemmas.Slice.Eq.{bytes_eq-Decides, slice_eq-Decides}
use Rattle.wk_text_rules.specs.Titles.{PageTitle, title_eq}
use Rattle.wk_page_rules.specs.History.{History, Page}
use Rattle.wk_page_rules.specs.PageRows.{Member, PageRows}
use Rattle.wk_view_rules.specs.Rows.{rows}
use Rattle.wk_view_laws.proofs.PlanLemmas.{title_eq-same, title_eq-true}
use Rattle.wk_wiki_rules.specs.States.{State, page_at, stored_at, world_of}
use Rattle.wk_wiki_rules.specs.Soundness.{IsCurrent, IsSound}
use Rattle.wk_wiki_laws.proofs.Sound.{IsCurrent-at_rest}
use Rattle.wk_wiki_rules.specs.Names.{member_eq}
use Rattle.wk_tool_rules.specs.Checks.{differing, differs, same_rows}

-- ---- tests that decide

title-decides : (a b : PageTitle) → Decides (title_eq a b) (a ≡ b)
title-decides a b = (title_eq-true a b, λ same. subst (λ t. title_eq a t ≡ true) same (title_eq-same a))

member-true : (a b : Member) → member_eq a b ≡ true → a ≡ b
member-true a b is =
    let outer = and_parts (title_eq a.category b.category && bytes_eq a.sortkey b.sortkey) (bytes_eq a.prefix b.prefix) is in
    let inner = and_parts (title_eq a.category b.category) (bytes_eq a.sortkey b.sortkey) outer.0 in
    let category = (title-decides a.category b.category).0 inner.0 in
    let sortkey = (bytes_eq-Decides a.sortkey b.sortkey).0 inner.1 in
    let prefix = (bytes_eq-Decides a.prefix b.prefix).0 outer.1 in
    λ i. record { category = category i; sortkey = sortkey i; prefix = prefix i }

member-same : (a : Member) → member_eq a a ≡ true
member-same a =
    and_from (title_eq a.category a.category && bytes_eq a.sortkey a.sortkey) (bytes_eq a.prefix a.prefix)
    (and_from (title_eq a.category a.category) (bytes_eq a.sortkey a.sortkey) (title_eq-same a.category) ((bytes_eq-Decides a.sortkey a.sortkey).1 refl))
    ((bytes_eq-Decides a.prefix a.prefix).1 refl)

member-decides : (a b : Member) → Decides (member_eq a b) (a ≡ b)
member-decides a b = (member-true a b, λ same. subst (λ m. member_eq a m ≡ true) same (member-same a))

titles-decide : (a b : List PageTitle) → Decides (pointwise title_eq a b) (a ≡ b)
titles-decide a b = slice_eq-Decides title-decides a b (pointwise title_eq a b) refl

members-decide : (a b : List Member) → Decides (pointwise member_eq a b) (a ≡ b)
members-decide a b = slice_eq-Decides member-decides a b (pointwise member_eq a b) refl

redirect-true : (a b : Option PageTitle) → option_eq title_eq a b ≡ true → a ≡ b
redirect-true None None is = refl
redirect-true None (Some b) is = absurd cc
redirect-true (Some a) None is = absurd cc
redirect-true (Some a) (Some b) is = ap (λ t. Some t) (title_eq-true a b is)

redirect-same : (a : Option PageTitle) → option_eq title_eq a a ≡ true
redirect-same None = refl
redirect-same (Some a) = title_eq-same a

-- ---- rows

rows-true : (a b : PageRows) → same_rows a b ≡ true → a ≡ b
rows-true a b is =
    let t = pointwise title_eq a.templates b.templates in
    let e = pointwise title_eq a.exists b.exists in
    let l = pointwise title_eq a.links b.links in
    let m = pointwise member_eq a.members b.members in
    let r = option_eq title_eq a.redirect b.redirect in
    let fifth = and_parts (t && e && l && m) r is in
    let fourth = and_parts (t && e && l) m fifth.0 in
    let third = and_parts (t && e) l fourth.0 in
    let second = and_parts t e third.0 in
    let templates = (titles-decide a.templates b.templates).0 second.0 in
    let exists = (titles-decide a.exists b.exists).0 second.1 in
    let links = (titles-decide a.links b.links).0 third.1 in
    let members = (members-decide a.members b.members).0 fourth.1 in
    let redirect = redirect-true a.redirect b.redirect fifth.1 in
    λ i. record { templates = templates i; exists = exists i; links = links i; members = members i; redirect = redirect i }

rows-same : (a : PageRows) → same_rows a a ≡ true
rows-same a =
    let t = pointwise title_eq a.templates a.templates in
    let e = pointwise title_eq a.exists a.exists in
    let l = pointwise title_eq a.links a.links in
    let m = pointwise member_eq a.members a.members in
    let r = option_eq title_eq a.redirect a.redirect in
    and_from (t && e && l && m) r
    (and_from (t && e && l) m
    (and_from (t && e) l
    (and_from t e ((titles-decide a.templates a.templates).1 refl) ((titles-decide a.exists a.exists).1 refl))
    ((titles-decide a.links a.links).1 refl))
    ((members-decide a.members a.members).1 refl))
    (redirect-same a.redirect)

-- ---- pages

not-false : (b : Bool) → not b ≡ false → b ≡ true
not-false true is = refl
not-false false is = absurd cc

pub current-page : (state : State) (number : ℕ) (page : Page) → differs state (number, page) ≡ false → IsCurrent state number page
current-page state number page is =
    let stored = stored_at state number in
    let now = rows (world_of state) page.title in
    rows-true stored now (not-false (same_rows stored now) is)

pub same-page : (state : State) (number : ℕ) (page : Page) → IsCurrent state number page → differs state (number, page) ≡ false
same-page state number page current =
    let stored = stored_at state number in
    ap not (subst (λ (r : PageRows). same_rows stored r ≡ true) current (rows-same stored))

-- ---- all pages

none-from : (state : State) (pages : List Page) (n : ℕ) → ((place : ℕ) (page : Page) → slice_get pages place ≡ Some page → differs state (n + place, page) ≡ false)
    → filter (differs state) (enumerate_from n pages) ≡ []
none-from state [] n current = refl
none-from state (page ∷ pages) n current =
    let here : differs state (n, page) ≡ false = subst (λ (m : ℕ). differs state (m, page) ≡ false) (omega arith) (current 0 page refl) in
    let later : filter (differs state) (enumerate_from (n + 1) pages) ≡ [] =
    none-from state pages (n + 1) (λ place other is. subst (λ (m : ℕ). differs state (m, other) ≡ false) (omega arith) (current (suc place) other is))
    in
    rw here later

page-at : (h : History) (place : ℕ) (page : Page) → slice_get h.pages place ≡ Some page → page_at h (1 + place) ≡ Some page
page-at h place page is =
    let positive : eqb (1 + place) 0 ≡ false = ne_eqb (1 + place) 0 (λ e. omega (arith, e)) in
    let same : (1 + place) - 1 ≡ place = omega arith in
    rw (positive, same) is

pub none-differs : (state : State) → IsSound state → state.jobs.refreshes ≡ [] → state.jobs.fans ≡ [] → differing state ≡ []
none-differs state sound refreshes fans =
    let current : (place : ℕ) (page : Page) → slice_get state.history.pages place ≡ Some page → differs state (1 + place, page) ≡ false =
    λ place page is. same-page state (1 + place) page (IsCurrent-at_rest state sound refreshes fans (1 + place) page (page-at state.history place page is))
    in
    ap (map (λ (page : ℕ × Page). page.1.title)) (none-from state state.history.pages 1 current)
