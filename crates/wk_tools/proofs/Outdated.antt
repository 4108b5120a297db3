-- Pages that are gone over one after the other.
use Rattle.std.proofs.Common.{◌≡◌, ◌≢◌, ℕ, zero, suc, ◌+◌, ◌-◌, ◌≤◌, ◌<◌, Bool, true, false, cond, eqb, not, List, [], ◌∷◌, ◌++◌, length, map, take, Some, None, refl, sym, ap, ◌∙◌, inl, inr, arith}
use Rattle.std.specs.Prelude.{filter, slice_get, IsTrue, ◌↔◌}
use Rattle.std.specs.List.{enumerate_from}
use Rattle.std.proofs.lemmas.Bool.{cases_Bool, ne_eqb}
use Rattle.std.proofs.lemmas.List.{append-nil, append_assoc, take_all}
use Rattle.wk_text_rules.specs.Titles.{PageTitle}
use Rattle.wk_page_rules.specs.History.{Page}
use Rattle.wk_page_rules.specs.PageRows.{PageRows}
use Rattle.wk_view_rules.specs.Rows.{rows}
use Rattle.wk_wiki_rules.specs.States.{State, page_at, stored_at, world_of}
use Rattle.wk_tool_rules.specs.Checks.{differing, differs}
use Rattle.wk_tool_laws.proofs.Differing.{current-page, same-page}
use Rattle.wk_tools.specs.Outdated.{IsPageTitled, is_outdated, title_if}

-- the pages among these that differ, where the first has this number
abbrev pub found_from : State → ℕ → List Page → List PageTitle
found_from state n pages = map (λ (page : ℕ × Page). page.1.title) (filter (differs state) (enumerate_from n pages))

-- what a page adds to those behind it
abbrev with_first : State → ℕ → Page → List PageTitle → List PageTitle
with_first state n page later = title_if (differs state (n, page)) page.title ++ later

first-of : (state : State) (n : ℕ) (page : Page) (pages : List Page) → found_from state n (page ∷ pages) ≡ with_first state n page (found_from state (n + 1) pages)
first-of state n page pages =
    elim (differs state (n, page)) as (λ b. map (λ (p : ℕ × Page). p.1.title) (cond b ((n, page) ∷ filter (differs state) (enumerate_from (n + 1) pages)) (filter (differs state) (enumerate_from (n + 1) pages)))
    ≡ title_if b page.title ++ found_from state (n + 1) pages) [ true ↦ refl | false ↦ refl ]

-- one page more
found-next : (state : State) (n : ℕ) (pages : List Page) (place : ℕ) (page : Page) → slice_get pages place ≡ Some page
    → found_from state n (take (suc place) pages) ≡ found_from state n (take place pages) ++ title_if (is_outdated state (n + place) page.title) page.title
found-next state n [] place page there = absurd (let e : None ≡ Some page = there in cc)
found-next state n (x ∷ pages) zero page there =
    let e : Some x ≡ Some page = there in
    let is : x ≡ page = cc in
    let same : n ≡ n + 0 = omega arith in
    first-of state n x []
    ∙ (append-nil (title_if (differs state (n, x)) x.title)
    ∙ (ap (λ (p : Page). title_if (differs state (n, p)) p.title) is ∙ ap (λ m. title_if (is_outdated state m page.title) page.title) same))
found-next state n (x ∷ pages) (suc place) page there =
    let later = found-next state (n + 1) pages place page there in
    let same : n + 1 + place ≡ n + suc place = omega arith in
    first-of state n x (take (suc place) pages)
    ∙ (ap (with_first state n x) (later ∙ ap (λ m. found_from state (n + 1) (take place pages) ++ title_if (is_outdated state m page.title) page.title) same)
    ∙ (sym (append_assoc (title_if (differs state (n, x)) x.title) (found_from state (n + 1) (take place pages)) (title_if (is_outdated state (n + suc place) page.title) page.title))
    ∙ ap (λ ts. ts ++ title_if (is_outdated state (n + suc place) page.title) page.title) (sym (first-of state n x (take place pages)))))

pub found-more : (state : State) (place : ℕ) (page : Page) (found now : List PageTitle) → page_at state.history (place + 1) ≡ Some page → found ≡ found_from state 1 (take place state.history.pages)
    → now ≡ found ++ title_if (is_outdated state (place + 1) page.title) page.title → now ≡ found_from state 1 (take (place + 1) state.history.pages)
found-more state place page found now there before is =
    let number : eqb (place + 1) 0 ≡ false = ne_eqb (place + 1) 0 (λ e. omega (arith, e)) in
    let at : place + 1 - 1 ≡ place = omega arith in
    let got : slice_get state.history.pages place ≡ Some page = rw (number, at) at there in
    let same : 1 + place ≡ place + 1 = omega arith in
    let next : place + 1 ≡ suc place = omega arith in
    is ∙ (ap (λ ts. ts ++ title_if (is_outdated state (place + 1) page.title) page.title) before
    ∙ (ap (λ m. found_from state 1 (take place state.history.pages) ++ title_if (is_outdated state m page.title) page.title) (sym same)
    ∙ (sym (found-next state 1 state.history.pages place page got) ∙ ap (λ m. found_from state 1 (take m state.history.pages)) (sym next))))

-- a page's rows are outdated exactly where those that are stored aren't these, which it has now
pub outdated-is : (state : State) (number : ℕ) (title : PageTitle) (now : PageRows) (same : Bool) → now ≡ rows (world_of state) title → (IsTrue same ↔ (stored_at state number ≡ now)) → not same ≡ is_outdated state number title
outdated-is state number title now true is both =
    let page : Page = record { title = title; current = 0 } in
    sym (same-page state number page (both.0 refl ∙ is))
outdated-is state number title now false is both =
    let page : Page = record { title = title; current = 0 } in
    elim (cases_Bool (differs state (number, page))) [
      | inl other ↦ sym other
      | inr current ↦ absurd (let e : false ≡ true = both.1 (current-page state number page current ∙ sym is) in cc)
    ]

-- ---- pages by their numbers

page-in : (pages : List Page) (k : ℕ) → k < length pages → (page : Page) × (slice_get pages k ≡ Some page)
page-in [] k within = absurd (omega (arith, within))
page-in (page ∷ pages) zero within = (page, refl)
page-in (page ∷ pages) (suc k) within = page-in pages k (omega (arith, within))

-- a page that is there is found
pub page-there : (state : State) (number : ℕ) → 1 ≤ number → number ≤ length state.history.pages → page_at state.history number ≢ None
page-there state number some there = λ none.
    let positive : eqb number 0 ≡ false = ne_eqb number 0 (λ e. omega (arith, e, some)) in
    let page = page-in state.history.pages (number - 1) (omega (arith, some, there)) in
    let found : page_at state.history number ≡ Some page.0 = rw positive page.1 in
    let e : None ≡ Some page.0 = sym none ∙ found in cc

-- one page more, by its title
pub found-after : (state : State) (place : ℕ) (title : PageTitle) (found now : List PageTitle) → IsPageTitled state (place + 1) title → found ≡ found_from state 1 (take place state.history.pages)
    → now ≡ found ++ title_if (is_outdated state (place + 1) title) title → now ≡ found_from state 1 (take (place + 1) state.history.pages)
found-after state place title found now titled before is =
    found-more state place titled.page found now titled.there before (is ∙ ap (λ t. found ++ title_if (is_outdated state (place + 1) t) t) (sym titled.titled))

pub found-whole : (state : State) (place : ℕ) (found : List PageTitle) → length state.history.pages ≤ place → found ≡ found_from state 1 (take place state.history.pages) → found ≡ differing state
found-whole state place found past before = before ∙ ap (found_from state 1) (take_all place state.history.pages past)
