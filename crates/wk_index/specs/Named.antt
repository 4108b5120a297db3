-- The pages that are found by a title.
use Rattle.std.specs.Prelude.{◌≡◌, ℕ, ◌-◌, Bool, true, false, ◌&&◌, ◌==◌, nat_lt, List, map, filter, take, Option, None, Some, slice_get, if◌then◌else◌}
use Rattle.std.specs.List.{enumerate_from, list_any}
use Rattle.std.specs.BTreeMap.{BTreeMap, get}
use Rattle.std.specs.BTreeMap.Range.{range_contains}
use Rattle.std.specs.BTreeSet.{BTreeSet}
use Rattle.std.specs.Ordering.{is_eq, nat_cmp}
use Rattle.std.specs.declared.cmp.Ordering.{Ordering}
use Rattle.std.specs.declared.ops.Bound.TheVariants.{Excluded as Behind, Unbounded}
use Rattle.wk_text_rules.specs.Titles.{PageTitle, title_cmp, title_eq}
use Rattle.wk_page_rules.specs.PageRows.{PageRows, names}
use Rattle.wk_page_rules.specs.declared.Reach.{Reach}
use Rattle.wk_page_rules.specs.declared.Reach.TheVariants.{Text, Both}
use Rattle.wk_wiki_rules.specs.Links.{links_to}
use Rattle.wk_index.specs.declared.named.Kind.{Kind}
use Rattle.wk_index.specs.declared.named.Kind.TheVariants.{Included, Mentioned, Linked}

-- the page is among these
abbrev pub is_in : ℕ → List ℕ → Bool
is_in page pages = list_any (λ k. is_eq (nat_cmp page k)) pages

-- the page is among those that stand in what was found, if anything was
abbrev pub is_in_found : {S : Type 0} → (S → List ℕ) → Option S → ℕ → Bool
is_in_found pages_of found page = elim found [ None ↦ false | Some pages ↦ is_in page (pages_of pages) ]

-- the page is found by the title, in a map in which the pages of a title stand at its place
abbrev pub has_at : {P S : Type 0} → (P → P → Ordering) → (PageTitle → P) → (S → List ℕ) → BTreeMap P S → PageTitle → ℕ → Bool
has_at cmp place pages_of named title page = is_in_found pages_of (get cmp named (place title)) page

-- titles, each with the pages that are found by it
abbrev pub Sets : Type 0
Sets = BTreeMap PageTitle (BTreeSet ℕ)

-- the page is found by the title
abbrev pub has : Sets → PageTitle → ℕ → Bool
has = has_at title_cmp (λ (title : PageTitle). title) (λ (pages : BTreeSet ℕ). pages.keys)

-- the rows have the title among those of the kind
abbrev pub lists : Kind → PageRows → PageTitle → Bool
lists Included rows title = names rows title Text
lists Mentioned rows title = names rows title Both
lists Linked rows title = links_to rows title

-- the kind of rows that count under the reach
abbrev pub kind_of : Reach → Kind
kind_of Text = Included
kind_of Both = Mentioned

-- the rows of the page with this number, among those of all pages
abbrev pub rows_at : List PageRows → ℕ → Option PageRows
rows_at stored page = if page == 0 then None else slice_get stored (page - 1)

-- the rows of the page with this number pass
abbrev pub page_passes : {X : Type 0} → (PageRows → X → Bool) → List PageRows → X → ℕ → Bool
page_passes passes stored x page = elim (rows_at stored page) [ None ↦ false | Some rows ↦ passes rows x ]

-- the rows of the page with this number have the title
abbrev pub page_lists : Kind → List PageRows → PageTitle → ℕ → Bool
page_lists kind stored title page = page_passes (lists kind) stored title page

-- The pages above a number whose rows have the title, rising, at most so many.
abbrev pub listed : Kind → List PageRows → PageTitle → ℕ → ℕ → List ℕ
listed kind stored title above most =
    take most (map (λ page. page.0) (filter (λ page. nat_lt above page.0 && lists kind page.1 title) (enumerate_from 1 stored)))

-- ---- sets of keys, in which the pages are found by what their rows have

-- Each page is found by all that its rows have. It may be found by more, so what is found is looked up in the rows.
abbrev pub FindsIn : {X S : Type 0} → (PageRows → X → Bool) → (S → X → ℕ → Bool) → List PageRows → S → Type 0
FindsIn {X} passes finds stored keys = (x : X) (page : ℕ) → page_passes passes stored x page ≡ true → finds keys x page ≡ true

-- the page is found by all that these rows have
abbrev pub FindsRowsIn : {X S : Type 0} → (PageRows → X → Bool) → (S → X → ℕ → Bool) → PageRows → ℕ → S → Type 0
FindsRowsIn {X} passes finds rows page keys = (x : X) → passes rows x ≡ true → finds keys x page ≡ true

-- what was found is found still
abbrev pub KeptIn : {X S : Type 0} → (S → X → ℕ → Bool) → S → S → Type 0
KeptIn {X} finds old new = (x : X) (page : ℕ) → finds old x page ≡ true → finds new x page ≡ true

-- what was found is found still, but for the page by what these rows don't have
abbrev pub SparesIn : {X S : Type 0} → (PageRows → X → Bool) → (S → X → ℕ → Bool) → PageRows → ℕ → S → S → Type 0
SparesIn {X} passes finds rows page old new =
    (x : X) (other : ℕ) → (other ≡ page → passes rows x ≡ true) → finds old x other ≡ true → finds new x other ≡ true

-- ---- the same of titles

-- the number is above another
abbrev pub is_above : ℕ → ℕ → Bool
is_above above page = range_contains nat_cmp (Behind above) Unbounded page

-- what was found is found still, but for the page by the title
abbrev pub SparesAt : PageTitle → ℕ → Sets → Sets → Type 0
SparesAt title page old new = (other : PageTitle) (number : ℕ) → (title_eq other title && number == page) ≡ false → has old other number ≡ true → has new other number ≡ true

abbrev pub Finds : Kind → List PageRows → Sets → Type 0
Finds kind = FindsIn (lists kind) has

abbrev pub FindsBy : Kind → PageRows → ℕ → Sets → Type 0
FindsBy kind = FindsRowsIn (lists kind) has

abbrev pub Kept : Sets → Sets → Type 0
Kept = KeptIn has

abbrev pub Spares : Kind → PageRows → ℕ → Sets → Sets → Type 0
Spares kind = SparesIn (lists kind) has
