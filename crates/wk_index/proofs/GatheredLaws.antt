-- What was gathered finds the pages, and so do the sets that are made of it.
use Rattle.std.proofs.Common.{◌≡◌, ◌⊎◌, ℕ, ℤ, ◌+◌, Bool, true, false, cond, eqb, ◌&&◌, ◌||◌, List, [], ◌∷◌, ◌++◌, length, map, Option, None, Some, refl, sym, ap, ◌∙◌, subst, inl, inr}
use Rattle.std.specs.Prelude.{bytes_eq}
use Rattle.std.specs.BTreeMap.{get}
use Rattle.std.specs.List.{AllByRecursion, list_any}
use Rattle.std.specs.Map.{lookup, values_of}
use Rattle.std.specs.Ordering.{is_eq}
use Rattle.std.proofs.lemmas.Bool.{cases_Bool, eq-eqb, false≢true}
use Rattle.std.proofs.lemmas.List.Folds.{list_any-append}
use Rattle.std.proofs.lemmas.Slice.Eq.{bytes_eq-Decides}
use Rattle.wk_text_rules.specs.Titles.{PageTitle, title_eq}
use Rattle.wk_page_rules.specs.PageRows.{PageRows}
use Rattle.wk_index.specs.declared.found.Found.{Found}
use Rattle.wk_index.specs.declared.gathered.Gathered.{Gathered}
use Rattle.wk_index.specs.declared.named.Kind.TheVariants.{Included, Mentioned, Linked}
use Rattle.wk_index.specs.Entries.{Entry, KeptEntries, entry_cmp, has_entry, lists_entry}
use Rattle.wk_index.specs.Found.{FindsAll}
use Rattle.wk_index.specs.Gathered.{AreAllTitled, GathersAll, GathersRows, GrowsAll, Joins, tests}
use Rattle.wk_index.specs.Places.{AddsGathered, AreTitled, GathersTitles, Grows, Places, gathers, place_of}
use Rattle.wk_index.specs.declared.pages_by_title.TitlePages.{TitlePages}
use Rattle.wk_index.specs.Named.{Kept, Sets, has, is_in, is_in_found, lists, rows_at}
use Rattle.wk_index.specs.TitleMap.{place_cmp}
use Rattle.wk_index.proofs.EntryLaws.{Name, entry, entry-keys}
use Rattle.wk_index.proofs.FindsLaws.{FindsIn-none, FindsIn-push, or-left, or-parts, or-right}
use Rattle.wk_index.proofs.NamedLaws.{alone, put-more, put-new, put-there}
use Rattle.wk_index.proofs.TitleLaws.{title_eq-same, title_eq-true}
use Rattle.wk_index.proofs.TitleMapLaws.{title_at}
use Rattle.wk_good_rows.proofs.Sets.{same-title}

-- ---- lists with more behind them

any-left : {T : Type 0} (q : T → Bool) (xs ys : List T) → list_any q xs ≡ true → list_any q (xs ++ ys) ≡ true
any-left q xs ys there = list_any-append q xs ys ∙ or-left (list_any q xs) (list_any q ys) there

any-right : {T : Type 0} (q : T → Bool) (xs ys : List T) → list_any q ys ≡ true → list_any q (xs ++ ys) ≡ true
any-right q xs ys there = list_any-append q xs ys ∙ or-right (list_any q xs) (list_any q ys) there

pub KeptEntries-first : (entries more : List Entry) → KeptEntries entries (entries ++ more)
KeptEntries-first entries more x page there = any-left (λ e. (title_eq e.category x.0 && bytes_eq e.sortkey x.1) && eqb e.page page) entries more there

pub entry-last : (entries : List Entry) (x : Name) (page : ℕ) → has_entry (entries ++ entry x page ∷ []) x page ≡ true
entry-last entries x page =
    any-right (λ e. (title_eq e.category x.0 && bytes_eq e.sortkey x.1) && eqb e.page page) entries (entry x page ∷ [])
    (rw (title_eq-same x.0, (bytes_eq-Decides x.1 x.1).1 refl, eq-eqb page page refl) refl)

-- ---- sets of the same keys

pub KeptEntries-set : (items keys : List Entry) → ((q : Entry) → list_any (λ k. is_eq (entry_cmp q k)) keys ≡ list_any (λ k. is_eq (entry_cmp q k)) items) → KeptEntries items keys
KeptEntries-set items keys same x page there = sym (entry-keys.contains keys x page) ∙ same (entry x page) ∙ entry-keys.contains items x page ∙ there

-- ---- no titles

pub AreTitled-none : (titles : Places) → titles.entries ≡ [] → AreTitled titles
AreTitled-none titles none place known found =
    absurd (let fails : None ≡ Some known = sym (ap (lookup (λ k. is_eq (place_cmp place k))) none) ∙ found in cc)

-- ---- all that was gathered

pub GathersAll-none : (g : Gathered) → g.included.entries ≡ [] → g.tested.entries ≡ [] → g.linked.entries ≡ [] → GathersAll [] g
GathersAll-none g a b c = record {
  included = FindsIn-none (lists Included) gathers g.included;
  tested = FindsIn-none tests gathers g.tested;
  linked = FindsIn-none (lists Linked) gathers g.linked;
  members = FindsIn-none lists_entry has_entry g.members.items;
  titled = record {
    included = AreTitled-none g.included a;
    tested = AreTitled-none g.tested b;
    linked = AreTitled-none g.linked c;
  };
}

pub GathersAll-push : (stored items : List PageRows) (rows : PageRows) (page : ℕ) (old new : Gathered)
    → items ≡ stored ++ rows ∷ [] → page ≡ length stored + 1 → GathersAll stored old → GrowsAll old new → AreAllTitled new → GathersRows rows page new → GathersAll items new
GathersAll-push stored items rows page old new is number before grows titled own =
    subst (λ l. GathersAll l new) (sym is) (by (subst (λ n. GathersRows rows n new) number own))
  where
    by : GathersRows rows (length stored + 1) new → GathersAll (stored ++ rows ∷ []) new
    by here = record {
      included = FindsIn-push (lists Included) gathers stored rows old.included new.included before.included grows.included here.included;
      tested = FindsIn-push tests gathers stored rows old.tested new.tested before.tested grows.tested here.tested;
      linked = FindsIn-push (lists Linked) gathers stored rows old.linked new.linked before.linked grows.linked here.linked;
      members = FindsIn-push lists_entry has_entry stored rows old.members.items new.members.items before.members grows.members here.members;
      titled = titled;
    }

-- a call that was refused may leave more
pub GathersAll-grown : (stored : List PageRows) (old new : Gathered) → GathersAll stored old → GrowsAll old new → AreAllTitled new → GathersAll stored new
GathersAll-grown stored old new before grows titled = record {
  included = λ title page there. grows.included title page (before.included title page there);
  tested = λ title page there. grows.tested title page (before.tested title page there);
  linked = λ title page there. grows.linked title page (before.linked title page there);
  members = λ x page there. grows.members x page (before.members x page there);
  titled = titled;
}

-- ---- titles with one more

-- places that the order finds the same
place-same : (a b : ℤ × List ℕ) → is_eq (place_cmp a b) ≡ true → title_at a ≡ title_at b
place-same a b same = sym (title_eq-true (title_at b) (title_at a) (sym (same-title (title_at a) (title_at b)) ∙ same))

pub AreTitled-more : (old new : Places) (place : ℤ × List ℕ) (made : TitlePages)
    → ((q : ℤ × List ℕ) → get place_cmp new q ≡ cond (is_eq (place_cmp place q)) (Some made) (get place_cmp old q)) → made.title ≡ title_at place → AreTitled old → AreTitled new
AreTitled-more old new place made updates is titles q known found =
    elim (cases_Bool (is_eq (place_cmp place q))) [
      | inl same ↦
          let here : Some made ≡ Some known = sym (ap (λ b. cond b (Some made) (get place_cmp old q)) same) ∙ sym (updates q) ∙ found in
          let one : made ≡ known = cc in
          sym (ap (λ (k : TitlePages). k.title) one) ∙ is ∙ place-same place q same
      | inr apart ↦ titles q known (sym (ap (λ b. cond b (Some made) (get place_cmp old q)) apart) ∙ sym (updates q) ∙ found)
    ]

abbrev Puts : Places → Places → PageTitle → TitlePages → Type 0
Puts old new title now = (q : ℤ × List ℕ) → get place_cmp new q ≡ cond (is_eq (place_cmp (place_of title) q)) (Some now) (get place_cmp old q)

pub gathered-there : (old new : Places) (title : PageTitle) (now : TitlePages) → Puts old new title now → (page : ℕ) → is_in page now.pages.items ≡ true → gathers new title page ≡ true
gathered-there old new title now = put-there place_cmp place_of (λ (k : TitlePages). k.pages.items) same-title old new title (Some now)

pub gathered-new : (old new : Places) (title : PageTitle) (now : TitlePages) → get place_cmp old (place_of title) ≡ None → Puts old new title now → Grows old new
gathered-new = put-new place_cmp place_of (λ (k : TitlePages). k.pages.items) same-title

pub gathered-more : (old new : Places) (title : PageTitle) (had now : TitlePages) → get place_cmp old (place_of title) ≡ Some had → Puts old new title now
    → ((number : ℕ) → is_in number had.pages.items ≡ true → is_in number now.pages.items ≡ true) → Grows old new
gathered-more = put-more place_cmp place_of (λ (k : TitlePages). k.pages.items) same-title

-- what stands now at the place of a namespace and a key
abbrev pub PutsPlace : Places → Places → ℤ × List ℕ → TitlePages → Type 0
PutsPlace old new place now = (q : ℤ × List ℕ) → get place_cmp new q ≡ cond (is_eq (place_cmp place q)) (Some now) (get place_cmp old q)

-- a title that wasn't there, with one page
pub made-place : (old new : Places) (place here : ℤ × List ℕ) (now : TitlePages) (page : ℕ) → place ≡ here → get place_cmp old here ≡ None → PutsPlace old new place now
    → now.title ≡ title_at here → now.pages.items ≡ page ∷ [] → AreTitled old
    → (gathers new (title_at here) page ≡ true) × Grows old new × AreTitled new
made-place old new place here now page same none puts is pages titled =
    let at : PutsPlace old new here now = subst (λ p. PutsPlace old new p now) same puts in (
      gathered-there old new (title_at here) now at page (ap (is_in page) pages ∙ alone page),
      gathered-new old new (title_at here) now none at,
      AreTitled-more old new here now at is titled,
    )

-- a title that was there
pub more-place : (old new : Places) (place here : ℤ × List ℕ) (had now : TitlePages) → place ≡ here → get place_cmp old place ≡ Some had → PutsPlace old new place now
    → now.title ≡ had.title → ((number : ℕ) → is_in number had.pages.items ≡ true → is_in number now.pages.items ≡ true) → AreTitled old
    → (had.title ≡ title_at here) × ((page : ℕ) → is_in page now.pages.items ≡ true → gathers new (title_at here) page ≡ true) × Grows old new × AreTitled new
more-place old new place here had now same found puts is stay titled =
    let at : PutsPlace old new here now = subst (λ p. PutsPlace old new p now) same puts in
    let stood : get place_cmp old here ≡ Some had = subst (λ p. get place_cmp old p ≡ Some had) same found in
    let name : had.title ≡ title_at here = titled here had stood in (
      name,
      gathered-there old new (title_at here) now at,
      gathered-more old new (title_at here) had now stood at stay,
      AreTitled-more old new here now at (is ∙ name) titled,
    )

-- one more title of the rows
pub targets-push : (titles : List PageTitle) (title : PageTitle) (page : ℕ) (old new : Places)
    → GathersTitles titles page old → Grows old new → gathers new title page ≡ true → GathersTitles (titles ++ title ∷ []) page new
targets-push titles title page old new before grows there other among =
    elim (or-parts (list_any (title_eq other) titles) (title_eq other title || false) (sym (list_any-append (title_eq other) titles (title ∷ [])) ∙ among)) [
      | inl earlier ↦ grows other page (before other earlier)
      | inr last ↦ elim (or-parts (title_eq other title) false last) [
        | inl same ↦ subst (λ t. gathers new t page ≡ true) (sym (title_eq-true other title same)) there
        | inr none ↦ absurd (false≢true none)
      ]
    ]

-- ---- the sets

-- each title that is known has its pages in the sets
abbrev pub AddsKnown : List TitlePages → Sets → Type 0
AddsKnown known named = AllByRecursion (λ k. (page : ℕ) → is_in page k.pages.items ≡ true → has named k.title page ≡ true) known

-- one more title is added
pub AddsKnown-step : {B : Type 0} (show : B → TitlePages) (before : List B) (last : B) (old new : Sets) → Kept old new → AddsKnown (map show before) old
    → ((page : ℕ) → is_in page (show last).pages.items ≡ true → has new (show last).title page ≡ true) → AddsKnown (map show (before ++ last ∷ [])) new
AddsKnown-step show [] last old new kept adds own = (own, tt)
AddsKnown-step show (first ∷ before) last old new kept adds own =
    (λ page there. kept (show first).title page (adds.0 page there), AddsKnown-step show before last old new kept adds.1 own)

looked-up : (entries : List ((ℤ × List ℕ) × TitlePages)) (test : ℤ × List ℕ → Bool) (known : TitlePages) (named : Sets) → AddsKnown (values_of entries) named → lookup test entries ≡ Some known
    → (page : ℕ) → is_in page known.pages.items ≡ true → has named known.title page ≡ true
looked-up [] test known named adds found page there = absurd (let fails : None ≡ Some known = found in cc)
looked-up (e ∷ entries) test known named adds found page there = elim (cases_Bool (test e.0)) [
  | inl here ↦
      let same : Some e.1 ≡ Some known = sym (ap (λ b. cond b (Some e.1) (lookup test entries)) here) ∙ found in
      let one : e.1 ≡ known = cc in
      ap (λ (k : TitlePages). has named k.title page) (sym one) ∙ adds.0 page (ap (λ (k : TitlePages). is_in page k.pages.items) one ∙ there)
  | inr later ↦ looked-up entries test known named adds.1 (sym (ap (λ b. cond b (Some e.1) (lookup test entries)) later) ∙ found) page there
]

pub AddsGathered-all : (places : Places) (named : Sets) → AreTitled places → AddsKnown (values_of places.entries) named → AddsGathered places named
AddsGathered-all places named titled adds title page there = by (get place_cmp places (place_of title)) refl there
  where
    by : (o : Option TitlePages) → get place_cmp places (place_of title) ≡ o → is_in_found (λ (k : TitlePages). k.pages.items) o page ≡ true → has named title page ≡ true
    by None is none = absurd (false≢true none)
    by (Some known) is some =
        subst (λ t. has named t page ≡ true) (titled (place_of title) known is)
        (looked-up places.entries (λ k. is_eq (place_cmp (place_of title) k)) known named adds is page some)

pub AddsGathered-kept : (places : Places) (old new : Sets) → Kept old new → AddsGathered places old → AddsGathered places new
AddsGathered-kept places old new kept adds title page there = kept title page (adds title page there)

-- what the rows mention they include, or they test its existence
mentioned-parts : (rows : Option PageRows) (title : PageTitle) → elim rows [ None ↦ false | Some r ↦ lists Mentioned r title ] ≡ true
    → (elim rows [ None ↦ false | Some r ↦ lists Included r title ] ≡ true) ⊎ (elim rows [ None ↦ false | Some r ↦ tests r title ] ≡ true)
mentioned-parts None title there = absurd (false≢true there)
mentioned-parts (Some rows) title there = or-parts (lists Included rows title) (tests rows title) there

pub FindsAll-joined : (stored : List PageRows) (g : Gathered) (found : Found) → GathersAll stored g → Joins g found → FindsAll stored found
FindsAll-joined stored g found before joins = record {
  included = λ title page there. joins.included title page (before.included title page there);
  mentioned = λ title page there. elim (mentioned-parts (rows_at stored page) title there) [
    | inl included ↦ joins.both title page (before.included title page included)
    | inr tested ↦ joins.tested title page (before.tested title page tested)
  ];
  linked = λ title page there. joins.linked title page (before.linked title page there);
  members = λ x page there. joins.members x page (before.members x page there);
}
