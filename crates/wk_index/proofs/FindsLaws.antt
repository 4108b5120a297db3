-- A set that finds the pages of stored rows finds them still where the rows and the set change together.
use Rattle.std.proofs.Common.{◌≡◌, ◌⊎◌, ℕ, zero, suc, ◌+◌, ◌-◌, Bool, true, false, eqb, not, ◌&&◌, ◌||◌, List, [], ◌∷◌, ◌++◌, length, set, Option, Some, None, refl, sym, ap, ◌∙◌, subst, inl, inr, arith}
use Rattle.std.specs.Prelude.{bytes_eq, slice_get, slice_set, unwrap_or}
use Rattle.std.specs.Option.{IsSome}
use Rattle.std.specs.List.{AllByRecursion, filter, list_any}
use Rattle.std.proofs.lemmas.Bool.{cases_Bool, eqb-true, eqb-false, false≢true}
use Rattle.std.proofs.lemmas.List.Elements.{recursion_from_All}
use Rattle.std.proofs.lemmas.List.Folds.{list_any-append}
use Rattle.wk_text_rules.specs.Titles.{PageTitle, title_eq}
use Rattle.wk_page_rules.specs.PageRows.{Member, PageRows, no_rows}
use Rattle.wk_wiki_rules.specs.Names.{AreAmong, admitted, joined, member_eq, with_rows_at}
use Rattle.wk_index.specs.declared.named.Kind.{Kind}
use Rattle.wk_index.specs.declared.named.Kind.TheVariants.{Included, Mentioned, Linked}
use Rattle.wk_index.specs.Entries.{has_entry, lists_entry}
use Rattle.wk_index.specs.Named.{FindsIn, FindsRowsIn, KeptIn, SparesIn, has, lists, page_passes, rows_at}
use Rattle.wk_index.specs.declared.found.Found.{Found}
use Rattle.wk_index.specs.Found.{FindsAll, FindsRows, KeepsAll, SparesAll}
use Rattle.wk_index.specs.Held.{rows_of}
use Rattle.wk_index.proofs.PlaceLaws.{rows-at}
use Rattle.wk_index.proofs.TitleLaws.{title_eq-true}
use Rattle.wk_index.proofs.SameLaws.{member_eq-true}

-- ---- the rows of a page in a list that changed

get-push : (xs : List PageRows) (rows : PageRows) (place : ℕ)
    → (slice_get (xs ++ rows ∷ []) place ≡ slice_get xs place) ⊎ ((place ≡ length xs) × (slice_get (xs ++ rows ∷ []) place ≡ Some rows))
get-push [] rows zero = inr (refl, refl)
get-push [] rows (suc place) = inl refl
get-push (x ∷ xs) rows zero = inl refl
get-push (x ∷ xs) rows (suc place) = elim (get-push xs rows place) [
  | inl same ↦ inl same
  | inr new ↦ inr (ap suc new.0, new.1)
]

get-set_same : (xs : List PageRows) (rows : PageRows) (place : ℕ) → (slice_get (set xs place rows) place ≡ Some rows) ⊎ (slice_get (set xs place rows) place ≡ None)
get-set_same [] rows place = inr refl
get-set_same (x ∷ xs) rows zero = inl refl
get-set_same (x ∷ xs) rows (suc place) = get-set_same xs rows place

get-set_other : (xs : List PageRows) (rows : PageRows) (place other : ℕ) → (other ≡ place → ⊥) → slice_get (set xs place rows) other ≡ slice_get xs other
get-set_other [] rows place other apart = refl
get-set_other (x ∷ xs) rows zero zero apart = absurd (apart refl)
get-set_other (x ∷ xs) rows zero (suc other) apart = refl
get-set_other (x ∷ xs) rows (suc place) zero apart = refl
get-set_other (x ∷ xs) rows (suc place) (suc other) apart = get-set_other xs rows place other (λ e. apart (ap suc e))

-- whether rows, if any, pass
abbrev passed : {X : Type 0} → (PageRows → X → Bool) → Option PageRows → X → Bool
passed passes o x = elim o [ None ↦ false | Some rows ↦ passes rows x ]

module _ {X S : Type 0} (passes : PageRows → X → Bool) (finds : S → X → ℕ → Bool) where
  passes-at : (stored : List PageRows) (x : X) (place : ℕ) → page_passes passes stored x (suc place) ≡ passed passes (slice_get stored place) x
  passes-at stored x place = ap (λ o. passed passes o x) (rows-at stored place)

  pub FindsIn-none : (keys : S) → FindsIn passes finds [] keys
  FindsIn-none keys x zero there = absurd (false≢true there)
  FindsIn-none keys x (suc place) there = absurd (false≢true (sym (passes-at [] x place) ∙ there))

  -- one more page
  pub FindsIn-push : (xs : List PageRows) (rows : PageRows) (old new : S) → FindsIn passes finds xs old → KeptIn finds old new → FindsRowsIn passes finds rows (length xs + 1) new → FindsIn passes finds (xs ++ rows ∷ []) new
  FindsIn-push xs rows old new all kept own x zero there = absurd (false≢true there)
  FindsIn-push xs rows old new all kept own x (suc place) there =
      let here : passed passes (slice_get (xs ++ rows ∷ []) place) x ≡ true = sym (passes-at (xs ++ rows ∷ []) x place) ∙ there in
      elim (get-push xs rows place) [
        | inl same ↦ kept x (suc place) (all x (suc place) (passes-at xs x place ∙ sym (ap (λ o. passed passes o x) same) ∙ here))
        | inr last ↦
            let at : place ≡ length xs = last.0 in
            let number : length xs + 1 ≡ suc place = omega arith in
            subst (λ n. finds new x n ≡ true) number (own x (sym (ap (λ o. passed passes o x) last.1) ∙ here))
      ]

  -- the rows of one page are others
  FindsIn-set : (xs : List PageRows) (rows : PageRows) (place : ℕ) (new : S)
      → ((x : X) → passes rows x ≡ true → finds new x (suc place) ≡ true)
      → ((x : X) (page : ℕ) → (page ≡ suc place → ⊥) → page_passes passes xs x page ≡ true → finds new x page ≡ true)
      → FindsIn passes finds (set xs place rows) new
  FindsIn-set xs rows place new own others x zero there = absurd (false≢true there)
  FindsIn-set xs rows place new own others x (suc other) there =
      let here : passed passes (slice_get (set xs place rows) other) x ≡ true = sym (passes-at (set xs place rows) x other) ∙ there in
      elim (cases_Bool (eqb other place)) [
        | inl same ↦
            let e : other ≡ place = eqb-true other place same in
            let own_here : passed passes (slice_get (set xs place rows) place) x ≡ true = subst (λ n. passed passes (slice_get (set xs place rows) n) x ≡ true) e here in
            elim (get-set_same xs rows place) [
              | inl put ↦ subst (λ n. finds new x (suc n) ≡ true) (sym e) (own x (sym (ap (λ o. passed passes o x) put) ∙ own_here))
              | inr none ↦ absurd (false≢true (sym (ap (λ o. passed passes o x) none) ∙ own_here))
            ]
        | inr apart ↦
            let ne : (other ≡ place → ⊥) = eqb-false other place apart in
            others x (suc other) (λ e. ne (let f : other ≡ place = omega arith in f)) (passes-at xs x other ∙ sym (ap (λ o. passed passes o x) (get-set_other xs rows place other ne)) ∙ here)
      ]

  -- the rows of a page that is there
  passes-rows_of : (stored : List PageRows) (page : ℕ) (x : X) → IsSome (rows_at stored page) → passes (rows_of stored page) x ≡ true → page_passes passes stored x page ≡ true
  passes-rows_of stored page x there has = by-rows (rows_at stored page) there has
    where
      by-rows : (o : Option PageRows) → IsSome o → passes (unwrap_or o no_rows) x ≡ true → passed passes o x ≡ true
      by-rows None some has = absurd (false≢true some)
      by-rows (Some rows) some has = has

  -- ---- the two halves of a change

  pub FindsIn-admitted : ((old new : PageRows) (x : X) → passes (admitted old new) x ≡ true → (passes old x ≡ true) ⊎ (passes new x ≡ true))
      → (stored : List PageRows) (page : ℕ) (rows : PageRows) (old new : S)
      → IsSome (rows_at stored page) → FindsIn passes finds stored old → KeptIn finds old new → FindsRowsIn passes finds rows page new
      → FindsIn passes finds (with_rows_at stored page (admitted (rows_of stored page) rows)) new
  FindsIn-admitted parts stored zero rows old new there all kept own = absurd (false≢true there)
  FindsIn-admitted parts stored (suc place) rows old new there all kept own =
      let back : suc place - 1 ≡ place = omega arith in
      subst (λ n. FindsIn passes finds (slice_set stored n (admitted (rows_of stored (suc place)) rows)) new) (sym back)
      (FindsIn-set stored (admitted (rows_of stored (suc place)) rows) place new
      (λ x has. elim (parts (rows_of stored (suc place)) rows x has) [
        | inl first ↦ kept x (suc place) (all x (suc place) (passes-rows_of stored (suc place) x there first))
        | inr second ↦ own x second
      ])
      (λ x other apart has. kept x other (all x other has)))

  pub FindsIn-shed : ((new old : PageRows) (x : X) → AreAmong new old → passes new x ≡ true → passes old x ≡ true)
      → (stored : List PageRows) (page : ℕ) (rows : PageRows) (old new : S)
      → IsSome (rows_at stored page) → AreAmong rows (rows_of stored page) → FindsIn passes finds stored old → SparesIn passes finds rows page old new
      → FindsIn passes finds (with_rows_at stored page rows) new
  FindsIn-shed among stored zero rows old new there are all spares = absurd (false≢true there)
  FindsIn-shed among stored (suc place) rows old new there are all spares =
      let back : suc place - 1 ≡ place = omega arith in
      subst (λ n. FindsIn passes finds (slice_set stored n rows) new) (sym back)
      (FindsIn-set stored rows place new
      (λ x has. spares x (suc place) (λ same. has)
      (all x (suc place) (passes-rows_of stored (suc place) x there (among rows (rows_of stored (suc place)) x are has))))
      (λ x other apart has. spares x other (λ same. absurd (apart same)) (all x other has)))

pub or-parts : (a b : Bool) → (a || b) ≡ true → (a ≡ true) ⊎ (b ≡ true)
or-parts true b e = inl refl
or-parts false b e = inr e

pub or-left : (a b : Bool) → a ≡ true → (a || b) ≡ true
or-left true b e = refl
or-left false b e = absurd (false≢true e)

pub or-right : (a b : Bool) → b ≡ true → (a || b) ≡ true
or-right true b e = refl
or-right false b e = e

-- ---- what is among other titles

module _ {X : Type 0} (q : X → Bool) where
  any-kept : (p : X → Bool) (xs : List X) → list_any q (filter p xs) ≡ true → list_any q xs ≡ true
  any-kept p [] there = there
  any-kept p (x ∷ xs) there = elim (cases_Bool (q x)) [
    | inl holds ↦ rw holds refl
    | inr fails ↦ rw fails (any-kept p xs (elim (cases_Bool (p x)) [
      | inl keep ↦ rw (keep, fails) at there
      | inr drop ↦ rw drop at there
    ]))
  ]

  any-joined : (same : X → X → Bool) (old new : List X) → list_any q (joined same old new) ≡ true → (list_any q old ≡ true) ⊎ (list_any q new ≡ true)
  any-joined same old new there =
      elim (or-parts (list_any q old) (list_any q (filter (λ x. not (list_any (same x) old)) new)) (sym (list_any-append q old (filter (λ x. not (list_any (same x) old)) new)) ∙ there)) [
        | inl first ↦ inl first
        | inr second ↦ inr (any-kept (λ x. not (list_any (same x) old)) new second)
      ]

-- between the halves of a change rows have a title that the old ones or the new ones have
lists-admitted : (kind : Kind) (old new : PageRows) (title : PageTitle) → lists kind (admitted old new) title ≡ true → (lists kind old title ≡ true) ⊎ (lists kind new title ≡ true)
lists-admitted Included old new title there = any-joined (title_eq title) title_eq old.templates new.templates there
lists-admitted Linked old new title there = any-joined (title_eq title) title_eq old.links new.links there
lists-admitted Mentioned old new title there =
    let old_exists = list_any (title_eq title) old.exists in
    let new_exists = list_any (title_eq title) new.exists in
    let old_templates = list_any (title_eq title) old.templates in
    let new_templates = list_any (title_eq title) new.templates in
    elim (or-parts (list_any (title_eq title) (joined title_eq old.templates new.templates)) (list_any (title_eq title) (joined title_eq old.exists new.exists)) there) [
      | inl included ↦ elim (any-joined (title_eq title) title_eq old.templates new.templates included) [
        | inl first ↦ inl (or-left old_templates old_exists first)
        | inr second ↦ inr (or-left new_templates new_exists second)
      ]
      | inr tested ↦ elim (any-joined (title_eq title) title_eq old.exists new.exists tested) [
        | inl first ↦ inl (or-right old_templates old_exists first)
        | inr second ↦ inr (or-right new_templates new_exists second)
      ]
    ]

among : (old new : List PageTitle) (title : PageTitle) → AllByRecursion (λ t. list_any (title_eq t) old ≡ true) new → list_any (title_eq title) new ≡ true → list_any (title_eq title) old ≡ true
among old [] title all there = absurd (false≢true there)
among old (x ∷ xs) title all there = elim (or-parts (title_eq title x) (list_any (title_eq title) xs) there) [
  | inl same ↦ subst (λ t. list_any (title_eq t) old ≡ true) (sym (title_eq-true title x same)) all.0
  | inr later ↦ among old xs title all.1 later
]

-- rows that are among others have no title that those don't have
lists-among : (kind : Kind) (new old : PageRows) (title : PageTitle) → AreAmong new old → lists kind new title ≡ true → lists kind old title ≡ true
lists-among Included new old title are there = among old.templates new.templates title (recursion_from_All (λ t. list_any (title_eq t) old.templates ≡ true) new.templates are.templates) there
lists-among Linked new old title are there = among old.links new.links title (recursion_from_All (λ t. list_any (title_eq t) old.links ≡ true) new.links are.links) there
lists-among Mentioned new old title are there =
    elim (or-parts (list_any (title_eq title) new.templates) (list_any (title_eq title) new.exists) there) [
      | inl included ↦ or-left (list_any (title_eq title) old.templates) (list_any (title_eq title) old.exists) (among old.templates new.templates title (recursion_from_All (λ t. list_any (title_eq t) old.templates ≡ true) new.templates are.templates) included)
      | inr tested ↦ or-right (list_any (title_eq title) old.templates) (list_any (title_eq title) old.exists) (among old.exists new.exists title (recursion_from_All (λ t. list_any (title_eq t) old.exists ≡ true) new.exists are.exists) tested)
    ]

-- ---- categories, each with a sort key

-- rows without any
lists-none : (kind : Kind) (title : PageTitle) → lists kind no_rows title ≡ false
lists-none Included title = refl
lists-none Mentioned title = refl
lists-none Linked title = refl

entry-admitted : (old new : PageRows) (x : PageTitle × List ℕ) → lists_entry (admitted old new) x ≡ true → (lists_entry old x ≡ true) ⊎ (lists_entry new x ≡ true)
entry-admitted old new x there = any-joined (λ m. title_eq x.0 m.category && bytes_eq x.1 m.sortkey) member_eq old.members new.members there

entry-among : (new old : PageRows) (x : PageTitle × List ℕ) → AreAmong new old → lists_entry new x ≡ true → lists_entry old x ≡ true
entry-among new old x are there = among-members new.members (recursion_from_All (λ m. list_any (member_eq m) old.members ≡ true) new.members are.members) there
  where
    is-entry : Member → Bool
    is-entry m = title_eq x.0 m.category && bytes_eq x.1 m.sortkey

    same-entry : (m : Member) → is-entry m ≡ true → (others : List Member) → list_any (member_eq m) others ≡ true → list_any is-entry others ≡ true
    same-entry m own [] none = absurd (false≢true none)
    same-entry m own (other ∷ others) some = elim (or-parts (member_eq m other) (list_any (member_eq m) others) some) [
      | inl same ↦ or-left (is-entry other) (list_any is-entry others) (subst (λ k. is-entry k ≡ true) (member_eq-true m other same) own)
      | inr later ↦ or-right (is-entry other) (list_any is-entry others) (same-entry m own others later)
    ]

    among-members : (members : List Member) → AllByRecursion (λ m. list_any (member_eq m) old.members ≡ true) members → list_any is-entry members ≡ true → list_any is-entry old.members ≡ true
    among-members [] all none = absurd (false≢true none)
    among-members (m ∷ members) all some = elim (or-parts (is-entry m) (list_any is-entry members) some) [
      | inl own ↦ same-entry m own old.members all.0
      | inr later ↦ among-members members all.1 later
    ]

-- ---- all sets

pub FindsAll-none : (found : Found) → FindsAll [] found
FindsAll-none found = record {
  included = FindsIn-none (lists Included) has found.included;
  mentioned = FindsIn-none (lists Mentioned) has found.mentioned;
  linked = FindsIn-none (lists Linked) has found.linked;
  members = FindsIn-none lists_entry has_entry found.members.keys;
}

pub FindsAll-push : (stored items : List PageRows) (rows : PageRows) (page : ℕ) (old new : Found)
    → items ≡ stored ++ rows ∷ [] → page ≡ length stored + 1 → FindsAll stored old → KeepsAll old new → FindsRows rows page new → FindsAll items new
FindsAll-push stored items rows page old new is number finds keeps own =
    subst (λ l. FindsAll l new) (sym is) (by (subst (λ n. FindsRows rows n new) number own))
  where
    by : FindsRows rows (length stored + 1) new → FindsAll (stored ++ rows ∷ []) new
    by here = record {
      included = FindsIn-push (lists Included) has stored rows old.included new.included finds.included keeps.included here.included;
      mentioned = FindsIn-push (lists Mentioned) has stored rows old.mentioned new.mentioned finds.mentioned keeps.mentioned here.mentioned;
      linked = FindsIn-push (lists Linked) has stored rows old.linked new.linked finds.linked keeps.linked here.linked;
      members = FindsIn-push lists_entry has_entry stored rows old.members.keys new.members.keys finds.members keeps.members here.members;
    }

-- no rows are found by anything
FindsRows-none : (page : ℕ) (found : Found) → FindsRows no_rows page found
FindsRows-none page found = record {
  included = λ title there. absurd (false≢true (sym (lists-none Included title) ∙ there));
  mentioned = λ title there. absurd (false≢true (sym (lists-none Mentioned title) ∙ there));
  linked = λ title there. absurd (false≢true (sym (lists-none Linked title) ∙ there));
  members = λ x there. absurd (false≢true there);
}

KeepsAll-same : (found : Found) → KeepsAll found found
KeepsAll-same found = record {
  included = λ title page there. there;
  mentioned = λ title page there. there;
  linked = λ title page there. there;
  members = λ x page there. there;
}

pub FindsAll-push_none : (stored items : List PageRows) (found : Found) → items ≡ stored ++ no_rows ∷ [] → FindsAll stored found → FindsAll items found
FindsAll-push_none stored items found is finds =
    FindsAll-push stored items no_rows (length stored + 1) found found is refl finds (KeepsAll-same found) (FindsRows-none (length stored + 1) found)

pub FindsAll-admitted : (stored items : List PageRows) (page : ℕ) (rows : PageRows) (old new : Found)
    → items ≡ with_rows_at stored page (admitted (rows_of stored page) rows) → IsSome (rows_at stored page) → FindsAll stored old → KeepsAll old new → FindsRows rows page new → FindsAll items new
FindsAll-admitted stored items page rows old new is there finds keeps own =
    subst (λ l. FindsAll l new) (sym is) (record {
      included = FindsIn-admitted (lists Included) has (lists-admitted Included) stored page rows old.included new.included there finds.included keeps.included own.included;
      mentioned = FindsIn-admitted (lists Mentioned) has (lists-admitted Mentioned) stored page rows old.mentioned new.mentioned there finds.mentioned keeps.mentioned own.mentioned;
      linked = FindsIn-admitted (lists Linked) has (lists-admitted Linked) stored page rows old.linked new.linked there finds.linked keeps.linked own.linked;
      members = FindsIn-admitted lists_entry has_entry entry-admitted stored page rows old.members.keys new.members.keys there finds.members keeps.members own.members;
    })

-- a call that was refused may leave more titles
pub FindsAll-kept : (stored : List PageRows) (old new : Found) → FindsAll stored old → KeepsAll old new → FindsAll stored new
FindsAll-kept stored old new finds keeps = record {
  included = λ title page there. keeps.included title page (finds.included title page there);
  mentioned = λ title page there. keeps.mentioned title page (finds.mentioned title page there);
  linked = λ title page there. keeps.linked title page (finds.linked title page there);
  members = λ x page there. keeps.members x page (finds.members x page there);
}

-- the rows that a page was given
rows_of-set : (stored : List PageRows) (page : ℕ) (rows : PageRows) → IsSome (rows_at stored page) → rows_of (with_rows_at stored page rows) page ≡ rows
rows_of-set stored zero rows there = absurd (false≢true there)
rows_of-set stored (suc place) rows there =
    let back : suc place - 1 ≡ place = omega arith in
    let within : IsSome (slice_get stored place) = subst (λ o. IsSome o) (rows-at stored place) there in
    ap (λ o. unwrap_or o no_rows) (rows-at (slice_set stored (suc place - 1) rows) place)
    ∙ ap (λ n. unwrap_or (slice_get (slice_set stored n rows) place) no_rows) back
    ∙ ap (λ o. unwrap_or o no_rows) (get-set_there stored place within)
  where
    get-set_there : (xs : List PageRows) (i : ℕ) → IsSome (slice_get xs i) → slice_get (set xs i rows) i ≡ Some rows
    get-set_there [] i some = absurd (false≢true some)
    get-set_there (x ∷ xs) zero some = refl
    get-set_there (x ∷ xs) (suc i) some = get-set_there xs i some

pub FindsAll-shed : (stored items : List PageRows) (page : ℕ) (rows : PageRows) (old new : Found)
    → items ≡ with_rows_at stored page rows → IsSome (rows_at stored page) → AreAmong rows (rows_of stored page) → FindsAll stored old → SparesAll (rows_of items page) page old new → FindsAll items new
FindsAll-shed stored items page rows old new is there are finds spares =
    let own : rows_of items page ≡ rows = ap (λ l. rows_of l page) is ∙ rows_of-set stored page rows there in
    let spares_own : SparesAll rows page old new = subst (λ r. SparesAll r page old new) own spares in
    subst (λ l. FindsAll l new) (sym is) (record {
      included = FindsIn-shed (lists Included) has (lists-among Included) stored page rows old.included new.included there are finds.included spares_own.included;
      mentioned = FindsIn-shed (lists Mentioned) has (lists-among Mentioned) stored page rows old.mentioned new.mentioned there are finds.mentioned spares_own.mentioned;
      linked = FindsIn-shed (lists Linked) has (lists-among Linked) stored page rows old.linked new.linked there are finds.linked spares_own.linked;
      members = FindsIn-shed lists_entry has_entry entry-among stored page rows old.members.keys new.members.keys there are finds.members spares_own.members;
    })
