-- The names of a page between the two halves of a change, and the first of a listing.
use Rattle.std.proofs.Common.{◌≡◌, ℕ, suc, ◌+◌, Bool, true, false, cond, ◌&&◌, ◌||◌, not, List, [], ◌∷◌, reverse, take, Option, Some, None, refl, sym, ap, ap₂, ◌∙◌, inl, inr, subst, arith}
use mathlib.Core.List.{reverse_aux}
use Rattle.std.specs.Prelude.{filter, slice_get, option_map, is_some, IfSome, bytes_eq}
use Rattle.std.specs.List.{All, AllByRecursion, last_or, list_any}
use Rattle.std.proofs.lemmas.Bool.{cases_Bool, and_parts, and_from, or_left, or_right}
use Rattle.std.proofs.lemmas.List.Elements.{All-from_recursion}
use Rattle.std.proofs.lemmas.List.Folds.{list_any-append}
use Rattle.std.proofs.lemmas.Slice.Eq.{bytes_eq-Decides}
use Rattle.wk_text_rules.specs.Titles.{PageTitle, title_eq}
use Rattle.wk_page_rules.specs.History.{History, Revision}
use Rattle.wk_page_rules.specs.PageRows.{Member, PageRows, names}
use Rattle.wk_page_rules.specs.declared.Reach.{Reach}
use Rattle.wk_page_rules.specs.declared.Reach.TheVariants.{Text, Both}
use Rattle.wk_view_laws.proofs.PlanLemmas.{title_eq-true, title_eq-same}
use Rattle.wk_wiki_rules.specs.Links.{links_to}
use Rattle.wk_wiki_rules.specs.Names.{admitted, joined, member_eq, AreAmong}
use Rattle.wk_wiki_rules.specs.Revisions.{is_below, is_of_page, newest_below, numbered_revisions, page_revisions_below}

-- ---- both lists

module _ {X : Type 0} (same : X → X → Bool) (decides : (a b : X) → same a b ≡ true → a ≡ b) (reflects : (a : X) → same a a ≡ true) where
  -- what is among the old passes there
  among-passes : (p : X → Bool) (x : X) (old : List X) → list_any (same x) old ≡ true → p x ≡ true → list_any p old ≡ true
  among-passes p x [] there passes = absurd (let e : false ≡ true = there in cc)
  among-passes p x (y ∷ old) there passes = elim (cases_Bool (same x y)) [
    | inl here ↦ or_left (p y) (list_any p old) (subst (λ z. p z ≡ true) (decides x y here) passes)
    | inr other ↦ or_right (p y) (list_any p old) (among-passes p x old (rw other at there) passes)
  ]

  rest-any : (p : X → Bool) (old new : List X) → (list_any p old || list_any p (filter (λ x. not (list_any (same x) old)) new)) ≡ (list_any p old || list_any p new)
  rest-any p old [] = refl
  rest-any p old (x ∷ new) =
      let later = rest-any p old new in
      elim (cases_Bool (list_any (same x) old)) [
        | inl there ↦ elim (cases_Bool (p x)) [
          | inl passes ↦ let some = among-passes p x old there passes in rw some refl
          | inr fails ↦ rw (there, fails) later
        ]
        | inr none ↦ rw none (both (list_any p old) (p x) (list_any p (filter (λ y. not (list_any (same y) old)) new)) (list_any p new) later)
      ]
    where
      both : (o x a b : Bool) → (o || a) ≡ (o || b) → (o || (x || a)) ≡ (o || (x || b))
      both true x a b e = refl
      both false true a b e = refl
      both false false a b e = e

  pub any-joined : (p : X → Bool) (old new : List X) → list_any p (joined same old new) ≡ (list_any p old || list_any p new)
  any-joined p old new = list_any-append p old (filter (λ x. not (list_any (same x) old)) new) ∙ rest-any p old new

  new-among : (old all : List X) → AllByRecursion (λ x. list_any (same x) (joined same old all) ≡ true) all
  new-among old all = by all all (λ x there. there)
    where
      self : (x : X) (xs : List X) → list_any (same x) xs ≡ true → list_any (same x) (joined same old xs) ≡ true
      self x xs there = any-joined (same x) old xs ∙ or_right (list_any (same x) old) (list_any (same x) xs) there

      by : (xs whole : List X) → ((x : X) → list_any (same x) xs ≡ true → list_any (same x) whole ≡ true) → AllByRecursion (λ x. list_any (same x) (joined same old whole) ≡ true) xs
      by [] whole within = tt
      by (x ∷ xs) whole within = (
        self x whole (within x (or_left (same x x) (list_any (same x) xs) (reflects x))),
        by xs whole (λ y there. within y (or_right (same y x) (list_any (same y) xs) there)),
      )

  pub AllAmong : (old new : List X) → All (λ x. list_any (same x) (joined same old new) ≡ true) new
  AllAmong old new = All-from_recursion (λ x. list_any (same x) (joined same old new) ≡ true) new (new-among old new)

member_eq-true : (a b : Member) → member_eq a b ≡ true → a ≡ b
member_eq-true a b same =
    let parts = and_parts (title_eq a.category b.category && bytes_eq a.sortkey b.sortkey) (bytes_eq a.prefix b.prefix) same in
    let two = and_parts (title_eq a.category b.category) (bytes_eq a.sortkey b.sortkey) parts.0 in
    let category = title_eq-true a.category b.category two.0 in
    let sortkey = (bytes_eq-Decides a.sortkey b.sortkey).0 two.1 in
    let prefix = (bytes_eq-Decides a.prefix b.prefix).0 parts.1 in
    λ i. record { category = category i; sortkey = sortkey i; prefix = prefix i }

member_eq-same : (a : Member) → member_eq a a ≡ true
member_eq-same a =
    and_from (title_eq a.category a.category && bytes_eq a.sortkey a.sortkey) (bytes_eq a.prefix a.prefix)
    (and_from (title_eq a.category a.category) (bytes_eq a.sortkey a.sortkey) (title_eq-same a.category) ((bytes_eq-Decides a.sortkey a.sortkey).1 refl))
    ((bytes_eq-Decides a.prefix a.prefix).1 refl)

pub names-both : (old new : PageRows) (title : PageTitle) (reach : Reach) → names (admitted old new) title reach ≡ (names old title reach || names new title reach)
names-both old new title Text = any-joined title_eq title_eq-true title_eq-same (title_eq title) old.templates new.templates
names-both old new title Both =
    ap₂ (λ a b. a || b) (any-joined title_eq title_eq-true title_eq-same (title_eq title) old.templates new.templates) (any-joined title_eq title_eq-true title_eq-same (title_eq title) old.exists new.exists)
    ∙ swap (list_any (title_eq title) old.templates) (list_any (title_eq title) new.templates) (list_any (title_eq title) old.exists) (list_any (title_eq title) new.exists)
  where
    swap : (a b c d : Bool) → ((a || b) || (c || d)) ≡ ((a || c) || (b || d))
    swap true b c d = refl
    swap false true true d = refl
    swap false true false true = refl
    swap false true false false = refl
    swap false false true d = refl
    swap false false false d = refl

pub links-both : (old new : PageRows) (title : PageTitle) → links_to (admitted old new) title ≡ (links_to old title || links_to new title)
links-both old new title = any-joined title_eq title_eq-true title_eq-same (title_eq title) old.links new.links

pub members-both : (old new : PageRows) (category : PageTitle) → list_any (λ (m : Member). title_eq m.category category) (admitted old new).members
    ≡ (list_any (λ (m : Member). title_eq m.category category) old.members || list_any (λ (m : Member). title_eq m.category category) new.members)
members-both old new category = any-joined member_eq member_eq-true member_eq-same (λ (m : Member). title_eq m.category category) old.members new.members

pub new-rows : (old new : PageRows) → AreAmong new (admitted old new)
new-rows old new = record {
  templates = AllAmong title_eq title_eq-true title_eq-same old.templates new.templates;
  exists = AllAmong title_eq title_eq-true title_eq-same old.exists new.exists;
  links = AllAmong title_eq title_eq-true title_eq-same old.links new.links;
  members = AllAmong member_eq member_eq-true member_eq-same old.members new.members;
  redirect = kept new.redirect;
}
  where
    kept : (o : Option PageTitle) → IfSome o (λ title. is_some (cond (is_some o) o old.redirect) ≡ true)
    kept None = tt
    kept (Some title) = refl

-- ---- the first of a listing

first-reversed : {X : Type 0} (xs ys : List X) → slice_get (reverse_aux xs ys) 0 ≡ last_or (slice_get ys 0) xs
first-reversed [] ys = refl
first-reversed (x ∷ xs) ys = first-reversed xs (x ∷ ys)

first-taken : {X : Type 0} (n : ℕ) (xs : List X) → slice_get (take (suc n) xs) 0 ≡ slice_get xs 0
first-taken n [] = refl
first-taken n (x ∷ xs) = refl

pub newest-first : (h : History) (page below most : ℕ) → newest_below h page below ≡ option_map (λ (r : ℕ × Revision). r.0) (slice_get (page_revisions_below h page below (most + 1)) 0)
newest-first h page below most =
    let listed = filter (λ (r : ℕ × Revision). is_of_page page r && is_below below r) (numbered_revisions h) in
    let more : most + 1 ≡ suc most = omega arith in
    let first : slice_get (take (most + 1) (reverse listed)) 0 ≡ last_or None listed = rw more (first-taken most (reverse listed) ∙ first-reversed listed []) in
    ap (λ o. option_map (λ (r : ℕ × Revision). r.0) o) (sym first)
