-- Entries in title order, as sets and maps keep them.
use Rattle.std.proofs.Common.{◌≡◌, ℕ, suc, ◌+◌, ◌<◌, List, [], ◌∷◌, length, get_or, map, drop, drop-cons, ◌≤◌, refl, sym, ap, ◌∙◌, Option, Some, None, arith}
use Rattle.std.proofs.lemmas.List.{drop_all}
use Rattle.std.specs.BTreeMap.{insert_entry}
use Rattle.std.specs.BTreeSet.{insert_key}
use Rattle.std.specs.List.{cons_option, filter_map}
use Rattle.std.specs.Ordering.{match_ordering}
use Rattle.std.specs.declared.cmp.Ordering.{Ordering}
use Rattle.std.specs.declared.cmp.Ordering.TheVariants.{Less, Equal, Greater}
use Rattle.wk_text_rules.specs.Titles.{PageTitle, title_cmp}
use Rattle.wk_view_laws.proofs.RowLemmas.{title_cmp-equal}
use Rattle.wk_rows.specs.Members.{kept_member, with_member}
use Rattle.wk_rows.specs.Titles.{with_title, with_titles}

-- a set keeps a key in title order
pub insert_key_put : (keys : List PageTitle) (title : PageTitle) → insert_key title_cmp keys title ≡ with_title keys title
insert_key_put [] title = refl
insert_key_put (key ∷ keys) title = go (title_cmp title key) refl (insert_key_put keys title)
  where
    go : (o : Ordering) → title_cmp title key ≡ o → insert_key title_cmp keys title ≡ with_title keys title → match_ordering o (title ∷ key ∷ keys) (key ∷ keys) (key ∷ insert_key title_cmp keys title) ≡ elim o [ Less ↦ title ∷ key ∷ keys | Equal ↦ title ∷ keys | Greater ↦ key ∷ with_title keys title ]
    go Less e later = refl
    go Equal e later = ap (λ t. t ∷ keys) (sym (title_cmp-equal title key e))
    go Greater e later = ap (λ xs. key ∷ xs) later

-- a map keeps a member by its category
pub insert_entry_put : (entries : List (PageTitle × (List ℕ × List ℕ))) (category : PageTitle) (kept : List ℕ × List ℕ) → map kept_member (insert_entry title_cmp entries category kept) ≡ with_member (map kept_member entries) (kept_member (category, kept))
insert_entry_put [] category kept = refl
insert_entry_put (entry ∷ entries) category kept = go (title_cmp category entry.0) refl (insert_entry_put entries category kept)
  where
    go : (o : Ordering) → title_cmp category entry.0 ≡ o → map kept_member (insert_entry title_cmp entries category kept) ≡ with_member (map kept_member entries) (kept_member (category, kept)) → map kept_member (match_ordering o ((category, kept) ∷ entry ∷ entries) ((entry.0, kept) ∷ entries) (entry ∷ insert_entry title_cmp entries category kept)) ≡ elim o [ Less ↦ kept_member (category, kept) ∷ kept_member entry ∷ map kept_member entries | Equal ↦ kept_member (category, kept) ∷ map kept_member entries | Greater ↦ kept_member entry ∷ with_member (map kept_member entries) (kept_member (category, kept)) ]
    go Less e later = refl
    go Equal e later = ap (λ t. kept_member (t, kept) ∷ map kept_member entries) (sym (title_cmp-equal category entry.0 e))
    go Greater e later = ap (λ xs. kept_member entry ∷ xs) later

-- ---- lists from a place on

module _ {X : Type 0} (f : X → Option PageTitle) (xs : List X) (i : ℕ) (x : X) (within : i < length xs) (here : x ≡ get_or xs i x) where
  from_here : filter_map f (drop i xs) ≡ cons_option (f x) (filter_map f (drop (i + 1) xs))
  from_here =
      let next : suc i ≡ i + 1 = omega arith in
      ap (filter_map f) (drop-cons xs i x within)
      ∙ ap (λ y. cons_option (f y) (filter_map f (drop (suc i) xs))) (sym here)
      ∙ ap (λ n. cons_option (f x) (filter_map f (drop n xs))) next

  -- a title more
  pub title_put : (ordered : List PageTitle) (title : PageTitle) → f x ≡ Some title → with_titles (with_title ordered title) (filter_map f (drop (i + 1) xs)) ≡ with_titles ordered (filter_map f (drop i xs))
  title_put ordered title e =
      sym (ap (with_titles ordered) (from_here ∙ ap (λ o. cons_option o (filter_map f (drop (i + 1) xs))) e))

  -- no title
  pub nothing_put : (ordered : List PageTitle) → f x ≡ None → with_titles ordered (filter_map f (drop (i + 1) xs)) ≡ with_titles ordered (filter_map f (drop i xs))
  nothing_put ordered e =
      sym (ap (with_titles ordered) (from_here ∙ ap (λ o. cons_option o (filter_map f (drop (i + 1) xs))) e))

pub all_put : {X : Type 0} (f : X → Option PageTitle) (xs : List X) (i : ℕ) (ordered : List PageTitle) → length xs ≤ i → with_titles ordered (filter_map f (drop i xs)) ≡ ordered
all_put f xs i ordered past = ap (λ ys. with_titles ordered (filter_map f ys)) (drop_all i xs past)
