-- The members of a category in the order of the entries by which they are found are those of the rules.
use Rattle.std.proofs.Common.{◌≡◌, ℕ, zero, suc, ◌+◌, ◌-◌, ◌<◌, ◌≤◌, Bool, true, false, cond, eqb, ltb, not, ◌&&◌, List, [], ◌∷◌, ◌++◌, length, map, take, drop, get_or, Some, None, refl, sym, ap, ◌∙◌, subst, inl, inr, arith}
use Rattle.std.specs.Prelude.{bytes_eq, fold, flat_map, slice_get}
use Rattle.std.specs.List.{AllByRecursion, enumerate_from, filter, list_any}
use Rattle.std.specs.List.Sorted.{IsStrictlySortedBy}
use Rattle.std.specs.Cmp.{IsTotalOrder}
use Rattle.std.specs.Cmp.Lexicographic.{slice_cmp}
use Rattle.std.specs.Ordering.{is_eq, is_le, is_lt, nat_cmp, ordering_reverse, ordering_then}
use Rattle.std.specs.declared.cmp.Ordering.{Ordering}
use Rattle.std.specs.declared.cmp.Ordering.TheVariants.{Less, Equal, Greater}
use Rattle.std.proofs.lemmas.Bool.{cases_Bool, and_parts, eqb-true, eq-eqb, ltb-false, ne_eqb, false≢true}
use Rattle.std.proofs.lemmas.Bool.Decides.{same_from_decides}
use Rattle.std.proofs.lemmas.Cmp.{nat_cmp_total, nat_list_cmp_total, on_total, then_total, tied_itself}
use Rattle.std.proofs.Math.Seq.{drop-cons}
use Rattle.std.proofs.lemmas.List.{append-nil, append_assoc, drop_all, length-append}
use Rattle.std.proofs.lemmas.List.Kept.{IsStrictlySortedBy-filter}
use Rattle.std.proofs.lemmas.Slice.Eq.{bytes_eq-Decides}
use Rattle.wk_text_rules.specs.Titles.{PageTitle, title_cmp, title_eq}
use Rattle.wk_page_rules.specs.PageRows.{Member, PageRows}
use Rattle.wk_table_rows.specs.Members.{member_of}
use Rattle.wk_good_rows.proofs.Sets.{same-title}
use Rattle.wk_wiki_rules.specs.Members.{MemberPage, category_members, member_lt, member_placed, members_on}
use Rattle.wk_index.specs.Entries.{Entry, FindsEntries, entry_cmp, has_entry, lists_entry}
use Rattle.wk_index.specs.Listing.{members_from, own_members, page_members}
use Rattle.wk_index.specs.Named.{rows_at}
use Rattle.wk_index.proofs.FindsLaws.{or-parts, or-left, or-right}
use Rattle.wk_index.proofs.OrderLaws.{apart-after, same-equal, title_cmp_total}
use Rattle.wk_index.proofs.PagesLaws.{any-filter, any-same}
use Rattle.wk_index.proofs.PlaceLaws.{rows-at}
use Rattle.wk_index.proofs.TitleLaws.{title_eq-true, title_eq-same, title_cmp-same}

pub entry_cmp_total : IsTotalOrder entry_cmp
entry_cmp_total = then_total (on_total (λ (e : Entry). e.category) title_cmp_total) (then_total (on_total (λ (e : Entry). e.sortkey) nat_list_cmp_total) (on_total (λ (e : Entry). e.page) nat_cmp_total))

less-back : (a b : Entry) → entry_cmp a b ≡ Less → is_lt (entry_cmp b a) ≡ false
less-back a b e = ap is_lt (entry_cmp_total.antisymm b a ∙ ap ordering_reverse e)

less-is_lt : (o : Ordering) → o ≡ Less → is_lt o ≡ true
less-is_lt o e = ap is_lt e

filter-append : {X : Type 0} (p : X → Bool) (xs ys : List X) → filter p (xs ++ ys) ≡ filter p xs ++ filter p ys
filter-append p [] ys = refl
filter-append p (x ∷ xs) ys = elim (cases_Bool (p x)) [
  | inl passes ↦ rw passes (ap (λ l. x ∷ l) (filter-append p xs ys))
  | inr fails ↦ rw fails (filter-append p xs ys)
]

bytes_eq_comm : (xs ys : List ℕ) → bytes_eq xs ys ≡ bytes_eq ys xs
bytes_eq_comm xs ys =
    same_from_decides {P = xs ≡ ys} _ _ (bytes_eq-Decides xs ys)
    (λ t. sym ((bytes_eq-Decides ys xs).0 t), λ e. (bytes_eq-Decides ys xs).1 (sym e))

-- ---- members that are put at their places, by the entries that they are found by

module _ (c : PageTitle) where
  -- the member is found by the entry
  abbrev pub at : Entry → MemberPage → Bool
  at e m = title_eq e.category c && (bytes_eq e.sortkey m.sortkey && eqb e.page m.page)

  abbrev pub key : MemberPage → Entry
  key m = record { category = c; sortkey = m.sortkey; page = m.page }

  at-key : (e : Entry) (m : MemberPage) → at e m ≡ true → e ≡ key m
  at-key e m there =
      let first = and_parts (title_eq e.category c) (bytes_eq e.sortkey m.sortkey && eqb e.page m.page) there in
      let second = and_parts (bytes_eq e.sortkey m.sortkey) (eqb e.page m.page) first.1 in
      ap (λ x. made x e.sortkey e.page) (title_eq-true e.category c first.0)
      ∙ ap (λ x. made c x e.page) ((bytes_eq-Decides e.sortkey m.sortkey).0 second.0)
      ∙ ap (made c m.sortkey) (eqb-true e.page m.page second.1)
    where
      made : PageTitle → List ℕ → ℕ → Entry
      made x s n = record { category = x; sortkey = s; page = n }

  at-itself : (m : MemberPage) → at (key m) m ≡ true
  at-itself m = rw (title_eq-same c, (bytes_eq-Decides m.sortkey m.sortkey).1 refl, eq-eqb m.page m.page refl) refl

  lt-is : (a b : MemberPage) → member_lt a b ≡ is_lt (entry_cmp (key a) (key b))
  lt-is a b = ap (λ o. is_lt (ordering_then o (ordering_then (slice_cmp nat_cmp a.sortkey b.sortkey) (nat_cmp a.page b.page)))) (sym (title_cmp-same c))

  -- the members by the entries that they are found by
  abbrev pub grouped : List Entry → List MemberPage → List MemberPage
  grouped entries xs = flat_map (λ e. filter (at e) xs) entries

  grouped-none : (entries : List Entry) → grouped entries [] ≡ []
  grouped-none [] = refl
  grouped-none (e ∷ es) = grouped-none es

  -- members that the new one doesn't stand before
  pass : (e : Entry) (xs rest : List MemberPage) (new : MemberPage) → is_lt (entry_cmp (key new) e) ≡ false
      → member_placed (filter (at e) xs ++ rest) new ≡ filter (at e) xs ++ member_placed rest new
  pass e [] rest new over = refl
  pass e (x ∷ xs) rest new over = elim (cases_Bool (at e x)) [
    | inl own ↦
        let behind : member_lt new x ≡ false = lt-is new x ∙ ap (λ k. is_lt (entry_cmp (key new) k)) (sym (at-key e x own)) ∙ over in
        rw own (rw behind (ap (λ l. x ∷ l) (pass e xs rest new over)))
    | inr other ↦ rw other (pass e xs rest new over)
  ]

  ahead-of : (e : Entry) (xs rest : List MemberPage) (new : MemberPage) → entry_cmp (key new) e ≡ Less → member_placed rest new ≡ new ∷ rest
      → member_placed (filter (at e) xs ++ rest) new ≡ new ∷ (filter (at e) xs ++ rest)
  ahead-of e [] rest new before is = is
  ahead-of e (x ∷ xs) rest new before is = elim (cases_Bool (at e x)) [
    | inl own ↦
        let less : member_lt new x ≡ true = lt-is new x ∙ ap (λ k. is_lt (entry_cmp (key new) k)) (sym (at-key e x own)) ∙ ap is_lt before in
        rw own (rw less refl)
    | inr other ↦ rw other (ahead-of e xs rest new before is)
  ]

  -- the new one stands before all
  ahead : (entries : List Entry) (xs : List MemberPage) (new : MemberPage) → AllByRecursion (λ e. entry_cmp (key new) e ≡ Less) entries
      → member_placed (grouped entries xs) new ≡ new ∷ grouped entries xs
  ahead [] xs new all = refl
  ahead (e ∷ es) xs new all = ahead-of e xs (grouped es xs) new all.0 (ahead es xs new all.1)

  apart : (e : Entry) (m : MemberPage) → entry_cmp (key m) e ≡ Less → at e m ≡ false
  apart e m before = elim (cases_Bool (at e m)) [
    | inl own ↦ absurd (let equal : entry_cmp (key m) e ≡ Equal = subst (λ k. entry_cmp (key m) k ≡ Equal) (sym (at-key e m own)) (tied_itself entry_cmp_total (key m)) in
        let none : Less ≡ Equal = sym before ∙ equal in cc)
    | inr other ↦ other
  ]

  -- a new one that is found by none of the entries
  stays : (entries : List Entry) (xs : List MemberPage) (new : MemberPage) → AllByRecursion (λ e. entry_cmp (key new) e ≡ Less) entries → grouped entries (xs ++ new ∷ []) ≡ grouped entries xs
  stays [] xs new all = refl
  stays (e ∷ es) xs new all =
      let same : filter (at e) (xs ++ new ∷ []) ≡ filter (at e) xs = filter-append (at e) xs (new ∷ []) ∙ (rw (apart e new all.0) (append-nil (filter (at e) xs))) in
      ap (λ l. l ++ grouped es (xs ++ new ∷ [])) same ∙ ap (λ l. filter (at e) xs ++ l) (stays es xs new all.1)

  found-behind : (e : Entry) (es : List Entry) (new : MemberPage) → AllByRecursion (λ later. entry_cmp e later ≡ Less) es → list_any (λ later. at later new) es ≡ true → entry_cmp e (key new) ≡ Less
  found-behind e [] new all none = absurd (false≢true none)
  found-behind e (later ∷ es) new all some = elim (or-parts (at later new) (list_any (λ k. at k new) es) some) [
    | inl own ↦ subst (λ k. entry_cmp e k ≡ Less) (at-key later new own) all.0
    | inr behind ↦ found-behind e es new all.1 behind
  ]

  -- one more member
  placed-grouped : (entries : List Entry) (xs : List MemberPage) (new : MemberPage) → IsStrictlySortedBy entry_cmp entries → list_any (λ e. at e new) entries ≡ true
      → member_placed (grouped entries xs) new ≡ grouped entries (xs ++ new ∷ [])
  unfolding IsStrictlySortedBy
  placed-grouped [] xs new order none = absurd (false≢true none)
  placed-grouped (e ∷ es) xs new order some = elim (cases_Bool (at e new)) [
    | inl own ↦
        let is : e ≡ key new = at-key e new own in
        let over : is_lt (entry_cmp (key new) e) ≡ false = subst (λ k. is_lt (entry_cmp (key new) k) ≡ false) (sym is) (ap is_lt (tied_itself entry_cmp_total (key new))) in
        let behind : AllByRecursion (λ later. entry_cmp (key new) later ≡ Less) es = subst (λ k. AllByRecursion (λ later. entry_cmp k later ≡ Less) es) is order.0 in
        let more : filter (at e) (xs ++ new ∷ []) ≡ filter (at e) xs ++ new ∷ [] = filter-append (at e) xs (new ∷ []) ∙ (rw own refl) in
        pass e xs (grouped es xs) new over
        ∙ ap (λ l. filter (at e) xs ++ l) (ahead es xs new behind)
        ∙ sym (append_assoc (filter (at e) xs) (new ∷ []) (grouped es xs))
        ∙ ap (λ l. l ++ grouped es xs) (sym more)
        ∙ ap (λ l. filter (at e) (xs ++ new ∷ []) ++ l) (sym (stays es xs new behind))
    | inr other ↦
        let later : list_any (λ k. at k new) es ≡ true = rw other at some in
        let over : is_lt (entry_cmp (key new) e) ≡ false = less-back e (key new) (found-behind e es new order.0 later) in
        let same : filter (at e) (xs ++ new ∷ []) ≡ filter (at e) xs = filter-append (at e) xs (new ∷ []) ∙ (rw other (append-nil (filter (at e) xs))) in
        pass e xs (grouped es xs) new over
        ∙ ap (λ l. filter (at e) xs ++ l) (placed-grouped es xs new order.1 later)
        ∙ ap (λ l. l ++ grouped es (xs ++ new ∷ [])) (sym same)
  ]

  -- all members, one after the other
  folded : (entries : List Entry) (seen xs : List MemberPage) → IsStrictlySortedBy entry_cmp entries → AllByRecursion (λ x. list_any (λ e. at e x) entries ≡ true) xs
      → fold member_placed (grouped entries seen) xs ≡ grouped entries (seen ++ xs)
  folded entries seen [] order all = ap (grouped entries) (sym (append-nil seen))
  folded entries seen (x ∷ xs) order all =
      ap (λ l. fold member_placed l xs) (placed-grouped entries seen x order all.0)
      ∙ folded entries (seen ++ x ∷ []) xs order all.1
      ∙ ap (grouped entries) (append_assoc seen (x ∷ []) xs)

  pub sorted-grouped : (entries : List Entry) (xs : List MemberPage) → IsStrictlySortedBy entry_cmp entries → AllByRecursion (λ x. list_any (λ e. at e x) entries ≡ true) xs
      → fold member_placed [] xs ≡ grouped entries xs
  sorted-grouped entries xs order all = ap (λ l. fold member_placed l xs) (sym (grouped-none entries)) ∙ folded entries [] xs order all

  -- ---- what one page gives

  abbrev made : ℕ → Member → MemberPage
  made n m = record { sortkey = m.sortkey; page = n; prefix = m.prefix }

  abbrev mine : List ℕ → ℕ → List Member → List MemberPage
  mine s n ms = map (made n) (filter (λ m. title_eq m.category c && bytes_eq m.sortkey s) ms)

  abbrev entry_of : List ℕ → ℕ → Entry
  entry_of s n = record { category = c; sortkey = s; page = n }

  on-page : (s : List ℕ) (n : ℕ) (ms : List Member) → filter (at (entry_of s n)) (map (made n) (filter (λ m. title_eq m.category c) ms)) ≡ mine s n ms
  on-page s n [] = refl
  on-page s n (m ∷ ms) = elim (cases_Bool (title_eq m.category c)) [
    | inl own ↦ elim (cases_Bool (bytes_eq s m.sortkey)) [
      | inl same ↦ rw (own, title_eq-same c, same, bytes_eq_comm m.sortkey s, same, eq-eqb n n refl) (ap (λ l. made n m ∷ l) (on-page s n ms))
      | inr apart ↦ rw (own, title_eq-same c, apart, bytes_eq_comm m.sortkey s, apart) (on-page s n ms)
    ]
    | inr other ↦ rw other (on-page s n ms)
  ]

  off-one : (s : List ℕ) (p n : ℕ) (m : Member) → eqb p n ≡ false → at (entry_of s p) (made n m) ≡ false
  off-one s p n m ne = ap (λ b. title_eq c c && (bytes_eq s m.sortkey && b)) ne ∙ none (title_eq c c) (bytes_eq s m.sortkey)
    where
      none : (a b : Bool) → (a && (b && false)) ≡ false
      none true true = refl
      none true false = refl
      none false b = refl

  off-page : (s : List ℕ) (p n : ℕ) (ms : List Member) → eqb p n ≡ false → filter (at (entry_of s p)) (map (made n) (filter (λ m. title_eq m.category c) ms)) ≡ []
  off-page s p n [] ne = refl
  off-page s p n (m ∷ ms) ne = elim (cases_Bool (title_eq m.category c)) [
    | inl own ↦ let gone : at (entry_of s p) (made n m) ≡ false = off-one s p n m ne in rw (own, gone) (off-page s p n ms ne)
    | inr other ↦ rw other (off-page s p n ms ne)
  ]

  abbrev pub all_from : ℕ → List PageRows → List MemberPage
  all_from n stored = flat_map (members_on c) (enumerate_from n stored)

  off-all : (s : List ℕ) (p n : ℕ) (stored : List PageRows) → p < n → filter (at (entry_of s p)) (all_from n stored) ≡ []
  off-all s p n [] under = refl
  off-all s p n (rows ∷ stored) under =
      filter-append (at (entry_of s p)) (members_on c (n, rows)) (all_from (n + 1) stored)
      ∙ ap (λ l. l ++ filter (at (entry_of s p)) (all_from (n + 1) stored)) (off-page s p n rows.members (ne_eqb p n (λ e. omega arith)))
      ∙ off-all s p (n + 1) stored (omega arith)

  on-all : (s : List ℕ) (p n : ℕ) (stored : List PageRows) (place : ℕ) → p ≡ n + place → filter (at (entry_of s p)) (all_from n stored) ≡ elim (slice_get stored place) [ None ↦ [] | Some rows ↦ mine s p rows.members ]
  on-all s p n [] place is = refl
  on-all s p n (rows ∷ stored) zero is =
      let same : n ≡ p = omega arith in
      filter-append (at (entry_of s p)) (members_on c (n, rows)) (all_from (n + 1) stored)
      ∙ ap (λ l. filter (at (entry_of s p)) (members_on c (n, rows)) ++ l) (off-all s p (n + 1) stored (omega arith))
      ∙ append-nil (filter (at (entry_of s p)) (members_on c (n, rows)))
      ∙ ap (λ k. filter (at (entry_of s p)) (members_on c (k, rows))) same
      ∙ on-page s p rows.members
  on-all s p n (rows ∷ stored) (suc place) is =
      filter-append (at (entry_of s p)) (members_on c (n, rows)) (all_from (n + 1) stored)
      ∙ ap (λ l. l ++ filter (at (entry_of s p)) (all_from (n + 1) stored)) (off-page s p n rows.members (ne_eqb p n (λ e. omega arith)))
      ∙ on-all s p (n + 1) stored place (omega arith)

  own-page : (stored : List PageRows) (s : List ℕ) (p : ℕ) → filter (at (entry_of s p)) (all_from 1 stored) ≡ page_members stored (entry_of s p)
  own-page stored s zero = off-all s 0 1 stored (omega arith)
  own-page stored s (suc place) =
      on-all s (suc place) 1 stored place (omega arith)
      ∙ ap (λ o. elim o [ None ↦ [] | Some rows ↦ mine s (suc place) rows.members ]) (sym (rows-at stored place))

  -- the entries of the category
  abbrev pub own_entries : List Entry → List Entry
  own_entries entries = filter (λ e. title_eq e.category c) entries

  filter-none : (e : Entry) (xs : List MemberPage) → title_eq e.category c ≡ false → filter (at e) xs ≡ []
  filter-none e [] other = refl
  filter-none e (x ∷ xs) other = rw other (filter-none e xs other)

  grouped-pages : (stored : List PageRows) (entries : List Entry) → grouped entries (all_from 1 stored) ≡ flat_map (page_members stored) (own_entries entries)
  grouped-pages stored [] = refl
  grouped-pages stored (e ∷ es) = elim (cases_Bool (title_eq e.category c)) [
    | inl own ↦
        let is : e ≡ entry_of e.sortkey e.page = ap (λ x. record { category = x; sortkey = e.sortkey; page = e.page }) (title_eq-true e.category c own) in
        ap (λ l. l ++ grouped es (all_from 1 stored))
        (ap (λ k. filter (at k) (all_from 1 stored)) is ∙ own-page stored e.sortkey e.page ∙ ap (page_members stored) (sym is))
        ∙ ap (λ l. page_members stored e ++ l) (grouped-pages stored es)
        ∙ sym (ap (λ b. flat_map (page_members stored) (cond b (e ∷ own_entries es) (own_entries es))) own)
    | inr other ↦
        ap (λ l. l ++ grouped es (all_from 1 stored)) (filter-none e (all_from 1 stored) other)
        ∙ grouped-pages stored es
        ∙ sym (ap (λ b. flat_map (page_members stored) (cond b (e ∷ own_entries es) (own_entries es))) other)
  ]

  -- ---- all members are found

  all-append : {X : Type 0} (P : X → Type 0) (xs ys : List X) → AllByRecursion P xs → AllByRecursion P ys → AllByRecursion P (xs ++ ys)
  all-append P [] ys first second = second
  all-append P (x ∷ xs) ys first second = (first.0, all-append P xs ys first.1 second)

  module _ (entries : List Entry) where
    abbrev is_found : List ℕ → ℕ → Bool
    is_found s p = list_any (λ e. title_eq e.category c && (bytes_eq e.sortkey s && eqb e.page p)) entries

    page-found : (n : ℕ) (ms : List Member) → ((s : List ℕ) → list_any (λ m. title_eq c m.category && bytes_eq s m.sortkey) ms ≡ true → is_found s n ≡ true)
        → AllByRecursion (λ x. is_found x.sortkey x.page ≡ true) (map (made n) (filter (λ m. title_eq m.category c) ms))
    page-found n [] found = tt
    page-found n (m ∷ ms) found =
        let later : AllByRecursion (λ x. is_found x.sortkey x.page ≡ true) (map (made n) (filter (λ m. title_eq m.category c) ms)) =
        page-found n ms (λ s some. found s (or-right (title_eq c m.category && bytes_eq s m.sortkey) (list_any (λ m. title_eq c m.category && bytes_eq s m.sortkey) ms) some)) in
        elim (cases_Bool (title_eq m.category c)) [
          | inl own ↦
              let is : m.category ≡ c = title_eq-true m.category c own in
              let here : (title_eq c m.category && bytes_eq m.sortkey m.sortkey) ≡ true = subst (λ x. (title_eq c x && bytes_eq m.sortkey m.sortkey) ≡ true) (sym is) (rw (title_eq-same c, (bytes_eq-Decides m.sortkey m.sortkey).1 refl) refl) in
              rw own (found m.sortkey (or-left (title_eq c m.category && bytes_eq m.sortkey m.sortkey) (list_any (λ k. title_eq c k.category && bytes_eq m.sortkey k.sortkey) ms) here), later)
          | inr other ↦ rw other later
        ]

    all-found : (n : ℕ) (stored : List PageRows) → ((s : List ℕ) (place : ℕ) → elim (slice_get stored place) [ None ↦ false | Some rows ↦ lists_entry rows (c, s) ] ≡ true → is_found s (n + place) ≡ true)
        → AllByRecursion (λ x. is_found x.sortkey x.page ≡ true) (all_from n stored)
    all-found n [] found = tt
    all-found n (rows ∷ stored) found =
        all-append (λ x. is_found x.sortkey x.page ≡ true) (members_on c (n, rows)) (all_from (n + 1) stored)
        (page-found n rows.members (λ s some. let first : n + 0 ≡ n = omega arith in subst (λ k. is_found s k ≡ true) first (found s 0 some)))
        (all-found (n + 1) stored (λ s place some. let next : n + suc place ≡ n + 1 + place = omega arith in subst (λ k. is_found s k ≡ true) next (found s (suc place) some)))

  -- ---- the entries from the category on

  abbrev pub first_entry : Entry
  first_entry = entry_of [] 0

  abbrev pub from_first : Entry → Bool
  from_first e = is_le (entry_cmp first_entry e) && not false

  le-itself : (s : List ℕ) (p : ℕ) → is_le (entry_cmp first_entry (entry_of s p)) ≡ true
  le-itself s p = ap (λ o. is_le (ordering_then o (ordering_then (slice_cmp nat_cmp [] s) (nat_cmp 0 p)))) (title_cmp-same c) ∙ by s p
    where
      by : (s : List ℕ) (p : ℕ) → is_le (ordering_then (slice_cmp nat_cmp [] s) (nat_cmp 0 p)) ≡ true
      by [] p = elim (cases_Bool (ltb 0 p)) [
        | inl some ↦ rw some refl
        | inr none ↦ let zero_is : 0 ≡ p = (let low : p ≤ 0 = ltb-false 0 p none in omega arith) in rw (none, eq-eqb 0 p zero_is) refl
      ]
      by (x ∷ xs) p = refl

  abbrev found_in : List Entry → List ℕ → ℕ → Bool
  found_in entries s p = list_any (λ e. title_eq e.category c && (bytes_eq e.sortkey s && eqb e.page p)) entries

  found-from : (entries : List Entry) (s : List ℕ) (p : ℕ) → has_entry entries (c, s) p ≡ true → found_in (filter from_first entries) s p ≡ true
  found-from entries s p there =
      any-filter from_first (λ e. title_eq e.category c && (bytes_eq e.sortkey s && eqb e.page p)) entries
      ∙ any-same (λ (e : Entry). from_first e && (title_eq e.category c && (bytes_eq e.sortkey s && eqb e.page p))) (λ e. (title_eq e.category c && bytes_eq e.sortkey s) && eqb e.page p) same entries
      ∙ there
    where
      same : (e : Entry) → (from_first e && (title_eq e.category c && (bytes_eq e.sortkey s && eqb e.page p))) ≡ ((title_eq e.category c && bytes_eq e.sortkey s) && eqb e.page p)
      same e = elim (cases_Bool (title_eq e.category c && (bytes_eq e.sortkey s && eqb e.page p))) [
        | inl all ↦
            let is : e ≡ entry_of s p = at-key e (record { sortkey = s; page = p; prefix = [] }) all in
            let low : from_first e ≡ true = ap from_first is ∙ (rw (le-itself s p) refl) in
            rw (all, low) (sym (sym (and-parts_assoc (title_eq e.category c) (bytes_eq e.sortkey s) (eqb e.page p)) ∙ all))
        | inr none ↦ rw none (and-none (from_first e) ∙ sym (sym (and-parts_assoc (title_eq e.category c) (bytes_eq e.sortkey s) (eqb e.page p)) ∙ none))
      ]
        where
          and-none : (b : Bool) → (b && false) ≡ false
          and-none true = refl
          and-none false = refl

          and-parts_assoc : (x y z : Bool) → (x && (y && z)) ≡ ((x && y) && z)
          and-parts_assoc true y z = refl
          and-parts_assoc false y z = refl

  found-all : (stored : List PageRows) (entries : List Entry) → FindsEntries stored entries
      → AllByRecursion (λ x. list_any (λ e. at e x) (filter from_first entries) ≡ true) (all_from 1 stored)
  found-all stored entries finds =
      all-found (filter from_first entries) 1 stored (λ s place some.
      let number : suc place ≡ 1 + place = omega arith in
      subst (λ n. found_in (filter from_first entries) s n ≡ true) number
      (found-from entries s (suc place) (finds (c, s) (suc place) (ap (λ o. elim o [ None ↦ false | Some rows ↦ lists_entry rows (c, s) ]) (rows-at stored place) ∙ some))))

  -- behind an entry of another category stands none of the category
  abbrev pub IsRun : List Entry → Type 0
  IsRun [] = Unit {0}
  IsRun (e ∷ es) = (title_eq e.category c ≡ false → own_entries es ≡ []) × IsRun es

  later-other : (e later : Entry) → title_cmp c e.category ≡ Less → entry_cmp e later ≡ Less → title_eq later.category c ≡ false
  later-other e later before rise = by (title_cmp e.category later.category) refl
    where
      by : (o : Ordering) → title_cmp e.category later.category ≡ o → title_eq later.category c ≡ false
      by Less is = apart-after c later.category (title_cmp_total.trans c e.category later.category before is)
      by Equal is = apart-after c later.category (subst (λ x. title_cmp c x ≡ Less) (same-equal e.category later.category is) before)
      by Greater is = absurd (let none : Greater ≡ Less = ap (λ o. ordering_then o (ordering_then (slice_cmp nat_cmp e.sortkey later.sortkey) (nat_cmp e.page later.page))) (sym is) ∙ rise in cc)

  none-later : (e : Entry) (es : List Entry) → title_cmp c e.category ≡ Less → AllByRecursion (λ later. entry_cmp e later ≡ Less) es → own_entries es ≡ []
  none-later e [] before all = refl
  none-later e (later ∷ es) before all = rw (later-other e later before all.0) (none-later e es before all.1)

  other-behind : (e : Entry) → from_first e ≡ true → title_eq e.category c ≡ false → title_cmp c e.category ≡ Less
  other-behind e low other = by (title_cmp c e.category) refl
    where
      by : (o : Ordering) → title_cmp c e.category ≡ o → title_cmp c e.category ≡ Less
      by Less is = is
      by Equal is = absurd (false≢true (sym other ∙ (sym (same-title c e.category) ∙ ap is_eq is)))
      by Greater is =
          absurd (false≢true (ap (λ o. is_le (ordering_then o (ordering_then (slice_cmp nat_cmp [] e.sortkey) (nat_cmp 0 e.page))) && not false) (sym is) ∙ low))

  run-from : (es : List Entry) → IsStrictlySortedBy entry_cmp es → AllByRecursion (λ e. from_first e ≡ true) es → IsRun es
  unfolding IsStrictlySortedBy
  run-from [] order all = tt
  run-from (e ∷ es) order all = (λ other. none-later e es (other-behind e all.0 other) order.0, run-from es order.1 all.1)

  all-kept : (p : Entry → Bool) (es : List Entry) → AllByRecursion (λ e. p e ≡ true) (filter p es)
  all-kept p [] = tt
  all-kept p (e ∷ es) = elim (cases_Bool (p e)) [
    | inl passes ↦ rw passes (passes, all-kept p es)
    | inr fails ↦ rw fails (all-kept p es)
  ]

  -- ---- a listing

  pub run-of : (entries : List Entry) → IsStrictlySortedBy entry_cmp entries → IsRun (filter from_first entries)
  run-of entries order = run-from (filter from_first entries) (IsStrictlySortedBy-filter entry_cmp from_first entries order) (all-kept from_first entries)

  -- what is listed in the end, where nothing is listed yet
  pub listing-starts : (stored : List PageRows) (entries : List Entry) (passed most : ℕ) → IsStrictlySortedBy entry_cmp entries → FindsEntries stored entries
      → members_from most [] passed (flat_map (page_members stored) (own_entries (filter from_first entries))) ≡ take most (drop passed (category_members stored c))
  unfolding category_members
  listing-starts stored entries passed most order finds =
      let all : most - 0 ≡ most = omega arith in
      ap (λ n. take n (drop passed (flat_map (page_members stored) (own_entries (filter from_first entries))))) all
      ∙ ap (λ l. take most (drop passed l))
      (sym (grouped-pages stored (filter from_first entries))
      ∙ sym (sorted-grouped (filter from_first entries) (all_from 1 stored) (IsStrictlySortedBy-filter entry_cmp from_first entries order) (found-all stored entries finds)))

  -- one more entry of the category
  pub listing-goes_on : (stored : List PageRows) (e : Entry) (es entries : List Entry) (most : ℕ) (listed after whole : List MemberPage) (left passed : ℕ) → entries ≡ e ∷ es → title_eq e.category c ≡ true
      → ((rest : List MemberPage) → members_from most after left rest ≡ members_from most listed passed (page_members stored e ++ rest))
      → members_from most listed passed (flat_map (page_members stored) (own_entries entries)) ≡ whole
      → members_from most after left (flat_map (page_members stored) (own_entries es)) ≡ whole
  listing-goes_on stored e es entries most listed after whole left passed is own step so_far =
      step (flat_map (page_members stored) (own_entries es))
      ∙ sym (ap (λ b. members_from most listed passed (flat_map (page_members stored) (cond b (e ∷ own_entries es) (own_entries es)))) own)
      ∙ sym (ap (λ l. members_from most listed passed (flat_map (page_members stored) (own_entries l))) is)
      ∙ so_far

  -- nothing of the category is left
  listing-nothing : (most : ℕ) (listed : List MemberPage) (passed : ℕ) → members_from most listed passed [] ≡ listed
  listing-nothing most listed passed = ap (λ l. listed ++ take (most - length listed) l) (drop_none passed) ∙ (ap (λ l. listed ++ l) (take_none (most - length listed)) ∙ append-nil listed)
    where
      drop_none : (n : ℕ) → drop {A = MemberPage} n [] ≡ []
      drop_none zero = refl
      drop_none (suc n) = refl

      take_none : (n : ℕ) → take {A = MemberPage} n [] ≡ []
      take_none zero = refl
      take_none (suc n) = refl

  pub listing-ends : (stored : List PageRows) (entries : List Entry) (most : ℕ) (listed whole : List MemberPage) (passed : ℕ) → own_entries entries ≡ []
      → members_from most listed passed (flat_map (page_members stored) (own_entries entries)) ≡ whole → listed ≡ whole
  listing-ends stored entries most listed whole passed none so_far =
      sym (listing-nothing most listed passed) ∙ sym (ap (λ l. members_from most listed passed (flat_map (page_members stored) l)) none) ∙ so_far

  -- an entry of another category
  pub listing-other : (stored : List PageRows) (e : Entry) (es entries : List Entry) (most : ℕ) (listed whole : List MemberPage) (passed : ℕ) → entries ≡ e ∷ es → title_eq e.category c ≡ false → IsRun entries
      → members_from most listed passed (flat_map (page_members stored) (own_entries entries)) ≡ whole → listed ≡ whole
  listing-other stored e es entries most listed whole passed is other run so_far =
      let here : IsRun (e ∷ es) = subst IsRun is run in
      listing-ends stored entries most listed whole passed (ap own_entries is ∙ (rw other (here.0 other))) so_far

-- enough is listed
pub listing-full : (most : ℕ) (listed rest whole : List MemberPage) (passed : ℕ) → most ≤ length listed → members_from most listed passed rest ≡ whole → listed ≡ whole
listing-full most listed rest whole passed full so_far =
    let none : most - length listed ≡ 0 = omega arith in
    sym (append-nil listed) ∙ ap (λ n. listed ++ take n (drop passed rest)) (sym none) ∙ so_far

-- ---- one more member

pub one-passed : (most : ℕ) (listed : List MemberPage) (new : MemberPage) (passed : ℕ) (rest : List MemberPage) → 0 < passed
    → members_from most listed (passed - 1) rest ≡ members_from most listed passed (new ∷ rest)
one-passed most listed new zero rest some = absurd (omega arith)
one-passed most listed new (suc passed) rest some =
    let back : suc passed - 1 ≡ passed = omega arith in
    ap (λ n. members_from most listed n rest) back

pub one-too_many : (most : ℕ) (listed : List MemberPage) (new : MemberPage) (passed : ℕ) (rest : List MemberPage) → most ≤ length listed
    → members_from most listed 0 rest ≡ members_from most listed passed (new ∷ rest)
one-too_many most listed new passed rest full =
    let none : most - length listed ≡ 0 = omega arith in
    ap (λ n. listed ++ take n (drop 0 rest)) none ∙ sym (ap (λ n. listed ++ take n (drop passed (new ∷ rest))) none)

pub one-listed : (most : ℕ) (listed after : List MemberPage) (new : MemberPage) (passed : ℕ) (rest : List MemberPage) → passed ≡ 0 → length listed < most → after ≡ listed ++ new ∷ []
    → members_from most after 0 rest ≡ members_from most listed passed (new ∷ rest)
one-listed most listed after new passed rest none room is =
    let longer : length (listed ++ new ∷ []) ≡ length listed + 1 = length-append listed (new ∷ []) in
    let one : most - length listed ≡ suc (most - length (listed ++ new ∷ [])) = omega arith in
    ap (λ l. members_from most l 0 rest) is
    ∙ append_assoc listed (new ∷ []) (take (most - length (listed ++ new ∷ [])) rest)
    ∙ ap (λ n. listed ++ take n (new ∷ rest)) (sym one)
    ∙ ap (λ n. listed ++ take (most - length listed) (drop n (new ∷ rest))) (sym none)

-- the members that a page gives, by its triples
pub members-by_triples : (e : Entry) (rows : List (PageTitle × List ℕ × List ℕ)) (members : List Member) → members ≡ map member_of rows
    → map (λ (m : Member). record { sortkey = m.sortkey; page = e.page; prefix = m.prefix }) (filter (λ m. title_eq m.category e.category && bytes_eq m.sortkey e.sortkey) members) ≡ own_members e rows
members-by_triples e rows members are =
    ap (λ ms. map (λ (m : Member). record { sortkey = m.sortkey; page = e.page; prefix = m.prefix }) (filter (λ m. title_eq m.category e.category && bytes_eq m.sortkey e.sortkey) ms)) are ∙ by rows
  where
    by : (rows : List (PageTitle × List ℕ × List ℕ))
        → map (λ (m : Member). record { sortkey = m.sortkey; page = e.page; prefix = m.prefix }) (filter (λ m. title_eq m.category e.category && bytes_eq m.sortkey e.sortkey) (map member_of rows)) ≡ own_members e rows
    by [] = refl
    by (row ∷ rows) = elim (cases_Bool (title_eq row.0 e.category && bytes_eq row.1 e.sortkey)) [
      | inl own ↦ rw own (ap (λ l. record { sortkey = row.1; page = e.page; prefix = row.2 } ∷ l) (by rows))
      | inr other ↦ rw other (by rows)
    ]

own-split : (e : Entry) (row : PageTitle × List ℕ × List ℕ) (rows : List (PageTitle × List ℕ × List ℕ)) → own_members e (row ∷ rows) ≡ own_members e (row ∷ []) ++ own_members e rows
own-split e row rows = elim (cases_Bool (title_eq row.0 e.category && bytes_eq row.1 e.sortkey)) [
  | inl own ↦ rw own refl
  | inr other ↦ rw other refl
]

-- one more of the members of a page
pub own-more : (e : Entry) (rows : List (PageTitle × List ℕ × List ℕ)) (i : ℕ) (row : PageTitle × List ℕ × List ℕ) (most : ℕ) (listed after : List MemberPage) (passed left : ℕ) (whole : List MemberPage → List MemberPage)
    → i < length rows → row ≡ get_or rows i row
    → ((rest : List MemberPage) → members_from most after left rest ≡ members_from most listed passed (own_members e (row ∷ []) ++ rest))
    → ((rest : List MemberPage) → members_from most listed passed (own_members e (drop i rows) ++ rest) ≡ whole rest)
    → (rest : List MemberPage) → members_from most after left (own_members e (drop (i + 1) rows) ++ rest) ≡ whole rest
own-more e rows i row most listed after passed left whole within here step so_far rest =
    let next : suc i ≡ i + 1 = omega arith in
    let split : drop i rows ≡ row ∷ drop (i + 1) rows = drop-cons rows i row within ∙ ap (λ r. r ∷ drop (suc i) rows) (sym here) ∙ ap (λ n. row ∷ drop n rows) next in
    step (own_members e (drop (i + 1) rows) ++ rest)
    ∙ ap (members_from most listed passed)
    (sym (append_assoc (own_members e (row ∷ [])) (own_members e (drop (i + 1) rows)) rest)
    ∙ ap (λ l. l ++ rest) (sym (own-split e row (drop (i + 1) rows)))
    ∙ ap (λ l. own_members e l ++ rest) (sym split))
    ∙ so_far rest

-- no member of the page is left
pub own-all : (e : Entry) (rows : List (PageTitle × List ℕ × List ℕ)) (i : ℕ) (most : ℕ) (listed : List MemberPage) (left : ℕ) (whole : List MemberPage → List MemberPage)
    → length rows ≤ i
    → ((rest : List MemberPage) → members_from most listed left (own_members e (drop i rows) ++ rest) ≡ whole rest)
    → (rest : List MemberPage) → members_from most listed left rest ≡ whole rest
own-all e rows i most listed left whole past so_far rest = sym (ap (λ l. members_from most listed left (own_members e l ++ rest)) (drop_all i rows past)) ∙ so_far rest

-- a member that isn't the entry's
pub own-none : (e : Entry) (row : PageTitle × List ℕ × List ℕ) → (title_eq row.0 e.category && bytes_eq row.1 e.sortkey) ≡ false → own_members e (row ∷ []) ≡ []
own-none e row other = rw other refl

pub own-one : (e : Entry) (row : PageTitle × List ℕ × List ℕ) → (title_eq row.0 e.category && bytes_eq row.1 e.sortkey) ≡ true → own_members e (row ∷ []) ≡ record { sortkey = row.1; page = e.page; prefix = row.2 } ∷ []
own-one e row own = rw own refl

-- the rows of the entry's page
pub page_members-some : (stored : List PageRows) (e : Entry) (rows : PageRows) (triples : List (PageTitle × List ℕ × List ℕ)) → Some rows ≡ rows_at stored e.page → rows.members ≡ map member_of triples
    → own_members e triples ≡ page_members stored e
page_members-some stored e rows triples is are =
    sym (members-by_triples e triples rows.members are) ∙ ap (λ o. elim o [
      | None ↦ []
      | Some here ↦ map (λ (m : Member). record { sortkey = m.sortkey; page = e.page; prefix = m.prefix }) (filter (λ m. title_eq m.category e.category && bytes_eq m.sortkey e.sortkey) here.members)
    ]) is

pub page_members-none : (stored : List PageRows) (e : Entry) → None ≡ rows_at stored e.page → [] ≡ page_members stored e
page_members-none stored e is =
    ap (λ o. elim o [
      | None ↦ []
      | Some here ↦ map (λ (m : Member). record { sortkey = m.sortkey; page = e.page; prefix = m.prefix }) (filter (λ m. title_eq m.category e.category && bytes_eq m.sortkey e.sortkey) here.members)
    ]) is
