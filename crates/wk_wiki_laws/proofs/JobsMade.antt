-- What the change of each event makes of the job table.
use Rattle.std.proofs.Common.{◌≡◌, ◌≢◌, ℕ, Bool, true, false, cond, eqb, not, ◌||◌, List, [], ◌∷◌, ◌++◌, map, fold, Option, Some, None, refl, sym, ap, ap₂, ◌∙◌, inl, inr, subst, append-nil, append_assoc}
use Rattle.std.specs.Prelude.{filter, find, nat_eq}
use Rattle.std.specs.List.{AllByRecursion, IsDistinct, list_any}
use Rattle.std.proofs.lemmas.Bool.{cases_Bool, or_left, or_right, false_from_ne_true, both_ways, eqb-true, eqb-false, eq-eqb, ne_eqb}
use Rattle.std.proofs.lemmas.List.{map-append}
use Rattle.std.proofs.lemmas.List.Elements.{filter-append, filter_agree}
use Rattle.std.proofs.lemmas.List.Folds.{list_any-append}
use Rattle.std.proofs.lemmas.List.Sums.{fold-append}
use Rattle.wk_text_rules.specs.Titles.{PageTitle, title_eq}
use Rattle.wk_page_rules.specs.declared.Reach.{Reach}
use Rattle.wk_page_rules.specs.PageRows.{PageRows}
use Rattle.wk_table_rules.specs.Rows.{JobColumns, StoreTables}
use Rattle.wk_table_rules.specs.Changes.{TableEdit, add_job, set_job, drop_job}
use Rattle.wk_wiki_rules.specs.Jobs.{RefreshEntry, FanEntry, JobLists, IsNumbered, IsOneAPage, IsOneATitle, is_queued, has_fan, wider, first_claimed, jobs_of, jobs_of_others, queued_again, set_anew, refresh_dropped, fan_set, fan_moved, fan_dropped, claimed_by, given_back}
use Rattle.wk_wiki_rules.specs.Steps.{placed, by_number, rows_of_jobs, reopened_jobs}
use Rattle.wk_wiki_rules.specs.Users.{some_page_names}
use Rattle.wk_wiki_rules.proofs.Lists.{eqb_flips, map-map}
use Rattle.wk_table_laws.proofs.Order.{by_number-map, by_number-twice}
use Rattle.wk_view_laws.proofs.PlanLemmas.{title_eq-true, title_eq-same}
use Rattle.wk_wiki_rules.specs.TableChanges.{row_of_fan, fan_edits}
use Rattle.wk_wiki_laws.specs.Makes.{Makes}
use Rattle.wk_wiki_laws.proofs.JobOrder.{each-weaker, Apart-distinct, by_number-parts, any-by_number, replaced, none-replaced, filter-all}
use Rattle.wk_wiki_laws.proofs.JobChanges.{nothing-makes, row_of, rows_in, Holds, same-tables, add-makes, set-makes, drop-makes}

abbrev id_of : JobColumns → ℕ
id_of row = row.job_id

abbrev number_of : FanEntry → ℕ
number_of fan = fan.number

-- ---- two lists of numbers without two alike

distinct-front : (xs ys : List ℕ) → IsDistinct nat_eq (xs ++ ys) → IsDistinct nat_eq xs
unfolding IsDistinct
distinct-front [] ys distinct = tt
distinct-front (x ∷ xs) ys distinct = (front xs distinct.0, distinct-front xs ys distinct.1)
  where
    front : (zs : List ℕ) → AllByRecursion (λ n. nat_eq x n ≡ false) (zs ++ ys) → AllByRecursion (λ n. nat_eq x n ≡ false) zs
    front [] all = tt
    front (z ∷ zs) all = (all.0, front zs all.1)

distinct-back : (xs ys : List ℕ) → IsDistinct nat_eq (xs ++ ys) → IsDistinct nat_eq ys
unfolding IsDistinct
distinct-back [] ys distinct = distinct
distinct-back (x ∷ xs) ys distinct = distinct-back xs ys distinct.1

-- each of the first list differs from one of the second
distinct-across : (xs ys : List ℕ) (y : ℕ) → IsDistinct nat_eq (xs ++ ys) → list_any (λ n. nat_eq n y) ys ≡ true → AllByRecursion (λ x. x ≢ y) xs
unfolding IsDistinct
distinct-across [] ys y distinct there = tt
distinct-across (x ∷ xs) ys y distinct there = ((λ same. by (xs ++ ys) distinct.0 (list_any-append (λ n. nat_eq n y) xs ys ∙ or_right (list_any (λ n. nat_eq n y) xs) (list_any (λ n. nat_eq n y) ys) there) same), distinct-across xs ys y distinct.1 there)
  where
    by : (ns : List ℕ) → AllByRecursion (λ n. nat_eq x n ≡ false) ns → list_any (λ n. nat_eq n y) ns ≡ true → x ≡ y → ⊥
    by [] all found same = let e : false ≡ true = found in cc
    by (n ∷ ns) all found same = elim (cases_Bool (nat_eq n y)) [
      | inl here ↦ eqb-false x n all.0 (same ∙ sym (eqb-true n y here))
      | inr other ↦ by ns all.1 (rw other at found) same
    ]

-- one of the first list differs from each of the second
distinct-behind : (xs ys : List ℕ) (x : ℕ) → IsDistinct nat_eq (xs ++ ys) → list_any (λ n. nat_eq n x) xs ≡ true → AllByRecursion (λ y. y ≢ x) ys
unfolding IsDistinct
distinct-behind [] ys x distinct there = absurd (let e : false ≡ true = there in cc)
distinct-behind (z ∷ xs) ys x distinct there = elim (cases_Bool (nat_eq z x)) [
  | inl here ↦
      let is = eqb-true z x here in
      each-weaker (λ n. nat_eq z n ≡ false) (λ n. n ≢ x) (λ n differs same. eqb-false z n differs (is ∙ sym same)) ys (back xs distinct.0)
  | inr other ↦ distinct-behind xs ys x distinct.1 (rw other at there)
]
  where
    back : (zs : List ℕ) → AllByRecursion (λ n. nat_eq z n ≡ false) (zs ++ ys) → AllByRecursion (λ n. nat_eq z n ≡ false) ys
    back [] all = all
    back (w ∷ zs) all = back zs all.1

-- ---- what is found

found-number : {X : Type 0} (p : X → Bool) (number : X → ℕ) (xs : List X) (x : X) → find p xs ≡ Some x → list_any (λ n. nat_eq n (number x)) (map number xs) ≡ true
found-number p number [] x found = absurd (let e : None ≡ Some x = found in cc)
found-number p number (y ∷ xs) x found = elim (cases_Bool (p y)) [
  | inl first ↦
      let got : Some y ≡ Some x = rw first at found in
      let is : y ≡ x = cc in
      or_left (nat_eq (number y) (number x)) (list_any (λ n. nat_eq n (number x)) (map number xs)) (eq-eqb (number y) (number x) (ap number is))
  | inr other ↦ or_right (nat_eq (number y) (number x)) (list_any (λ n. nat_eq n (number x)) (map number xs)) (found-number p number xs x (rw other at found))
]

at-number : {X : Type 0} (Q : ℕ → Type 0) (number : X → ℕ) (p : X → Bool) (xs : List X) (x : X) → AllByRecursion Q (map number xs) → find p xs ≡ Some x → Q (number x)
at-number Q number p [] x all found = absurd (let e : None ≡ Some x = found in cc)
at-number Q number p (y ∷ xs) x all found = elim (cases_Bool (p y)) [
  | inl first ↦
      let got : Some y ≡ Some x = rw first at found in
      let is : y ≡ x = cc in
      subst (λ z. Q (number z)) is all.0
  | inr other ↦ at-number Q number p xs x all.1 (rw other at found)
]

any-map : {X Y : Type 0} (p : Y → Bool) (f : X → Y) (xs : List X) → list_any p (map f xs) ≡ list_any (λ x. p (f x)) xs
any-map p f [] = refl
any-map p f (x ∷ xs) = ap (λ b. p (f x) || b) (any-map p f xs)

none-found : {X : Type 0} (p : X → Bool) (xs : List X) → find p xs ≡ None → list_any p xs ≡ false
none-found p [] none = refl
none-found p (x ∷ xs) none = elim (cases_Bool (p x)) [
  | inl first ↦ absurd (let e : Some x ≡ None = rw first at none in cc)
  | inr other ↦ rw other (none-found p xs (rw other at none))
]

some-found : {X : Type 0} (p : X → Bool) (xs : List X) (x : X) → find p xs ≡ Some x → (list_any p xs ≡ true) × (p x ≡ true)
some-found p [] x found = absurd (let e : None ≡ Some x = found in cc)
some-found p (y ∷ xs) x found = elim (cases_Bool (p y)) [
  | inl first ↦
      let got : Some y ≡ Some x = rw first at found in
      let is : y ≡ x = cc in
      (or_left (p y) (list_any p xs) first, subst (λ z. p z ≡ true) is first)
  | inr other ↦
      let later = some-found p xs x (rw other at found) in
      (or_right (p y) (list_any p xs) later.0, later.1)
]

-- ---- a fan job that is set

module _ (title : PageTitle) (reach : Reach) where
  other-title : (first other : PageTitle) → title_eq first title ≡ true → title_eq first other ≡ false → title_eq other title ≡ false
  other-title first other is differs =
      false_from_ne_true (title_eq other title) (λ same.
      let one = title_eq-true first title is in
      let two = title_eq-true other title same in
      both_ways (title_eq first other) differs (subst (λ t. title_eq first t ≡ true) (one ∙ sym two) (title_eq-same first)))

  left-anew : (fans : List FanEntry) → AllByRecursion (λ (fan : FanEntry). title_eq fan.title title ≡ false) fans → map (set_anew title reach) fans ≡ fans
  left-anew [] all = refl
  left-anew (fan ∷ fans) all = rw (all.0) (ap (λ fs. fan ∷ fs) (left-anew fans all.1))

  titles-each : (first : PageTitle) (fans : List FanEntry) → title_eq first title ≡ true → AllByRecursion (λ t. title_eq first t ≡ false) (map (λ (fan : FanEntry). fan.title) fans) → AllByRecursion (λ (fan : FanEntry). title_eq fan.title title ≡ false) fans
  titles-each first [] is all = tt
  titles-each first (fan ∷ fans) is all = (other-title first fan.title is all.0, titles-each first fans is all.1)

  numbers-each : (n : ℕ) (fans : List FanEntry) → AllByRecursion (λ m. nat_eq n m ≡ false) (map number_of fans) → AllByRecursion (λ row. id_of row ≢ n) (map row_of_fan fans)
  numbers-each n [] all = tt
  numbers-each n (fan ∷ fans) all = ((λ same. eqb-false n fan.number all.0 (sym same)), numbers-each n fans all.1)

  abbrev anew : FanEntry → FanEntry
  anew fan = record fan { reach = wider fan.reach reach; cursor = 0 }

  fans-set : (fans : List FanEntry) (fan : FanEntry) → IsDistinct nat_eq (map number_of fans) → IsDistinct title_eq (map (λ (f : FanEntry). f.title) fans) → find (λ (f : FanEntry). title_eq f.title title) fans ≡ Some fan
      → map (replaced id_of (row_of_fan (anew fan))) (map row_of_fan fans) ≡ map row_of_fan (map (set_anew title reach) fans)
  unfolding IsDistinct
  fans-set [] fan numbers titles found = absurd (let e : None ≡ Some fan = found in cc)
  fans-set (f ∷ fans) fan numbers titles found = elim (cases_Bool (title_eq f.title title)) [
    | inl first ↦
        let got : Some f ≡ Some fan = rw first at found in
        let is : f ≡ fan = cc in
        let own : eqb f.number fan.number ≡ true = eq-eqb f.number fan.number (ap number_of is) in
        let rest : map (replaced id_of (row_of_fan (anew fan))) (map row_of_fan fans) ≡ map row_of_fan fans =
        none-replaced id_of (row_of_fan (anew fan)) (map row_of_fan fans) (subst (λ n. AllByRecursion (λ row. id_of row ≢ n) (map row_of_fan fans)) (ap number_of is) (numbers-each f.number fans numbers.0)) in
        rw (first, own, rest, left-anew fans (titles-each f.title fans first titles.0)) (ap (λ (g : FanEntry). row_of_fan (anew g) ∷ map row_of_fan fans) (sym is))
    | inr other ↦
        let later = rw other at found in
        let differs = at-number (λ n. nat_eq f.number n ≡ false) number_of (λ (g : FanEntry). title_eq g.title title) fans fan numbers.0 later in
        rw (other, differs) (ap (λ rows. row_of_fan f ∷ rows) (fans-set fans fan numbers.1 titles.1 later))
  ]

module _ (title_of : ℕ → PageTitle) where
  refresh-ids : (lists : JobLists) (n : ℕ) → AllByRecursion (λ m. m ≢ n) (map (λ (job : RefreshEntry). job.number) lists.refreshes) → AllByRecursion (λ row. id_of row ≢ n) (map (row_of title_of) lists.refreshes)
  refresh-ids lists n all = by lists.refreshes all
    where
      by : (jobs : List RefreshEntry) → AllByRecursion (λ m. m ≢ n) (map (λ (job : RefreshEntry). job.number) jobs) → AllByRecursion (λ row. id_of row ≢ n) (map (row_of title_of) jobs)
      by [] every = tt
      by (job ∷ jobs) every = (every.0, by jobs every.1)

  fan-ids : (n : ℕ) (fans : List FanEntry) → AllByRecursion (λ m. m ≢ n) (map number_of fans) → AllByRecursion (λ row. id_of row ≢ n) (map row_of_fan fans)
  fan-ids n [] all = tt
  fan-ids n (fan ∷ fans) all = (all.0, fan-ids n fans all.1)

  -- a fan job's number is among those of the rows
  fan-there : (lists : JobLists) (p : FanEntry → Bool) (fan : FanEntry) → find p lists.fans ≡ Some fan → list_any (λ row. eqb row.job_id fan.number) (rows_in title_of lists) ≡ true
  fan-there lists p fan found =
      list_any-append (λ (row : JobColumns). eqb row.job_id fan.number) (map (row_of title_of) lists.refreshes) (map row_of_fan lists.fans)
      ∙ or_right (list_any (λ (row : JobColumns). eqb row.job_id fan.number) (map (row_of title_of) lists.refreshes)) (list_any (λ (row : JobColumns). eqb row.job_id fan.number) (map row_of_fan lists.fans))
      (any-map (λ (row : JobColumns). eqb row.job_id fan.number) row_of_fan lists.fans
      ∙ (sym (any-map (λ n. eqb n fan.number) number_of lists.fans) ∙ found-number p number_of lists.fans fan found))

  -- the refresh jobs have other numbers than a fan job
  refreshes-apart : (lists : JobLists) (p : FanEntry → Bool) (fan : FanEntry) → IsNumbered lists → find p lists.fans ≡ Some fan → AllByRecursion (λ row. id_of row ≢ fan.number) (map (row_of title_of) lists.refreshes)
  refreshes-apart lists p fan numbered found =
      refresh-ids lists fan.number (distinct-across (map (λ (job : RefreshEntry). job.number) lists.refreshes) (map number_of lists.fans) fan.number numbered.own (found-number p number_of lists.fans fan found))

  fan-numbers : (lists : JobLists) → IsNumbered lists → IsDistinct nat_eq (map number_of lists.fans)
  fan-numbers lists numbered = distinct-back (map (λ (job : RefreshEntry). job.number) lists.refreshes) (map number_of lists.fans) numbered.own

  pub fan_set-makes : (tables : StoreTables) (stored : List PageRows) (lists : JobLists) (title : PageTitle) (reach : Reach) → Holds title_of tables lists → IsNumbered lists → IsOneATitle lists
      → Makes tables (fan_edits stored lists title reach) (record tables { jobs = rows_of_jobs title_of (cond (has_fan lists title || some_page_names stored title reach) (fan_set lists title reach) lists) })
  fan_set-makes tables stored lists title reach holds numbered one = by (find (λ (fan : FanEntry). title_eq fan.title title) lists.fans) refl
    where
      by : (o : Option FanEntry) → find (λ (fan : FanEntry). title_eq fan.title title) lists.fans ≡ o
          → Makes tables (elim o as (λ p. List TableEdit) [ Some fan ↦ set_job (row_of_fan (set_anew title reach fan)) ∷ [] | None ↦ cond (some_page_names stored title reach) (add_job (row_of_fan (record { number = lists.next; title = title; reach = reach; cursor = 0 })) ∷ []) [] ])
          (record tables { jobs = rows_of_jobs title_of (cond (has_fan lists title || some_page_names stored title reach) (fan_set lists title reach) lists) })
      by None none =
          let no_fan : has_fan lists title ≡ false = none-found (λ (fan : FanEntry). title_eq fan.title title) lists.fans none in
          elim (cases_Bool (some_page_names stored title reach)) [
            | inl named ↦
                let made = add-makes title_of tables lists (rows_in title_of lists) (row_of_fan (record { number = lists.next; title = title; reach = reach; cursor = 0 })) [] holds numbered (append-nil (rows_in title_of lists)) refl in
                let same : rows_in title_of lists ++ row_of_fan (record { number = lists.next; title = title; reach = reach; cursor = 0 }) ∷ [] ≡ map (row_of title_of) lists.refreshes ++ map row_of_fan (lists.fans ++ record { number = lists.next; title = title; reach = reach; cursor = 0 } ∷ []) =
                append_assoc (map (row_of title_of) lists.refreshes) (map row_of_fan lists.fans) (row_of_fan (record { number = lists.next; title = title; reach = reach; cursor = 0 }) ∷ [])
                ∙ ap (λ rows. map (row_of title_of) lists.refreshes ++ rows) (sym (map-append row_of_fan lists.fans (record { number = lists.next; title = title; reach = reach; cursor = 0 } ∷ []))) in
                rw (no_fan, named) (subst (λ rows. Makes tables (add_job (row_of_fan (record { number = lists.next; title = title; reach = reach; cursor = 0 })) ∷ []) (record tables { jobs = by_number id_of rows })) same made)
            | inr nobody ↦ rw (no_fan, nobody) (subst (Makes tables []) (sym (same-tables title_of tables lists holds)) (nothing-makes tables))
          ]
      by (Some fan) found =
          let found_both = some-found (λ (f : FanEntry). title_eq f.title title) lists.fans fan found in
          let there : has_fan lists title ≡ true = found_both.0 in
          let own : title_eq fan.title title ≡ true = found_both.1 in
          let made = set-makes title_of tables lists (row_of_fan (anew title reach fan)) holds numbered (fan-there lists (λ (f : FanEntry). title_eq f.title title) fan found) in
          let same : map (replaced id_of (row_of_fan (anew title reach fan))) (rows_in title_of lists) ≡ map (row_of title_of) lists.refreshes ++ map row_of_fan (map (set_anew title reach) lists.fans) =
          map-append (replaced id_of (row_of_fan (anew title reach fan))) (map (row_of title_of) lists.refreshes) (map row_of_fan lists.fans)
          ∙ ap₂ (λ xs ys. xs ++ ys) (none-replaced id_of (row_of_fan (anew title reach fan)) (map (row_of title_of) lists.refreshes) (refreshes-apart lists (λ (f : FanEntry). title_eq f.title title) fan numbered found))
          (fans-set title reach lists.fans fan (fan-numbers lists numbered) one found) in
          rw (there, own) (subst (λ rows. Makes tables (set_job (row_of_fan (anew title reach fan)) ∷ []) (record tables { jobs = by_number id_of rows })) same made)

  -- ---- the first fan job

  first-fan-rows : (fan : FanEntry) (fans : List FanEntry) → IsDistinct nat_eq (map number_of (fan ∷ fans)) → AllByRecursion (λ row. id_of row ≢ fan.number) (map row_of_fan fans)
  unfolding IsDistinct
  first-fan-rows fan fans distinct = fan-ids fan.number fans (each-weaker (λ n. nat_eq fan.number n ≡ false) (λ n. n ≢ fan.number) (λ n differs same. eqb-false fan.number n differs (sym same)) (map number_of fans) distinct.0)

  pub moved-makes : (tables : StoreTables) (lists : JobLists) (fan : FanEntry) (fans : List FanEntry) (cursor : ℕ) → lists.fans ≡ fan ∷ fans → Holds title_of tables lists → IsNumbered lists
      → Makes tables (set_job (row_of_fan (record fan { cursor = cursor })) ∷ []) (record tables { jobs = rows_of_jobs title_of (fan_moved lists cursor) })
  moved-makes tables lists fan fans cursor is holds numbered =
      let new = row_of_fan (record fan { cursor = cursor }) in
      let own = eq-eqb fan.number fan.number refl in
      let found : find (λ (f : FanEntry). eqb f.number fan.number) lists.fans ≡ Some fan = rw (is, own) refl in
      let distinct = subst (λ fs. IsDistinct nat_eq (map number_of fs)) is (fan-numbers lists numbered) in
      let made = set-makes title_of tables lists (row_of_fan (record fan { cursor = cursor })) holds numbered (fan-there lists (λ (f : FanEntry). eqb f.number fan.number) fan found) in
      let fans_same : map (replaced id_of (row_of_fan (record fan { cursor = cursor }))) (map row_of_fan (fan ∷ fans)) ≡ row_of_fan (record fan { cursor = cursor }) ∷ map row_of_fan fans =
      rw own (ap (λ rows. row_of_fan (record fan { cursor = cursor }) ∷ rows) (none-replaced id_of (row_of_fan (record fan { cursor = cursor })) (map row_of_fan fans) (first-fan-rows fan fans distinct))) in
      let same : map (replaced id_of (row_of_fan (record fan { cursor = cursor }))) (rows_in title_of lists) ≡ rows_in title_of (fan_moved lists cursor) =
      map-append (replaced id_of (row_of_fan (record fan { cursor = cursor }))) (map (row_of title_of) lists.refreshes) (map row_of_fan lists.fans)
      ∙ ap₂ (λ xs ys. xs ++ ys) (none-replaced id_of (row_of_fan (record fan { cursor = cursor })) (map (row_of title_of) lists.refreshes) (refreshes-apart lists (λ (f : FanEntry). eqb f.number fan.number) fan numbered found))
      (rw is fans_same) in
      subst (λ rows. Makes tables (set_job (row_of_fan (record fan { cursor = cursor })) ∷ []) (record tables { jobs = by_number id_of rows })) same made

  pub fan_dropped-makes : (tables : StoreTables) (lists : JobLists) (fan : FanEntry) (fans : List FanEntry) → lists.fans ≡ fan ∷ fans → Holds title_of tables lists → IsNumbered lists
      → Makes tables (drop_job fan.number ∷ []) (record tables { jobs = rows_of_jobs title_of (fan_dropped lists) })
  fan_dropped-makes tables lists fan fans is holds numbered =
      let p = λ (row : JobColumns). not (eqb row.job_id fan.number) in
      let own = eq-eqb fan.number fan.number refl in
      let found : find (λ (f : FanEntry). eqb f.number fan.number) lists.fans ≡ Some fan = rw (is, own) refl in
      let distinct = subst (λ fs. IsDistinct nat_eq (map number_of fs)) is (fan-numbers lists numbered) in
      let made = drop-makes title_of tables lists fan.number holds numbered (fan-there lists (λ (f : FanEntry). eqb f.number fan.number) fan found) in
      let kept = λ (rows : List JobColumns) (apart : AllByRecursion (λ row. id_of row ≢ fan.number) rows).
      filter-all id_of (λ (row : JobColumns). not (eqb row.job_id fan.number)) rows
      (each-weaker (λ row. id_of row ≢ fan.number) (λ row. not (eqb row.job_id fan.number) ≡ true) (λ row differs. ap not (ne_eqb row.job_id fan.number differs)) rows apart) in
      let fans_same : filter (λ (row : JobColumns). not (eqb row.job_id fan.number)) (map row_of_fan (fan ∷ fans)) ≡ map row_of_fan fans = rw own (kept (map row_of_fan fans) (first-fan-rows fan fans distinct)) in
      let same : filter (λ (row : JobColumns). not (eqb row.job_id fan.number)) (rows_in title_of lists) ≡ rows_in title_of (fan_dropped lists) =
      filter-append (λ (row : JobColumns). not (eqb row.job_id fan.number)) (map (row_of title_of) lists.refreshes) (map row_of_fan lists.fans)
      ∙ ap₂ (λ xs ys. xs ++ ys) (kept (map (row_of title_of) lists.refreshes) (refreshes-apart lists (λ (f : FanEntry). eqb f.number fan.number) fan numbered found)) (rw is fans_same) in
      subst (λ rows. Makes tables (drop_job fan.number ∷ []) (record tables { jobs = by_number id_of rows })) same made

  -- ---- a refresh job goes

  others-rows : (p : RefreshEntry → Bool) (jobs : List RefreshEntry) (job : RefreshEntry) → IsDistinct nat_eq (map (λ (j : RefreshEntry). j.number) jobs) → IsDistinct nat_eq (map (λ (j : RefreshEntry). j.page) jobs) → find p jobs ≡ Some job
      → filter (λ (row : JobColumns). not (eqb row.job_id job.number)) (map (row_of title_of) jobs) ≡ map (row_of title_of) (jobs_of_others job.page jobs)
  unfolding IsDistinct
  others-rows p [] job numbers pages found = absurd (let e : None ≡ Some job = found in cc)
  others-rows p (j ∷ jobs) job numbers pages found = elim (cases_Bool (p j)) [
    | inl first ↦
        let got : Some j ≡ Some job = rw first at found in
        let is : j ≡ job = cc in
        let number : eqb j.number job.number ≡ true = eq-eqb j.number job.number (ap (λ (x : RefreshEntry). x.number) is) in
        let page : eqb j.page job.page ≡ true = eq-eqb j.page job.page (ap (λ (x : RefreshEntry). x.page) is) in
        rw (number, page) (rest jobs (subst (λ n. AllByRecursion (λ m. nat_eq n m ≡ false) (map (λ (x : RefreshEntry). x.number) jobs)) (ap (λ (x : RefreshEntry). x.number) is) numbers.0)
        (subst (λ n. AllByRecursion (λ m. nat_eq n m ≡ false) (map (λ (x : RefreshEntry). x.page) jobs)) (ap (λ (x : RefreshEntry). x.page) is) pages.0))
    | inr other ↦
        let later = rw other at found in
        let number = at-number (λ n. nat_eq j.number n ≡ false) (λ (x : RefreshEntry). x.number) p jobs job numbers.0 later in
        let page = at-number (λ n. nat_eq j.page n ≡ false) (λ (x : RefreshEntry). x.page) p jobs job pages.0 later in
        rw (number, page) (ap (λ rows. row_of title_of j ∷ rows) (others-rows p jobs job numbers.1 pages.1 later))
  ]
    where
      rest : (js : List RefreshEntry) → AllByRecursion (λ m. nat_eq job.number m ≡ false) (map (λ (x : RefreshEntry). x.number) js) → AllByRecursion (λ m. nat_eq job.page m ≡ false) (map (λ (x : RefreshEntry). x.page) js)
          → filter (λ (row : JobColumns). not (eqb row.job_id job.number)) (map (row_of title_of) js) ≡ map (row_of title_of) (jobs_of_others job.page js)
      rest [] ns ps = refl
      rest (x ∷ js) ns ps =
          let number : eqb x.number job.number ≡ false = eqb_flips x.number job.number ∙ ns.0 in
          let page : eqb x.page job.page ≡ false = eqb_flips x.page job.page ∙ ps.0 in
          rw (number, page) (ap (λ rows. row_of title_of x ∷ rows) (rest js ns.1 ps.1))

  pub dropped-makes : (tables : StoreTables) (lists : JobLists) (p : RefreshEntry → Bool) (job : RefreshEntry) → find p lists.refreshes ≡ Some job → Holds title_of tables lists → IsNumbered lists → IsOneAPage lists
      → Makes tables (drop_job job.number ∷ []) (record tables { jobs = rows_of_jobs title_of (refresh_dropped lists job.page) })
  dropped-makes tables lists p job found holds numbered one =
      let numbers = map (λ (j : RefreshEntry). j.number) lists.refreshes in
      let among : list_any (λ n. nat_eq n job.number) (map (λ (j : RefreshEntry). j.number) lists.refreshes) ≡ true = found-number p (λ (j : RefreshEntry). j.number) lists.refreshes job found in
      let there : list_any (λ (row : JobColumns). eqb row.job_id job.number) (rows_in title_of lists) ≡ true =
      list_any-append (λ (row : JobColumns). eqb row.job_id job.number) (map (row_of title_of) lists.refreshes) (map row_of_fan lists.fans)
      ∙ or_left (list_any (λ (row : JobColumns). eqb row.job_id job.number) (map (row_of title_of) lists.refreshes)) (list_any (λ (row : JobColumns). eqb row.job_id job.number) (map row_of_fan lists.fans))
      (any-map (λ (row : JobColumns). eqb row.job_id job.number) (row_of title_of) lists.refreshes ∙ (sym (any-map (λ n. eqb n job.number) (λ (j : RefreshEntry). j.number) lists.refreshes) ∙ among)) in
      let made = drop-makes title_of tables lists job.number holds numbered there in
      let fans_kept : filter (λ (row : JobColumns). not (eqb row.job_id job.number)) (map row_of_fan lists.fans) ≡ map row_of_fan lists.fans =
      filter-all id_of (λ (row : JobColumns). not (eqb row.job_id job.number)) (map row_of_fan lists.fans)
      (each-weaker (λ row. id_of row ≢ job.number) (λ row. not (eqb row.job_id job.number) ≡ true) (λ row differs. ap not (ne_eqb row.job_id job.number differs)) (map row_of_fan lists.fans)
      (fan-ids job.number lists.fans (distinct-behind (map (λ (j : RefreshEntry). j.number) lists.refreshes) (map number_of lists.fans) job.number numbered.own among))) in
      let same : filter (λ (row : JobColumns). not (eqb row.job_id job.number)) (rows_in title_of lists) ≡ rows_in title_of (refresh_dropped lists job.page) =
      filter-append (λ (row : JobColumns). not (eqb row.job_id job.number)) (map (row_of title_of) lists.refreshes) (map row_of_fan lists.fans)
      ∙ ap₂ (λ xs ys. xs ++ ys) (others-rows p lists.refreshes job (distinct-front (map (λ (j : RefreshEntry). j.number) lists.refreshes) (map number_of lists.fans) numbered.own) one found) fans_kept in
      subst (λ rows. Makes tables (drop_job job.number ∷ []) (record tables { jobs = by_number id_of rows })) same made

  -- ---- what changes no row

  pub claimed-same : (lists : JobLists) (ticket : ℕ) → rows_of_jobs title_of (claimed_by lists ticket) ≡ rows_of_jobs title_of lists
  claimed-same lists ticket = ap (λ rows. by_number id_of (rows ++ map row_of_fan lists.fans)) (by lists.refreshes)
    where
      by : (jobs : List RefreshEntry) → map (row_of title_of) (first_claimed jobs ticket) ≡ map (row_of title_of) jobs
      by [] = refl
      by (job ∷ jobs) =
          let later = by jobs in
          elim (is_queued job) as (λ b. map (row_of title_of) (cond b (record job { ticket = Some ticket } ∷ jobs) (job ∷ first_claimed jobs ticket)) ≡ map (row_of title_of) (job ∷ jobs)) [
            | true ↦ refl
            | false ↦ ap (λ rows. row_of title_of job ∷ rows) later
          ]

  -- the order of the refresh jobs before the fan jobs plays no part
  ordered-first : (xs ys fans : List JobColumns) → by_number id_of xs ≡ by_number id_of ys → by_number id_of (xs ++ fans) ≡ by_number id_of (ys ++ fans)
  ordered-first xs ys fans same = fold-append (placed id_of) [] xs fans ∙ (ap (λ rows. fold (placed id_of) rows fans) same ∙ sym (fold-append (placed id_of) [] ys fans))

  pub given_back-same : (lists : JobLists) (page : ℕ) → IsNumbered lists → rows_of_jobs title_of (given_back lists page) ≡ rows_of_jobs title_of lists
  given_back-same lists page numbered =
      ordered-first (map (row_of title_of) (jobs_of_others page lists.refreshes ++ map queued_again (jobs_of page lists.refreshes))) (map (row_of title_of) lists.refreshes) (map row_of_fan lists.fans)
      (ap (by_number id_of) rows
      ∙ (by_number-map (row_of title_of) (λ (job : RefreshEntry). job.number) id_of (λ job. refl) (jobs_of_others page lists.refreshes ++ jobs_of page lists.refreshes)
      ∙ (ap (map (row_of title_of)) (sym order) ∙ sym (by_number-map (row_of title_of) (λ (job : RefreshEntry). job.number) id_of (λ job. refl) lists.refreshes))))
    where
      rows : map (row_of title_of) (jobs_of_others page lists.refreshes ++ map queued_again (jobs_of page lists.refreshes)) ≡ map (row_of title_of) (jobs_of_others page lists.refreshes ++ jobs_of page lists.refreshes)
      rows =
          map-append (row_of title_of) (jobs_of_others page lists.refreshes) (map queued_again (jobs_of page lists.refreshes))
          ∙ (ap (λ rs. map (row_of title_of) (jobs_of_others page lists.refreshes) ++ rs) (map-map (row_of title_of) queued_again (row_of title_of) (λ job. refl) (jobs_of page lists.refreshes))
          ∙ sym (map-append (row_of title_of) (jobs_of_others page lists.refreshes) (jobs_of page lists.refreshes)))

      twice : (job : RefreshEntry) → not (not (eqb job.page page)) ≡ eqb job.page page
      twice job = elim (eqb job.page page) as (λ b. not (not b) ≡ b) [ true ↦ refl | false ↦ refl ]

      order : by_number (λ (job : RefreshEntry). job.number) lists.refreshes ≡ by_number (λ (job : RefreshEntry). job.number) (jobs_of_others page lists.refreshes ++ jobs_of page lists.refreshes)
      order =
          by_number-parts (λ (job : RefreshEntry). job.number) (λ (job : RefreshEntry). not (eqb job.page page)) lists.refreshes
          (Apart-distinct (λ (job : RefreshEntry). job.number) lists.refreshes (distinct-front (map (λ (job : RefreshEntry). job.number) lists.refreshes) (map number_of lists.fans) numbered.own))
          ∙ ap (λ own. by_number (λ (job : RefreshEntry). job.number) (jobs_of_others page lists.refreshes ++ own)) (filter_agree (λ (job : RefreshEntry). not (not (eqb job.page page))) (λ (job : RefreshEntry). eqb job.page page) twice lists.refreshes)

  pub reopened-same : (lists : JobLists) → rows_of_jobs title_of (reopened_jobs lists) ≡ rows_of_jobs title_of lists
  reopened-same lists =
      ordered-first (map (row_of title_of) (map queued_again (by_number (λ (job : RefreshEntry). job.number) lists.refreshes))) (map (row_of title_of) lists.refreshes) (map row_of_fan lists.fans)
      (ap (by_number id_of) (map-map (row_of title_of) queued_again (row_of title_of) (λ job. refl) (by_number (λ (job : RefreshEntry). job.number) lists.refreshes)
      ∙ sym (by_number-map (row_of title_of) (λ (job : RefreshEntry). job.number) id_of (λ job. refl) lists.refreshes))
      ∙ by_number-twice id_of (map (row_of title_of) lists.refreshes))

  -- ---- no row

  no-row : (rows : List JobColumns) → by_number id_of rows ≡ [] → rows ≡ []
  no-row [] none = refl
  no-row (row ∷ rows) none =
      let some = any-by_number id_of (λ (r : JobColumns). true) (row ∷ rows) in
      let e : false ≡ true = sym (ap (list_any (λ (r : JobColumns). true)) none) ∙ some in
      absurd cc

  pub no-rows-no-jobs : (lists : JobLists) → rows_of_jobs title_of lists ≡ [] → (lists.refreshes ≡ []) × (lists.fans ≡ [])
  no-rows-no-jobs lists none = by lists.refreshes lists.fans (no-row (rows_in title_of lists) none)
    where
      by : (jobs : List RefreshEntry) (fans : List FanEntry) → map (row_of title_of) jobs ++ map row_of_fan fans ≡ [] → (jobs ≡ []) × (fans ≡ [])
      by [] [] empty = (refl, refl)
      by [] (fan ∷ fans) empty = absurd (let e : row_of_fan fan ∷ map row_of_fan fans ≡ [] = empty in cc)
      by (job ∷ jobs) fans empty = absurd (let e : row_of title_of job ∷ (map (row_of title_of) jobs ++ map row_of_fan fans) ≡ [] = empty in cc)

  pub no-jobs-no-rows : (lists : JobLists) → lists.refreshes ≡ [] → lists.fans ≡ [] → rows_of_jobs title_of lists ≡ []
  no-jobs-no-rows lists refreshes fans = ap₂ (λ (jobs : List RefreshEntry) (fs : List FanEntry). by_number id_of (map (row_of title_of) jobs ++ map row_of_fan fs)) refreshes fans
