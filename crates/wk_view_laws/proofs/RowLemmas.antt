-- Rows name what was read, and a title that they don't name may change.
use Rattle.std.proofs.Common.{◌≡◌, ◌≢◌, ℕ, suc, ◌<◌, Bool, true, false, ◌&&◌, ◌||◌, List, [], ◌∷◌, ◌++◌, length, refl, sym, ◌∙◌, ap, subst, Some, None, arith, inl, inr, get_or}
use Rattle.std.specs.Bool.{one_answer}
use Rattle.std.specs.List.{All, list_any, fold}
use Rattle.std.specs.Option.{is_some}
use Rattle.std.specs.Ordering.{int_cmp, int_eq, nat_cmp, ordering_then, is_eq}
use Rattle.std.specs.Cmp.Lexicographic.{slice_cmp}
use Rattle.std.specs.declared.cmp.Ordering.{Ordering}
use Rattle.std.specs.declared.cmp.Ordering.TheVariants.{Less, Equal, Greater}
use Rattle.std.proofs.lemmas.Bool.{cases_Bool}
use Rattle.std.proofs.lemmas.List.Elements.{All-nil, All-push, filter_map-append}
use Rattle.std.proofs.lemmas.List.Folds.{list_any_at}
use Rattle.std.specs.Prelude.{◌⊎◌}
use Rattle.std.proofs.lemmas.Map.Text.{is_eq-slice_cmp}
use Rattle.wk_text_rules.specs.Titles.{PageTitle, title_cmp, title_eq}
use Rattle.wk_page_rules.specs.PageRows.{names}
use Rattle.wk_page_rules.specs.declared.Reach.TheVariants.{Text, Both}
use Rattle.wk_tree_rules.specs.Tree.{tree}
use Rattle.wk_tree_rules.specs.declared.Mode.TheVariants as mode
use Rattle.wk_view_rules.specs.Expand.{expand}
use Rattle.wk_view_rules.specs.Expansions.{Output, Progress, no_counters, no_progress, most_open}
use Rattle.wk_view_rules.specs.Plans.{Plan, gives, asks, and_then, Outcome, done, need, noted, run, reads_of, IsDone}
use Rattle.wk_view_rules.specs.Rows.{put_in_order, in_title_order, titles_in_order, titles_read, rows, rows_at, rows_by}
use Rattle.wk_view_rules.specs.Views.{Expanded, expanded_by, view, view_plan, text_plan}
use Rattle.wk_view_rules.specs.Worlds.{Answer, existence, page_of, Read, Source, World, of_world, ask, answer_in, is_read_of, kind_eq, Agrees}
use Rattle.wk_view_rules.specs.Worlds.{page as page_answer}
use Rattle.wk_view_rules.specs.declared.Kind.{Kind}
use Rattle.wk_view_rules.specs.declared.Kind.TheVariants.{View, Include, Exists}
use Rattle.wk_view_laws.specs.Changes.{DifferOnlyAt}
use Rattle.wk_view_laws.specs.Titles.{IsPageTitle}
use Rattle.wk_view_laws.proofs.CostLemmas.{EndsPaid, kept-start, tested_with}
use Rattle.wk_view_laws.proofs.ExpandCosts.{pays-expand}
use Rattle.wk_view_laws.proofs.PlanLemmas.{IsDone-run, agrees-itself, kind_eq-same, met, title_eq-true, title_eq-same}
use Rattle.wk_view_laws.proofs.ViewLemmas.{after_page, after_view, rows-elsewhere}

-- ---- titles in order

is_eq-then : (o p : Ordering) → is_eq (ordering_then o p) ≡ (is_eq o && is_eq p)
is_eq-then Less p = refl
is_eq-then Equal p = refl
is_eq-then Greater p = refl

pub is_eq-title_cmp : (a b : PageTitle) → is_eq (title_cmp a b) ≡ title_eq a b
is_eq-title_cmp a b = is_eq-then (int_cmp a.ns b.ns) (slice_cmp nat_cmp a.key b.key) ∙ ap (λ b'. int_eq a.ns b.ns && b') (is_eq-slice_cmp a.key b.key)

pub title_cmp-equal : (a b : PageTitle) → title_cmp a b ≡ Equal → a ≡ b
title_cmp-equal a b e = title_eq-true a b (sym (is_eq-title_cmp a b) ∙ ap is_eq e)

pub title_eq_comm : (a b : PageTitle) → title_eq a b ≡ title_eq b a
title_eq_comm a b = one_answer {P = a ≡ b} (title_eq a b) (title_eq b a)
    (title_eq-true a b, λ e. subst (λ t. title_eq a t ≡ true) e (title_eq-same a))
    (λ e. sym (title_eq-true b a e), λ e. subst (λ t. title_eq t a ≡ true) e (title_eq-same a))

or_twice : (a b : Bool) → (a || (a || b)) ≡ (a || b)
or_twice true b = refl
or_twice false b = refl

or_swap : (a b c : Bool) → (a || (b || c)) ≡ (b || (a || c))
or_swap true true c = refl
or_swap true false c = refl
or_swap false b c = refl

or_across : (a b c : Bool) → ((a || b) || c) ≡ (b || (a || c))
or_across true true c = refl
or_across true false c = refl
or_across false b c = refl

list_any-put : (title x : PageTitle) (xs : List PageTitle) → list_any (title_eq title) (put_in_order (λ t. t) x xs) ≡ (title_eq title x || list_any (title_eq title) xs)
list_any-put title x [] = refl
list_any-put title x (y ∷ ys) = go (title_cmp x y) refl (list_any-put title x ys)
  where
    go : (o : Ordering) → title_cmp x y ≡ o → list_any (title_eq title) (put_in_order (λ t. t) x ys) ≡ (title_eq title x || list_any (title_eq title) ys) → list_any (title_eq title) (elim o [ Less ↦ x ∷ y ∷ ys | Equal ↦ x ∷ ys | Greater ↦ y ∷ put_in_order (λ t. t) x ys ]) ≡ (title_eq title x || list_any (title_eq title) (y ∷ ys))
    go Less e later = refl
    go Equal e later = subst (λ t. (title_eq title x || list_any (title_eq title) ys) ≡ (title_eq title x || (title_eq title t || list_any (title_eq title) ys))) (title_cmp-equal x y e) (sym (or_twice (title_eq title x) (list_any (title_eq title) ys)))
    go Greater e later = ap (λ b. title_eq title y || b) later ∙ or_swap (title_eq title y) (title_eq title x) (list_any (title_eq title) ys)

list_any-fold : (title : PageTitle) (ordered xs : List PageTitle) → list_any (title_eq title) (fold (λ list x. put_in_order (λ t. t) x list) ordered xs) ≡ (list_any (title_eq title) ordered || list_any (title_eq title) xs)
list_any-fold title ordered [] = or_none (list_any (title_eq title) ordered)
  where
    or_none : (b : Bool) → b ≡ (b || false)
    or_none true = refl
    or_none false = refl
list_any-fold title ordered (x ∷ xs) =
    list_any-fold title (put_in_order (λ t. t) x ordered) xs
    ∙ ap (λ b. b || list_any (title_eq title) xs) (list_any-put title x ordered)
    ∙ or_across (title_eq title x) (list_any (title_eq title) ordered) (list_any (title_eq title) xs)

pub list_any-titles_in_order : (title : PageTitle) (xs : List PageTitle) → list_any (title_eq title) (titles_in_order xs) ≡ list_any (title_eq title) xs
unfolding in_title_order
list_any-titles_in_order title xs = list_any-fold title [] xs

and_true : (b : Bool) → (b && true) ≡ b
and_true true = refl
and_true false = refl

and_false : (b : Bool) → (b && false) ≡ false
and_false true = refl
and_false false = refl

pub list_any-titles_read : (title : PageTitle) (kind : Kind) (reads : List Read) → list_any (title_eq title) (titles_read kind reads) ≡ list_any (is_read_of title kind) reads
list_any-titles_read title kind [] = refl
list_any-titles_read title kind (r ∷ reads) =
    let later = list_any-titles_read title kind reads in
    elim (cases_Bool (kind_eq r.kind kind)) [
      | inl same ↦ rw (same, later, title_eq_comm title r.title, and_true (title_eq r.title title)) refl
      | inr other ↦ rw (other, later, and_false (title_eq r.title title)) refl
    ]

-- ---- rows name what was read

-- a fact of a world's view and of its rows, where it holds of each end that is done
pub of_done : (pages : World) (page : PageTitle) (P : Outcome Expanded → Type 0) → ((x : Expanded) (seen : List Read) → P (done x seen)) → P (view (of_world pages) page)
of_done pages page P h = go (view (of_world pages) page) (IsDone-run pages (view_plan page) [])
  where
    go : (o : Outcome Expanded) → IsDone o → P o
    go (done x seen) is_done = h x seen
    go (need title kind seen) is_done = absurd is_done

pub names_text-rows : (pages : World) (page title : PageTitle) → names (rows pages page) title Text ≡ list_any (is_read_of title Include) (reads_of (view (of_world pages) page))
unfolding rows rows_by
names_text-rows pages page title =
    of_done pages page (λ o. names (rows_at page o) title Text ≡ list_any (is_read_of title Include) (reads_of o))
    (λ x seen. list_any-titles_in_order title (titles_read Include seen) ∙ list_any-titles_read title Include seen)

pub names_both-rows : (pages : World) (page title : PageTitle) → names (rows pages page) title Both ≡ (list_any (is_read_of title Include) (reads_of (view (of_world pages) page)) || list_any (is_read_of title Exists) (reads_of (view (of_world pages) page)))
unfolding rows rows_by
names_both-rows pages page title =
    of_done pages page (λ o. names (rows_at page o) title Both ≡ (list_any (is_read_of title Include) (reads_of o) || list_any (is_read_of title Exists) (reads_of o)))
    (λ x seen.
    ap (λ b. b || list_any (title_eq title) (titles_in_order (titles_read Exists seen))) (list_any-titles_in_order title (titles_read Include seen) ∙ list_any-titles_read title Include seen)
    ∙ ap (λ b. list_any (is_read_of title Include) seen || b) (list_any-titles_in_order title (titles_read Exists seen) ∙ list_any-titles_read title Exists seen))

-- ---- only the viewed page is read as viewed

-- a read for this page: of a viewed page's text only its own, and else of a title that a page can have
pub record IsReadFor (page : PageTitle) (r : Read) : Type 0 where
  pub viewed : kind_eq r.kind View ≡ true → r.title ≡ page
  pub other : kind_eq r.kind View ≡ false → IsPageTitle r.title

read_for-noted : (page : PageTitle) (before : List Read) (r : Read) → IsReadFor page r → All (IsReadFor page) before → All (IsReadFor page) (noted before r)
read_for-noted page before r here all = elim (cases_Bool (list_any (is_read_of r.title r.kind) before)) [
  | inl there ↦ rw there all
  | inr missing ↦ rw missing (All-push (IsReadFor page) before r all here)
]

read_for-run : (page : PageTitle) (source : Source) (p : Plan (Output × Progress)) (base : ℕ) (tested : List PageTitle) (before : List Read) → EndsPaid base tested p → All (IsReadFor page) before → All (IsReadFor page) (reads_of (run source (and_then p expanded_by) before))
unfolding run
read_for-run page source (gives (out, progress)) base tested before h all = all
read_for-run page source (asks title kind more) base tested before h all =
    elim (ask source title kind) as (λ o. All (IsReadFor page) (reads_of (met source title kind (λ answer. and_then (more answer) expanded_by) before o))) [
      | None ↦ all
      | Some answer ↦
          let r : Read = record { title = title; kind = kind; answer = answer } in
          let here : IsReadFor page r = record {
            viewed = λ is_view. absurd (let wrong : true ≡ false = sym is_view ∙ h.0.no_view in cc);
            other = λ no_view. h.0.of_page;
          } in
          read_for-run page source (more answer) (suc base) (tested_with title kind tested) (noted before r) (h.1 answer) (read_for-noted page before r here all)
    ]

pub read_for-view : (source : Source) (page : PageTitle) → All (IsReadFor page) (reads_of (view source page))
unfolding run view_plan text_plan
read_for-view source page = elim (ask source page View) as (λ o. All (IsReadFor page) (reads_of (met source page View (after_view page) [] o))) [
  | None ↦ All-nil (IsReadFor page)
  | Some answer ↦
      let r : Read = record { title = page; kind = View; answer = answer } in
      let here : IsReadFor page r = record { viewed = λ e. refl; other = λ e. absurd (let wrong : true ≡ false = e in cc) } in
      let all : All (IsReadFor page) (r ∷ []) = All-push (IsReadFor page) [] r (All-nil (IsReadFor page)) here in
      elim (page_of answer) as (λ o. All (IsReadFor page) (reads_of (run source (after_page page o) (r ∷ [])))) [
        | None ↦ all
        | Some p ↦ read_for-run page source (expand most_open page [] (tree mode.View p.text) no_progress) 0 [] (r ∷ [])
            ((pays-expand most_open page [] (tree mode.View p.text)).pays 0 no_progress (omega arith) kept-start) all
      ]
]

-- ---- a title that rows don't name

-- a title that wasn't read with a kind isn't that of a read of the kind
not_read : (title : PageTitle) (kind : Kind) (reads : List Read) (k : ℕ) (d : Read) → list_any (is_read_of title kind) reads ≡ false → k < length reads → (get_or reads k d).title ≡ title → (get_or reads k d).kind ≡ kind → ⊥
not_read title kind reads k d missing within of_title of_kind =
    let passes : is_read_of title kind (get_or reads k d) ≡ true =
    rw (of_title, of_kind, title_eq-same title, kind_eq-same kind) refl
    in
    let there : list_any (is_read_of title kind) reads ≡ true = list_any_at (is_read_of title kind) reads k d within passes in
    absurd (let wrong : true ≡ false = sym there ∙ missing in cc)

same_page : (v w : World) (title : PageTitle) (kind : Kind) → w title ≡ v title → answer_in w title kind ≡ answer_in v title kind
same_page v w title View e = ap page_answer e
same_page v w title Include e = ap page_answer e
same_page v w title Exists e = ap (λ p. existence (is_some p)) e

module _ (v w : World) (page title : PageTitle) (elsewhere : DifferOnlyAt title v w) (other_page : page ≢ title) where
  -- what was read over the first world
  abbrev seen : List Read
  seen = reads_of (view (of_world v) page)

  -- where the title's text isn't read, and its existence isn't read or stays, both worlds answer a read of it alike
  answer_of_title : list_any (is_read_of title Include) seen ≡ false → (list_any (is_read_of title Exists) seen ≡ false) ⊎ (is_some (w title) ≡ is_some (v title)) → (k : ℕ) (d : Read) → k < length seen → (get_or seen k d).title ≡ title → (kind : Kind) → (get_or seen k d).kind ≡ kind → answer_in w (get_or seen k d).title kind ≡ answer_in v (get_or seen k d).title kind
  answer_of_title no_text existence_same k d within of_title View of_kind =
      let of_page : (get_or seen k d).title ≡ page = (read_for-view (of_world v) page k d within).viewed (rw of_kind refl) in
      absurd (other_page (sym of_page ∙ of_title))
  answer_of_title no_text existence_same k d within of_title Include of_kind = absurd (not_read title Include seen k d no_text within of_title of_kind)
  answer_of_title no_text existence_same k d within of_title Exists of_kind = elim existence_same [
    | inl unread ↦ absurd (not_read title Exists seen k d unread within of_title of_kind)
    | inr same ↦ subst (λ t. existence (is_some (w t)) ≡ existence (is_some (v t))) (sym of_title) (ap existence same)
  ]

  agrees-elsewhere : list_any (is_read_of title Include) seen ≡ false → (list_any (is_read_of title Exists) seen ≡ false) ⊎ (is_some (w title) ≡ is_some (v title)) → Agrees (of_world w) seen
  agrees-elsewhere no_text existence_same k d within =
      let was : Some (answer_in v (get_or seen k d).title (get_or seen k d).kind) ≡ Some (get_or seen k d).answer = agrees-itself (of_world v) (view_plan page) [] (All-nil _) k d within in
      let alike : answer_in w (get_or seen k d).title (get_or seen k d).kind ≡ answer_in v (get_or seen k d).title (get_or seen k d).kind =
      elim (cases_Bool (title_eq (get_or seen k d).title title)) [
        | inl same ↦ answer_of_title no_text existence_same k d within (title_eq-true _ _ same) (get_or seen k d).kind refl
        | inr other ↦ same_page v w (get_or seen k d).title (get_or seen k d).kind
            (elsewhere (get_or seen k d).title (λ e. absurd (let wrong : true ≡ false = sym (subst (λ t. title_eq t title ≡ true) (sym e) (title_eq-same title)) ∙ other in cc)))
      ]
      in
      ap Some alike ∙ was

  or_false : (a b : Bool) → (a || b) ≡ false → (a ≡ false) × (b ≡ false)
  or_false true b e = cc
  or_false false b e = (refl, e)

  pub rows-unnamed_both : names (rows v page) title Both ≡ false → rows w page ≡ rows v page
  rows-unnamed_both unnamed =
      let unread = or_false _ _ (sym (names_both-rows v page title) ∙ unnamed) in
      rows-elsewhere v w page (agrees-elsewhere unread.0 (inl unread.1))

  pub rows-unnamed_text : is_some (w title) ≡ is_some (v title) → names (rows v page) title Text ≡ false → rows w page ≡ rows v page
  rows-unnamed_text same unnamed = rows-elsewhere v w page (agrees-elsewhere (sym (names_text-rows v page title) ∙ unnamed) (inr same))

-- ---- the titles that were tested

append_nil : {X : Type 0} (xs : List X) → xs ++ [] ≡ xs
append_nil [] = refl
append_nil (x ∷ xs) = ap (λ ys. x ∷ ys) (append_nil xs)

-- one more question, among the titles that were tested and among the reads
pub tested-noted : (title : PageTitle) (kind : Kind) (answer : Answer) (before : List Read) → tested_with title kind (titles_read Exists before) ≡ titles_read Exists (noted before (record { title = title; kind = kind; answer = answer }))
tested-noted title View answer before = elim (cases_Bool (list_any (is_read_of title View) before)) [
  | inl there ↦ rw there refl
  | inr missing ↦ rw (missing, filter_map-append) (sym (append_nil (titles_read Exists before)))
]
tested-noted title Include answer before = elim (cases_Bool (list_any (is_read_of title Include) before)) [
  | inl there ↦ rw there refl
  | inr missing ↦ rw (missing, filter_map-append) (sym (append_nil (titles_read Exists before)))
]
tested-noted title Exists answer before = elim (cases_Bool (list_any (is_read_of title Exists) before)) [
  | inl there ↦ rw (list_any-titles_read title Exists before, there) refl
  | inr missing ↦ rw (list_any-titles_read title Exists before, missing, filter_map-append) refl
]

tests-run : (source : Source) (p : Plan (Output × Progress)) (base : ℕ) (tested : List PageTitle) (before : List Read) (x : Expanded) (seen : List Read) → EndsPaid base tested p → tested ≡ titles_read Exists before → run source (and_then p expanded_by) before ≡ done x seen → x.counters.exists ≡ length (titles_read Exists seen)
unfolding run
tests-run source (gives (out, progress)) base tested before x seen h same end =
    let made : Expanded = record { out = out; counters = progress.counters } in
    let x_is : made ≡ x = cc in
    let seen_is : before ≡ seen = cc in
    ap (λ (e : Expanded). e.counters.exists) (sym x_is) ∙ h.1.counted ∙ ap length (h.2 ∙ same) ∙ ap (λ reads. length (titles_read Exists reads)) seen_is
tests-run source (asks title kind more) base tested before x seen h same end =
    (elim (ask source title kind) as (λ o. met source title kind (λ answer. and_then (more answer) expanded_by) before o ≡ done x seen → x.counters.exists ≡ length (titles_read Exists seen)) [
      | None ↦ λ e. cc
      | Some answer ↦ tests-run source (more answer) (suc base) (tested_with title kind tested) _ x seen (h.1 answer)
          (ap (tested_with title kind) same ∙ tested-noted title kind answer before)
    ]) end

pub tests-text : (source : Source) (page : PageTitle) (text : List ℕ) (before : List Read) (x : Expanded) (seen : List Read) → titles_read Exists before ≡ [] → run source (text_plan page text) before ≡ done x seen → x.counters.exists ≡ length (titles_read Exists seen)
unfolding text_plan
tests-text source page text before x seen none end =
    tests-run source (expand most_open page [] (tree mode.View text) no_progress) 0 [] before x seen
    ((pays-expand most_open page [] (tree mode.View text)).pays 0 no_progress (omega arith) kept-start) (sym none) end

pub tests-view : (source : Source) (page : PageTitle) (x : Expanded) (seen : List Read) → view source page ≡ done x seen → x.counters.exists ≡ length (titles_read Exists seen)
unfolding run view_plan
tests-view source page x seen end =
    (elim (ask source page View) as (λ o. met source page View (after_view page) [] o ≡ done x seen → x.counters.exists ≡ length (titles_read Exists seen)) [
      | None ↦ λ e. cc
      | Some answer ↦
          let first : List Read = record { title = page; kind = View; answer = answer } ∷ [] in
          elim (page_of answer) as (λ o. run source (after_page page o) first ≡ done x seen → x.counters.exists ≡ length (titles_read Exists seen)) [
            | None ↦ λ e.
                let nothing : Expanded = record { out = []; counters = no_counters } in
                let x_is : nothing ≡ x = cc in
                let seen_is : first ≡ seen = cc in
                ap (λ (e : Expanded). e.counters.exists) (sym x_is) ∙ ap (λ reads. length (titles_read Exists reads)) seen_is
            | Some p ↦ tests-text source page p.text first x seen refl
          ]
    ]) end
