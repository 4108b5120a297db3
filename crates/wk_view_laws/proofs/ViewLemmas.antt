-- Laws of views and rows.
use Rattle.std.proofs.Common.{◌≡◌, ℕ, suc, ◌+◌, ◌≤◌, false, List, [], ◌∷◌, length, refl, ap, subst, Option, Some, None, arith, inl, inr, length-append}
use Rattle.std.specs.List.{list_any}
use Rattle.std.proofs.lemmas.Bool.{cases_Bool}
use Rattle.std.proofs.lemmas.List.Elements.{All-nil}
use Rattle.wk_text_rules.specs.Occurrences.{occurrences}
use Rattle.wk_text_rules.specs.Shapes.{spans_from}
use Rattle.wk_text_rules.specs.Titles.{PageTitle}
use Rattle.wk_tree_rules.specs.Tree.{tree}
use Rattle.wk_tree_rules.specs.declared.Mode.TheVariants.{View}
use Rattle.wk_view_rules.specs.Expand.{expand}
use Rattle.wk_view_rules.specs.Expansions.{Output, Progress, no_counters, no_progress, most_nodes, most_open}
use Rattle.wk_view_rules.specs.Plans.{Plan, gives, asks, and_then, Outcome, done, need, noted, run, reads_of, IsDone}
use Rattle.wk_page_rules.specs.PageRows.{no_rows}
use Rattle.wk_view_rules.specs.Rows.{rows, rows_at, rows_by, in_title_order}
use Rattle.wk_view_rules.specs.Views.{Expanded, expanded_by, view, view_plan, text_plan}
use Rattle.wk_view_rules.specs.Worlds.{Answer, existence, PageText, Read, Source, World, of_world, ask, page_of, is_read_of, Agrees}
use Rattle.wk_view_rules.specs.declared.Kind.TheVariants.{View as as_viewed}
use Rattle.wk_view_laws.specs.Limits.{IsWithinLimits}
use Rattle.wk_view_laws.proofs.CostLemmas.{EndsPaid, kept-start, tested_with}
use Rattle.wk_view_laws.proofs.ExpandCosts.{pays-expand}
use Rattle.wk_view_laws.proofs.PlanLemmas.{IsDone-run, done-elsewhere, met, title_eq-same}

-- a view's plan behind its first answer
abbrev pub after_page : PageTitle → Option PageText → Plan Expanded
after_page page o = elim o [ None ↦ gives (record { out = []; counters = no_counters }) | Some p ↦ text_plan page p.text ]

abbrev pub after_view : PageTitle → Answer → Plan Expanded
after_view page answer = after_page page (page_of answer)

-- two worlds of which one agrees with the reads over the other give one view
pub view-elsewhere : (v w : World) (page : PageTitle) → Agrees (of_world w) (reads_of (view (of_world v) page)) → view (of_world w) page ≡ view (of_world v) page
view-elsewhere v w page agrees = go (view (of_world v) page) refl (IsDone-run v (view_plan page) []) agrees
  where
    go : (o : Outcome Expanded) → view (of_world v) page ≡ o → IsDone o → Agrees (of_world w) (reads_of o) → view (of_world w) page ≡ o
    go (done x seen) e is_done there = done-elsewhere (of_world v) (of_world w) (view_plan page) [] x seen (All-nil _) there e
    go (need title kind seen) e is_done there = absurd is_done

pub rows-elsewhere : (v w : World) (page : PageTitle) → Agrees (of_world w) (reads_of (view (of_world v) page)) → rows w page ≡ rows v page
unfolding rows
rows-elsewhere v w page agrees = ap (rows_at page) (view-elsewhere v w page agrees)

pub rows-missing : (pages : World) (page : PageTitle) → pages page ≡ None → rows pages page ≡ no_rows
unfolding rows run view_plan rows_by in_title_order occurrences spans_from
rows-missing pages page e = rw (e, title_eq-same page) refl

-- ---- how many reads there are

pub length-noted : (before : List Read) (r : Read) → length (noted before r) ≤ suc (length before)
length-noted before r = elim (cases_Bool (list_any (is_read_of r.title r.kind) before)) [
  | inl there ↦ rw there (omega arith)
  | inr missing ↦ rw (missing, length-append) (omega arith)
]

pub noted-longer : (before : List Read) (r : Read) → length before ≤ length (noted before r)
noted-longer before r = elim (cases_Bool (list_any (is_read_of r.title r.kind) before)) [
  | inl there ↦ rw there (omega arith)
  | inr missing ↦ rw (missing, length-append) (omega arith)
]

-- what was counted so far is at most the node budget
pub paid-most : {A : Type 0} (p : Plan (A × Progress)) (base : ℕ) (tested : List PageTitle) → EndsPaid base tested p → base ≤ most_nodes
paid-most (gives (x, progress)) base tested h = omega (arith, h.0, h.1.limits.nodes)
paid-most (asks title kind more) base tested h =
    let later : suc base ≤ most_nodes = paid-most (more (existence false)) (suc base) (tested_with title kind tested) (h.1 (existence false)) in
    omega arith

-- an expansion that begins with so many reads more than nodes ends with so many more at most
count-run : (source : Source) (p : Plan (Output × Progress)) (base over : ℕ) (tested : List PageTitle) (before : List Read) → EndsPaid base tested p → length before ≤ base + over → length (reads_of (run source (and_then p expanded_by) before)) ≤ most_nodes + over
unfolding run
count-run source (gives (out, progress)) base over tested before h few = omega (arith, h.0, h.1.limits.nodes)
count-run source (asks title kind more) base over tested before h few =
    let most : base ≤ most_nodes = paid-most (asks title kind more) base tested h in
    elim (ask source title kind) as (λ o. length (reads_of (met source title kind (λ answer. and_then (more answer) expanded_by) before o)) ≤ most_nodes + over) [
      | None ↦ omega arith
      | Some answer ↦
          let r : Read = record { title = title; kind = kind; answer = answer } in
          let one_more : length (noted before r) ≤ suc base + over = omega (arith, length-noted before r) in
          count-run source (more answer) (suc base) over (tested_with title kind tested) (noted before r) (h.1 answer) one_more
    ]

-- an expansion of a text has so many reads more than before at most
pub length-text : (source : Source) (page : PageTitle) (text : List ℕ) (before : List Read) → length (reads_of (run source (text_plan page text) before)) ≤ most_nodes + length before
unfolding text_plan
length-text source page text before =
    let paid : EndsPaid 0 [] (expand most_open page [] (tree View text) no_progress) =
    (pays-expand most_open page [] (tree View text)).pays 0 no_progress (omega arith) kept-start
    in
    count-run source (expand most_open page [] (tree View text) no_progress) 0 (length before) [] before paid (omega arith)

pub length-view : (source : Source) (page : PageTitle) → length (reads_of (view source page)) ≤ 1000001
unfolding run view_plan
length-view source page = elim (ask source page as_viewed) as (λ o. length (reads_of (met source page as_viewed (after_view page) [] o)) ≤ 1000001) [
  | None ↦ omega arith
  | Some answer ↦ elim (page_of answer) as (λ o. length (reads_of (run source (after_page page o) (record { title = page; kind = as_viewed; answer = answer } ∷ []))) ≤ 1000001) [
    | None ↦ omega arith
    | Some p ↦ length-text source page p.text (record { title = page; kind = as_viewed; answer = answer } ∷ [])
  ]
]

-- ---- the counters

limits-run : (source : Source) (p : Plan (Output × Progress)) (base : ℕ) (tested : List PageTitle) (before : List Read) (x : Expanded) (seen : List Read) → EndsPaid base tested p → run source (and_then p expanded_by) before ≡ done x seen → IsWithinLimits x.counters
unfolding run
limits-run source (gives (out, progress)) base tested before x seen h end =
    let same : record { out = out; counters = progress.counters } ≡ x = cc in
    subst (λ (e : Expanded). IsWithinLimits e.counters) same h.1.limits
limits-run source (asks title kind more) base tested before x seen h end =
    (elim (ask source title kind) as (λ o. met source title kind (λ answer. and_then (more answer) expanded_by) before o ≡ done x seen → IsWithinLimits x.counters) [
      | None ↦ λ e. cc
      | Some answer ↦ limits-run source (more answer) (suc base) (tested_with title kind tested) _ x seen (h.1 answer)
    ]) end

pub limits-text : (source : Source) (page : PageTitle) (text : List ℕ) (before : List Read) (x : Expanded) (seen : List Read) → run source (text_plan page text) before ≡ done x seen → IsWithinLimits x.counters
unfolding text_plan
limits-text source page text before x seen end =
    limits-run source (expand most_open page [] (tree View text) no_progress) 0 [] before x seen
    ((pays-expand most_open page [] (tree View text)).pays 0 no_progress (omega arith) kept-start) end

pub limits-view : (source : Source) (page : PageTitle) (x : Expanded) (seen : List Read) → view source page ≡ done x seen → IsWithinLimits x.counters
unfolding run view_plan
limits-view source page x seen end =
    (elim (ask source page as_viewed) as (λ o. met source page as_viewed (after_view page) [] o ≡ done x seen → IsWithinLimits x.counters) [
      | None ↦ λ e. cc
      | Some answer ↦ elim (page_of answer) as (λ o. run source (after_page page o) (record { title = page; kind = as_viewed; answer = answer } ∷ []) ≡ done x seen → IsWithinLimits x.counters) [
        | None ↦ λ e.
            let nothing : Expanded = record { out = []; counters = no_counters } in
            let same : nothing ≡ x = cc in
            subst (λ (e : Expanded). IsWithinLimits e.counters) same kept-start.limits
        | Some p ↦ limits-text source page p.text _ x seen
      ]
    ]) end
