-- Rounds of asking come to an end.
use Rattle.std.proofs.Common.{◌≡◌, ℕ, zero, suc, ◌+◌, ◌<◌, ◌≤◌, Bool, true, false, List, [], ◌∷◌, ◌++◌, ◌⊎◌, length, refl, sym, ◌∙◌, ap, subst, Option, Some, None, arith, inl, inr, get_or, length-append}
use Rattle.std.specs.List.{find, list_any}
use Rattle.std.specs.Option.{option_map}
use Rattle.std.proofs.lemmas.Bool.{cases_Bool}
use Rattle.std.proofs.lemmas.List.Elements.{All-nil}
use Rattle.std.proofs.lemmas.List.Folds.{Any-from_list_any}
use Rattle.wk_text_rules.specs.Titles.{PageTitle, title_eq}
use Rattle.wk_tree_rules.specs.Tree.{tree}
use Rattle.wk_tree_rules.specs.declared.Mode.TheVariants as mode
use Rattle.wk_view_rules.specs.Expand.{expand}
use Rattle.wk_view_rules.specs.Expansions.{Output, Progress, no_progress, most_nodes, most_open}
use Rattle.wk_view_rules.specs.Plans.{Plan, gives, asks, and_then, Outcome, done, need, noted, run, reads_of, IsDone}
use Rattle.wk_view_rules.specs.Views.{Expanded, expanded_by, shown_text, view, view_plan, text_plan}
use Rattle.wk_view_rules.specs.Worlds.{Answer, existence, page_of, Read, Seen, Source, of_seen, ask, is_read_of, kind_eq, Agrees}
use Rattle.wk_view_rules.specs.declared.Kind.{Kind}
use Rattle.wk_view_rules.specs.declared.Kind.TheVariants.{View}
use Rattle.wk_view_laws.specs.Rounds.{seen_next, rounds, rounds_by, text_rounds}
use Rattle.wk_view_laws.proofs.CostLemmas.{EndsPaid, kept-start, tested_with}
use Rattle.wk_view_laws.proofs.ExpandCosts.{pays-expand}
use Rattle.wk_view_laws.proofs.PlanLemmas.{agrees-itself, answers_alike, both_parts, is_read_of-same, kind_eq-true, met, noted-agrees, run-asks, title_eq-true}
use Rattle.wk_view_laws.proofs.ViewLemmas.{after_page, after_view, length-noted, noted-longer, paid-most}

-- ---- a need, answered

-- a source doesn't answer what is needed of it
pub need-unanswered : {A : Type 0} (a : Source) (p : Plan A) (before : List Read) (wanted : PageTitle) (as_kind : Kind) (after : List Read) → run a p before ≡ need wanted as_kind after → ask a wanted as_kind ≡ None
unfolding run
need-unanswered a (gives x) before wanted as_kind after end = cc
need-unanswered a (asks title kind more) before wanted as_kind after end = go (ask a title kind) refl (λ answer reads. need-unanswered a (more answer) reads wanted as_kind after) end
  where
    go : (o : Option Answer) → ask a title kind ≡ o → ((answer : Answer) (reads : List Read) → run a (more answer) reads ≡ need wanted as_kind after → ask a wanted as_kind ≡ None) → met a title kind more before o ≡ need wanted as_kind after → ask a wanted as_kind ≡ None
    go None e later here =
        let same_title : title ≡ wanted = cc in
        let same_kind : kind ≡ as_kind = cc in
        subst (λ t. ask a t as_kind ≡ None) same_title (subst (λ k. ask a title k ≡ None) same_kind e)
    go (Some answer) e later here = later answer _ here

abbrev read_of : PageTitle → Kind → Answer → Read
read_of title kind answer = record { title = title; kind = kind; answer = answer }

-- the plan is met from there on by another one, behind these reads
abbrev GoesOn : {A : Type 0} → Source → Plan A → List Read → List Read → Type 0
GoesOn {A} b p before after = (q : Plan A) × (run b p before ≡ run b q after)

goes_on_asks : {A : Type 0} (a b : Source) (title : PageTitle) (kind : Kind) (more : Answer → Plan A) (before : List Read) (wanted : PageTitle) (as_kind : Kind) (found : Answer) (after : List Read) → Agrees a before → Agrees b after → ask b wanted as_kind ≡ Some found → ((answer : Answer) (reads : List Read) → Agrees a reads → run a (more answer) reads ≡ need wanted as_kind after → GoesOn b (more answer) reads (noted after (read_of wanted as_kind found))) → (o : Option Answer) → ask a title kind ≡ o → met a title kind more before o ≡ need wanted as_kind after → GoesOn b (asks title kind more) before (noted after (read_of wanted as_kind found))
goes_on_asks a b title kind more before wanted as_kind found after agrees agrees_b e_found later None e end =
    let same_title : title ≡ wanted = cc in
    let same_kind : kind ≡ as_kind = cc in
    let same_reads : before ≡ after = cc in
    let e_b : ask b title kind ≡ Some found =
    subst (λ t. ask b t kind ≡ Some found) (sym same_title) (subst (λ k. ask b wanted k ≡ Some found) (sym same_kind) e_found)
    in
    let lists : noted before (read_of title kind found) ≡ noted after (read_of wanted as_kind found) =
    ap (λ t. noted before (read_of t kind found)) same_title
    ∙ ap (λ k. noted before (read_of wanted k found)) same_kind
    ∙ ap (λ reads. noted reads (read_of wanted as_kind found)) same_reads
    in
    (more found, run-asks b title kind more before ∙ ap (met b title kind more before) e_b ∙ ap (run b (more found)) lists)
goes_on_asks a b title kind more before wanted as_kind found after agrees agrees_b e_found later (Some answer) e end =
    let r : Read = read_of title kind answer in
    let e_b : ask b title kind ≡ Some answer = answers_alike a b title kind (more answer) before answer agrees e (subst (λ o. Agrees b (reads_of o)) (sym end) agrees_b) in
    let further = later answer (noted before r) (noted-agrees a before r agrees e) end in
    (further.0, run-asks b title kind more before ∙ ap (met b title kind more before) e_b ∙ further.1)

-- where another source agrees with the reads before a need and answers it, it goes on behind the answer
goes_on : {A : Type 0} (a b : Source) (p : Plan A) (before : List Read) (wanted : PageTitle) (as_kind : Kind) (found : Answer) (after : List Read) → Agrees a before → Agrees b after → ask b wanted as_kind ≡ Some found → run a p before ≡ need wanted as_kind after → GoesOn b p before (noted after (read_of wanted as_kind found))
unfolding run
goes_on a b (gives x) before wanted as_kind found after agrees agrees_b e_found end = cc
goes_on a b (asks title kind more) before wanted as_kind found after agrees agrees_b e_found end =
    goes_on_asks a b title kind more before wanted as_kind found after agrees agrees_b e_found
    (λ answer reads here next. goes_on a b (more answer) reads wanted as_kind found after here agrees_b e_found next)
    (ask a title kind) refl end

-- a source that agrees with reads answers each pair among them
pub read-answered : (a : Source) (title : PageTitle) (kind : Kind) (reads : List Read) → Agrees a reads → list_any (is_read_of title kind) reads ≡ true → (answer : Answer) × (ask a title kind ≡ Some answer)
read-answered a title kind reads agrees there =
    let found = Any-from_list_any (is_read_of title kind) reads there in
    let r : Read = found.1 in
    let parts = both_parts (title_eq r.title title) (kind_eq r.kind kind) found.4 in
    let by_a : ask a r.title r.kind ≡ Some r.answer = rw found.3 at (agrees found.0 r found.2) in (
      r.answer,
      subst (λ t. ask a t kind ≡ Some r.answer) (title_eq-true r.title title parts.0)
          (subst (λ k. ask a r.title k ≡ Some r.answer) (kind_eq-true r.kind kind parts.1) by_a),
    )

-- so a pair that it doesn't answer isn't among them
pub unanswered-unread : (a : Source) (title : PageTitle) (kind : Kind) (reads : List Read) → Agrees a reads → ask a title kind ≡ None → list_any (is_read_of title kind) reads ≡ false
unanswered-unread a title kind reads agrees none = elim (cases_Bool (list_any (is_read_of title kind) reads)) [
  | inl there ↦
      let found = read-answered a title kind reads agrees there in
      absurd (let wrong : None ≡ Some found.0 = sym none ∙ found.1 in cc)
  | inr missing ↦ missing
]

-- nor is a pair that a source needs among the reads before it
needed-unread : {A : Type 0} (a : Source) (p : Plan A) (title : PageTitle) (kind : Kind) (reads : List Read) → run a p [] ≡ need title kind reads → list_any (is_read_of title kind) reads ≡ false
needed-unread a p title kind reads end =
    let own : Agrees a reads = subst (λ o. Agrees a (reads_of o)) end (agrees-itself a p [] (All-nil (λ (r : Read). ask a r.title r.kind ≡ Some r.answer))) in
    unanswered-unread a title kind reads own (need-unanswered a p [] title kind reads end)

-- where another source agrees with the reads before a need and answers it, it goes on with the pair read last
pub leads-on : {A : Type 0} (a b : Source) (p : Plan A) (title : PageTitle) (kind : Kind) (answer : Answer) (reads : List Read) → Agrees b reads → ask b title kind ≡ Some answer → run a p [] ≡ need title kind reads → GoesOn b p [] (reads ++ read_of title kind answer ∷ [])
leads-on a b p title kind answer reads agrees_b answered end =
    let further = goes_on a b p [] title kind answer reads (All-nil _) agrees_b answered end in
    let last : noted reads (read_of title kind answer) ≡ reads ++ read_of title kind answer ∷ [] = rw (needed-unread a p title kind reads end) refl in
    (further.0, further.1 ∙ ap (run b further.0) last)

-- reads are only added
length-grows : {A : Type 0} (b : Source) (p : Plan A) (before : List Read) → length before ≤ length (reads_of (run b p before))
unfolding run
length-grows b (gives x) before = omega arith
length-grows b (asks title kind more) before =
    elim (ask b title kind) as (λ o. length before ≤ length (reads_of (met b title kind more before o))) [
      | None ↦ omega arith
      | Some answer ↦ omega (arith, noted-longer before (read_of title kind answer), length-grows b (more answer) (noted before (read_of title kind answer)))
    ]

-- so it has more reads then
pub length-leads : {A : Type 0} (a b : Source) (p : Plan A) (title : PageTitle) (kind : Kind) (answer : Answer) (reads : List Read) → run a p [] ≡ need title kind reads → Agrees b reads → ask b title kind ≡ Some answer → length reads < length (reads_of (run b p []))
length-leads a b p title kind answer reads end agrees_b answered =
    let further = leads-on a b p title kind answer reads agrees_b answered end in
    let more : List Read = reads ++ read_of title kind answer ∷ [] in
    let one_more : length more ≡ length reads + 1 = length-append reads _ in
    let grows : length more ≤ length (reads_of (run b further.0 more)) = length-grows b further.0 more in
    subst (λ o. length reads < length (reads_of o)) (sym further.1) (omega (arith, one_more, grows))

-- ---- answers that were seen

found-any : {X Y : Type 0} (p : X → Bool) (f : X → Y) (xs : List X) (y : Y) → option_map f (find p xs) ≡ Some y → list_any p xs ≡ true
found-any p f [] y e = cc
found-any p f (x ∷ xs) y e = elim (cases_Bool (p x)) [
  | inl passes ↦ rw passes refl
  | inr fails ↦ rw fails (found-any p f xs y (rw fails at e))
]

none-any : {X Y : Type 0} (p : X → Bool) (f : X → Y) (xs : List X) → option_map f (find p xs) ≡ None → list_any p xs ≡ false
none-any p f [] e = refl
none-any p f (x ∷ xs) e = elim (cases_Bool (p x)) [
  | inl passes ↦ let wrong : Some (f x) ≡ None = rw passes at e in cc
  | inr fails ↦ rw fails (none-any p f xs (rw fails at e))
]

-- a plan over answers that were all read reads nothing else
reads-stay : {A : Type 0} (seen : Seen) (p : Plan A) → reads_of (run (of_seen seen) p seen) ≡ seen
unfolding run
reads-stay seen (gives x) = refl
reads-stay seen (asks title kind more) = go (ask (of_seen seen) title kind) refl (λ answer. reads-stay seen (more answer))
  where
    go : (o : Option Answer) → ask (of_seen seen) title kind ≡ o → ((answer : Answer) → reads_of (run (of_seen seen) (more answer) seen) ≡ seen) → reads_of (met (of_seen seen) title kind more seen o) ≡ seen
    go None e later = refl
    go (Some answer) e later =
        let there : list_any (is_read_of title kind) seen ≡ true = found-any (is_read_of title kind) (λ (r : Read). r.answer) seen answer e in
        rw there (later answer)

-- more answers behind those that were seen change none of them
ask-longer : (seen more : Seen) (title : PageTitle) (kind : Kind) (answer : Answer) → ask (of_seen seen) title kind ≡ Some answer → ask (of_seen (seen ++ more)) title kind ≡ Some answer
ask-longer [] more title kind answer e = cc
ask-longer (r ∷ seen) more title kind answer e = elim (cases_Bool (is_read_of title kind r)) [
  | inl there ↦ rw there (rw there at e)
  | inr missing ↦ rw missing (ask-longer seen more title kind answer (rw missing at e))
]

pub ask-last : (seen : Seen) (title : PageTitle) (kind : Kind) (answer : Answer) → ask (of_seen seen) title kind ≡ None → ask (of_seen (seen ++ read_of title kind answer ∷ [])) title kind ≡ Some answer
ask-last [] title kind answer e = rw (is_read_of-same (read_of title kind answer)) refl
ask-last (r ∷ seen) title kind answer e = elim (cases_Bool (is_read_of title kind r)) [
  | inl there ↦ let wrong : Some r.answer ≡ None = rw there at e in cc
  | inr missing ↦ rw missing (ask-last seen title kind answer (rw missing at e))
]

-- where a plan has read all that was seen and needs a pair, it reads that pair too as soon as it is answered
reads-answered : (seen : Seen) (p : Plan Expanded) (title : PageTitle) (kind : Kind) (answer : Answer) → run (of_seen seen) p [] ≡ need title kind seen → reads_of (run (of_seen (seen ++ read_of title kind answer ∷ [])) p []) ≡ seen ++ read_of title kind answer ∷ []
reads-answered seen p title kind answer end =
    let longer : Seen = seen ++ read_of title kind answer ∷ [] in
    let unanswered : ask (of_seen seen) title kind ≡ None = need-unanswered (of_seen seen) p [] title kind seen end in
    let agrees_seen : Agrees (of_seen seen) seen = subst (λ o. Agrees (of_seen seen) (reads_of o)) end (agrees-itself (of_seen seen) p [] (All-nil (λ (r : Read). ask (of_seen seen) r.title r.kind ≡ Some r.answer))) in
    let agrees_longer : Agrees (of_seen longer) seen = λ k d within. ask-longer seen (read_of title kind answer ∷ []) (get_or seen k d).title (get_or seen k d).kind (get_or seen k d).answer (agrees_seen k d within) in
    let further = leads-on (of_seen seen) (of_seen longer) p title kind answer seen agrees_longer (ask-last seen title kind answer unanswered) end in
    ap reads_of further.1 ∙ reads-stay longer further.0

-- ---- a need comes before the last read

need-run : (source : Source) (p : Plan (Output × Progress)) (base over : ℕ) (tested : List PageTitle) (before : List Read) (wanted : PageTitle) (as_kind : Kind) (after : List Read) → EndsPaid base tested p → length before ≤ base + over → run source (and_then p expanded_by) before ≡ need wanted as_kind after → suc (length after) ≤ most_nodes + over
unfolding run
need-run source (gives (out, progress)) base over tested before wanted as_kind after h few end = cc
need-run source (asks title kind more) base over tested before wanted as_kind after h few end =
    let most : suc base ≤ most_nodes = paid-most (more (existence false)) (suc base) (tested_with title kind tested) (h.1 (existence false)) in
    (elim (ask source title kind) as (λ o. met source title kind (λ answer. and_then (more answer) expanded_by) before o ≡ need wanted as_kind after → suc (length after) ≤ most_nodes + over) [
      | None ↦ λ e.
          let same : before ≡ after = cc in
          subst (λ reads. suc (length reads) ≤ most_nodes + over) same (omega arith)
      | Some answer ↦
          let r : Read = read_of title kind answer in
          need-run source (more answer) (suc base) over (tested_with title kind tested) (noted before r) wanted as_kind after (h.1 answer) (omega (arith, length-noted before r))
    ]) end

pub need-text : (source : Source) (page : PageTitle) (text : List ℕ) (before : List Read) (wanted : PageTitle) (as_kind : Kind) (after : List Read) → run source (text_plan page text) before ≡ need wanted as_kind after → length after < most_nodes + length before
unfolding text_plan
need-text source page text before wanted as_kind after end =
    need-run source (expand most_open page [] (tree mode.View text) no_progress) 0 (length before) [] before wanted as_kind after
    ((pays-expand most_open page [] (tree mode.View text)).pays 0 no_progress (omega arith) kept-start) (omega arith) end

pub need-view : (source : Source) (page wanted : PageTitle) (as_kind : Kind) (after : List Read) → view source page ≡ need wanted as_kind after → length after < 1000001
unfolding run view_plan
need-view source page wanted as_kind after end =
    (elim (ask source page View) as (λ o. met source page View (after_view page) [] o ≡ need wanted as_kind after → length after < 1000001) [
      | None ↦ λ e.
          let none : List Read = [] in
          let same : none ≡ after = cc in
          subst (λ reads. length reads < 1000001) same (omega arith)
      | Some answer ↦ elim (page_of answer) as (λ o. run source (after_page page o) (read_of page View answer ∷ []) ≡ need wanted as_kind after → length after < 1000001) [
        | None ↦ λ e. cc
        | Some p ↦ λ e. need-text source page p.text (read_of page View answer ∷ []) wanted as_kind after e
      ]
    ]) end

-- ---- rounds

-- after so many rounds the plan is done, or it needs a pair and has read all that was seen, one pair a round
abbrev IsRound : Plan Expanded → ℕ → Seen → Type 0
IsRound p n seen =
    IsDone (run (of_seen seen) p [])
    ⊎ ((title : PageTitle) × (kind : Kind) × (run (of_seen seen) p [] ≡ need title kind seen) × (length seen ≡ n))

by_end : (p : Plan Expanded) (n : ℕ) (seen : Seen) (o : Outcome Expanded) → run (of_seen seen) p [] ≡ o → reads_of o ≡ seen → length seen ≡ n → IsRound p n seen
by_end p n seen (done x reads) e all_read long = inl (subst (λ o. IsDone o) (sym e) tt)
by_end p n seen (need title kind reads) e all_read long = inr (title, kind, e ∙ ap (need title kind) all_read, long)

is_round-next : (p : Plan Expanded) (n : ℕ) (seen : Seen) (answer : PageTitle → Kind → Answer) → IsRound p n seen → IsRound p (suc n) (seen_next answer seen (run (of_seen seen) p []))
is_round-next p n seen answer (inl is_done) = go (run (of_seen seen) p []) refl is_done
  where
    go : (o : Outcome Expanded) → run (of_seen seen) p [] ≡ o → IsDone o → IsRound p (suc n) (seen_next answer seen o)
    go (done x reads) e here = inl is_done
    go (need title kind reads) e here = absurd here
is_round-next p n seen answer (inr needed) =
    let title : PageTitle = needed.0 in
    let kind : Kind = needed.1 in
    let longer : Seen = seen ++ read_of title kind (answer title kind) ∷ [] in
    let all_read : reads_of (run (of_seen longer) p []) ≡ longer = reads-answered seen p title kind (answer title kind) needed.2 in
    let longer_is : length longer ≡ suc n = length-append seen _ ∙ omega (arith, needed.3) in
    subst (λ o. IsRound p (suc n) (seen_next answer seen o)) (sym needed.2) (by_end p (suc n) longer (run (of_seen longer) p []) refl all_read longer_is)

is_round : (answers : ℕ → PageTitle → Kind → Answer) (p : Plan Expanded) (n : ℕ) → IsRound p n (rounds_by answers p n)
unfolding rounds_by
is_round answers p zero = by_end p 0 [] (run (of_seen []) p []) refl (reads-stay [] p) refl
is_round answers p (suc n) = is_round-next p n (rounds_by answers p n) (answers n) (is_round answers p n)

-- where each need of a plan comes before this many reads, so many rounds are enough
rounds-end : (answers : ℕ → PageTitle → Kind → Answer) (p : Plan Expanded) (most : ℕ) → ((seen : Seen) (title : PageTitle) (kind : Kind) (after : List Read) → run (of_seen seen) p [] ≡ need title kind after → length after < most) → IsDone (run (of_seen (rounds_by answers p most)) p [])
rounds-end answers p most few = elim (is_round answers p most) [
  | inl is_done ↦ is_done
  | inr needed ↦
      let below : length (rounds_by answers p most) < most = few _ needed.0 needed.1 _ needed.2 in
      absurd (omega (arith, needed.3, below))
]

pub rounds-view : (answers : ℕ → PageTitle → Kind → Answer) (page : PageTitle) → IsDone (view (of_seen (rounds answers page 1000001)) page)
rounds-view answers page = rounds-end answers (view_plan page) 1000001 (λ seen title kind after end. need-view (of_seen seen) page title kind after end)

pub rounds-text : (answers : ℕ → PageTitle → Kind → Answer) (page : PageTitle) (text : List ℕ) → IsDone (shown_text (of_seen (text_rounds answers page text 1000000)) page text)
rounds-text answers page text = rounds-end answers (text_plan page text) 1000000 (λ seen title kind after end. need-text (of_seen seen) page text [] title kind after end)
