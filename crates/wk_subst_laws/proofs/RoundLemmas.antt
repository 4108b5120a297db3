-- A need comes before the last read, a result is bounded, and rounds of asking come to an end.
use Rattle.std.proofs.Common.{◌≡◌, ℕ, zero, suc, ◌+◌, ◌<◌, ◌≤◌, Bool, true, false, List, [], ◌∷◌, ◌++◌, ◌⊎◌, length, refl, sym, ◌∙◌, ap, subst, Option, Some, None, arith, inl, inr, get_or, length-append}
use Rattle.std.specs.List.{find, list_any}
use Rattle.std.specs.Option.{option_map}
use Rattle.std.proofs.lemmas.Bool.{cases_Bool}
use Rattle.std.proofs.lemmas.List.Elements.{All-nil}
use Rattle.wk_text_rules.specs.Titles.{PageTitle}
use Rattle.wk_tree_rules.specs.Selection.{selection}
use Rattle.wk_tree_rules.specs.Tree.{tree}
use Rattle.wk_tree_rules.specs.declared.Mode.TheVariants as mode
use Rattle.wk_tree_laws.proofs.TreeLemmas.{tree-source}
use Rattle.wk_tree_rules.specs.Trees.{Item}
use Rattle.wk_view_rules.specs.Expansions.{Progress, most_bytes, most_nodes}
use Rattle.wk_view_rules.specs.Plans.{Plan, gives, asks, and_then, Outcome, done, need, noted, run, reads_of, IsDone}
use Rattle.wk_view_rules.specs.Worlds.{Answer, existence, Read, Seen, Source, World, of_seen, of_world, ask, is_read_of, Agrees}
use Rattle.wk_view_rules.specs.declared.Kind.{Kind}
use Rattle.wk_view_laws.proofs.PlanLemmas.{IsDone-run, agrees-itself, done-elsewhere, met}
use Rattle.wk_view_laws.proofs.RoundLemmas.{ask-last, leads-on, need-unanswered}
use Rattle.wk_view_laws.proofs.ViewLemmas.{length-noted}
use Rattle.wk_subst_rules.specs.Places.{Place}
use Rattle.wk_subst_rules.specs.Substitution.{substituted, substituted_items, substitution_plan, text_alone}
use Rattle.wk_subst_laws.specs.Limits.{IsWithinBudget}
use Rattle.wk_subst_laws.specs.Rounds.{seen_next, rounds_by, saved_rounds}
use Rattle.wk_subst_laws.proofs.SizeLemmas.{size}
use Rattle.wk_subst_laws.proofs.SpendLemmas.{Ends, Fits, IsAllowed, IsAsked}
use Rattle.wk_subst_laws.proofs.TextSpends.{ends-items, ends-text, of_calls, of_nodes_and_calls}

abbrev read_of : PageTitle → Kind → Answer → Read
read_of title kind answer = record { title = title; kind = kind; answer = answer }

-- ---- how far a plan goes

-- what was asked so far is at most the node budget
paid-most : {A : Type 0} (fits : A → Progress → Type 0) (p : Plan (A × Progress)) (base : ℕ) → Ends base fits p → base ≤ most_nodes
paid-most fits (gives (x, progress)) base h = omega (arith, h.0, h.1.nodes)
paid-most fits (asks title kind more) base h =
    let later : suc base ≤ most_nodes = paid-most fits (more (existence false)) (suc base) (h.1 (existence false)) in
    omega arith

count-run : (source : Source) (fits : List ℕ → Progress → Type 0) (p : Plan (List ℕ × Progress)) (base : ℕ) (before : List Read) → Ends base fits p → length before ≤ base → length (reads_of (run source (and_then p text_alone) before)) ≤ most_nodes
unfolding run
count-run source fits (gives (out, progress)) base before h few = omega (arith, h.0, h.1.nodes)
count-run source fits (asks title kind more) base before h few =
    let most : base ≤ most_nodes = paid-most fits (asks title kind more) base h in
    elim (ask source title kind) as (λ o. length (reads_of (met source title kind (λ answer. and_then (more answer) text_alone) before o)) ≤ most_nodes) [
      | None ↦ omega arith
      | Some answer ↦
          let r : Read = read_of title kind answer in
          let one_more : length (noted before r) ≤ suc base = omega (arith, length-noted before r) in
          count-run source fits (more answer) (suc base) (noted before r) (h.1 answer) one_more
    ]

-- what a need says of itself
abbrev IsEarly : PageTitle → Kind → List Read → Type 0
IsEarly wanted as_kind after = IsAsked wanted as_kind × (suc (length after) ≤ most_nodes)

need-run : (source : Source) (fits : List ℕ → Progress → Type 0) (p : Plan (List ℕ × Progress)) (base : ℕ) (before : List Read) (wanted : PageTitle) (as_kind : Kind) (after : List Read) → Ends base fits p → length before ≤ base → run source (and_then p text_alone) before ≡ need wanted as_kind after → IsEarly wanted as_kind after
unfolding run
need-run source fits (gives (out, progress)) base before wanted as_kind after h few end = cc
need-run source fits (asks title kind more) base before wanted as_kind after h few end =
    let most : suc base ≤ most_nodes = paid-most fits (more (existence false)) (suc base) (h.1 (existence false)) in
    (elim (ask source title kind) as (λ o. met source title kind (λ answer. and_then (more answer) text_alone) before o ≡ need wanted as_kind after → IsEarly wanted as_kind after) [
      | None ↦ λ e.
          let same_title : title ≡ wanted = cc in
          let same_kind : kind ≡ as_kind = cc in
          let same : before ≡ after = cc in (
            subst (λ t. IsAsked t as_kind) same_title (subst (λ k. IsAsked title k) same_kind h.0),
            subst (λ reads. suc (length reads) ≤ most_nodes) same (omega arith),
          )
      | Some answer ↦
          let r : Read = read_of title kind answer in
          need-run source fits (more answer) (suc base) (noted before r) wanted as_kind after (h.1 answer) (omega (arith, length-noted before r))
    ]) end

-- the value of a plan that is done fits
bound-run : (source : Source) (most : ℕ) (p : Plan (List ℕ × Progress)) (base : ℕ) (before : List Read) (x : List ℕ) (seen : List Read) → Ends base (Fits of_calls length most 0) p → run source (and_then p text_alone) before ≡ done x seen → length x ≤ most + most_bytes
unfolding run
bound-run source most (gives (out, progress)) base before x seen h end =
    let same : out ≡ x = cc in
    subst (λ t. length t ≤ most + most_bytes) same (omega (arith, h.2.short, h.1.include))
bound-run source most (asks title kind more) base before x seen h end =
    (elim (ask source title kind) as (λ o. met source title kind (λ answer. and_then (more answer) text_alone) before o ≡ done x seen → length x ≤ most + most_bytes) [
      | None ↦ λ e. cc
      | Some answer ↦ bound-run source most (more answer) (suc base) _ x seen (h.1 answer)
    ]) end

-- in the middle of a substitution
ends-run : {A : Type 0} (source : Source) (fits : A → Progress → Type 0) (p : Plan (A × Progress)) (base : ℕ) (before : List Read) (x : A × Progress) (seen : List Read) → Ends base fits p → run source p before ≡ done x seen → IsAllowed x.1 × fits x.0 x.1
unfolding run
ends-run source fits (gives (out, progress)) base before x seen h end =
    let same : (out, progress) ≡ x = cc in
    subst (λ y. IsAllowed y.1 × fits y.0 y.1) same (h.1, h.2)
ends-run source fits (asks title kind more) base before x seen h end =
    (elim (ask source title kind) as (λ o. met source title kind more before o ≡ done x seen → IsAllowed x.1 × fits x.0 x.1) [
      | None ↦ λ e. cc
      | Some answer ↦ ends-run source fits (more answer) (suc base) _ x seen (h.1 answer)
    ]) end

pub items-end : (source : Source) (left : ℕ) (place : Place) (items : List Item) (progress : Progress) (before : List Read) (x : List ℕ × Progress) (seen : List Read) → IsWithinBudget progress → run source (substituted_items left place items progress) before ≡ done x seen → IsAllowed x.1 × Fits of_nodes_and_calls length (size items) (of_nodes_and_calls progress) x.0 x.1
items-end source left place items progress before x seen within end =
    ends-run source (Fits of_nodes_and_calls length (size items) (of_nodes_and_calls progress)) _ 0 before x seen
    (ends-items left place items progress (record { nodes = within.nodes; include = within.include })) end

-- ---- a text

pub length-reads : (source : Source) (text : List ℕ) → length (reads_of (substituted source text)) ≤ most_nodes
unfolding substitution_plan
length-reads source text = count-run source (Fits of_calls length (size (tree mode.View text)) 0) _ 0 [] (ends-text text) (omega arith)

pub need-early : (source : Source) (text : List ℕ) (wanted : PageTitle) (as_kind : Kind) (after : List Read) → substituted source text ≡ need wanted as_kind after → IsAsked wanted as_kind × (suc (length after) ≤ most_nodes)
unfolding substitution_plan
need-early source text wanted as_kind after end = need-run source (Fits of_calls length (size (tree mode.View text)) 0) _ 0 [] wanted as_kind after (ends-text text) (omega arith) end

pub length-result : (source : Source) (text x : List ℕ) (seen : List Read) → substituted source text ≡ done x seen → length x ≤ length text + most_bytes
unfolding selection substitution_plan
length-result source text x seen end =
    let bound : length x ≤ size (tree mode.View text) + most_bytes = bound-run source (size (tree mode.View text)) _ 0 [] x seen (ends-text text) end in
    omega (arith, bound, ap length (tree-source mode.View text))

pub same-world : (v w : World) (text : List ℕ) → Agrees (of_world w) (reads_of (substituted (of_world v) text)) → substituted (of_world w) text ≡ substituted (of_world v) text
same-world v w text agrees = go (substituted (of_world v) text) refl (IsDone-run v (substitution_plan text) []) agrees
  where
    go : (o : Outcome (List ℕ)) → substituted (of_world v) text ≡ o → IsDone o → Agrees (of_world w) (reads_of o) → substituted (of_world w) text ≡ o
    go (done x seen) e is_done there = done-elsewhere (of_world v) (of_world w) (substitution_plan text) [] x seen (All-nil _) there e
    go (need title kind seen) e is_done there = absurd is_done

-- ---- answers that were seen

found-any : {X Y : Type 0} (p : X → Bool) (f : X → Y) (xs : List X) (y : Y) → option_map f (find p xs) ≡ Some y → list_any p xs ≡ true
found-any p f [] y e = cc
found-any p f (x ∷ xs) y e = elim (cases_Bool (p x)) [
  | inl passes ↦ rw passes refl
  | inr fails ↦ rw fails (found-any p f xs y (rw fails at e))
]

-- a plan over answers that were all read reads nothing else
reads-stay : {A : Type 0} (seen : Seen) (p : Plan A) → reads_of (run (of_seen seen) p seen) ≡ seen
unfolding run
reads-stay seen (gives x) = refl
reads-stay seen (asks title kind more) = go (ask (of_seen seen) title kind) refl (λ answer. reads-stay seen (more answer))
  where
    go : (o : Option Answer) → ask (of_seen seen) title kind ≡ o → ((answer : Answer) → reads_of (run (of_seen seen) (more answer) seen) ≡ seen) → reads_of (met (of_seen seen) title kind more seen o) ≡ seen
    go None e later = refl
    go (Some answer) e later =
        let there : list_any (is_read_of title kind) seen ≡ true = found-any (is_read_of title kind) (λ (r : Read). r.answer) seen answer e in
        rw there (later answer)

-- more answers behind those that were seen change none of them
ask-longer : (seen more : Seen) (title : PageTitle) (kind : Kind) (answer : Answer) → ask (of_seen seen) title kind ≡ Some answer → ask (of_seen (seen ++ more)) title kind ≡ Some answer
ask-longer [] more title kind answer e = cc
ask-longer (r ∷ seen) more title kind answer e = elim (cases_Bool (is_read_of title kind r)) [
  | inl there ↦ rw there (rw there at e)
  | inr missing ↦ rw missing (ask-longer seen more title kind answer (rw missing at e))
]

-- where a plan has read all that was seen and needs a pair, it reads that pair too as soon as it is answered
reads-answered : {A : Type 0} (seen : Seen) (p : Plan A) (title : PageTitle) (kind : Kind) (answer : Answer) → run (of_seen seen) p [] ≡ need title kind seen → reads_of (run (of_seen (seen ++ read_of title kind answer ∷ [])) p []) ≡ seen ++ read_of title kind answer ∷ []
reads-answered seen p title kind answer end =
    let longer : Seen = seen ++ read_of title kind answer ∷ [] in
    let unanswered : ask (of_seen seen) title kind ≡ None = need-unanswered (of_seen seen) p [] title kind seen end in
    let agrees_seen : Agrees (of_seen seen) seen = subst (λ o. Agrees (of_seen seen) (reads_of o)) end (agrees-itself (of_seen seen) p [] (All-nil (λ (r : Read). ask (of_seen seen) r.title r.kind ≡ Some r.answer))) in
    let agrees_longer : Agrees (of_seen longer) seen = λ k d within. ask-longer seen (read_of title kind answer ∷ []) (get_or seen k d).title (get_or seen k d).kind (get_or seen k d).answer (agrees_seen k d within) in
    let further = leads-on (of_seen seen) (of_seen longer) p title kind answer seen agrees_longer (ask-last seen title kind answer unanswered) end in
    ap reads_of further.1 ∙ reads-stay longer further.0

-- ---- rounds

-- after so many rounds the plan is done, or it needs a pair and has read all that was seen, one pair a round
abbrev IsRound : {A : Type 0} → Plan A → ℕ → Seen → Type 0
IsRound p n seen =
    IsDone (run (of_seen seen) p [])
    ⊎ ((title : PageTitle) × (kind : Kind) × (run (of_seen seen) p [] ≡ need title kind seen) × (length seen ≡ n))

by_end : {A : Type 0} (p : Plan A) (n : ℕ) (seen : Seen) (o : Outcome A) → run (of_seen seen) p [] ≡ o → reads_of o ≡ seen → length seen ≡ n → IsRound p n seen
by_end p n seen (done x reads) e all_read long = inl (subst (λ o. IsDone o) (sym e) tt)
by_end p n seen (need title kind reads) e all_read long = inr (title, kind, e ∙ ap (need title kind) all_read, long)

is_round-next : {A : Type 0} (p : Plan A) (n : ℕ) (seen : Seen) (answer : PageTitle → Kind → Answer) → IsRound p n seen → IsRound p (suc n) (seen_next answer seen (run (of_seen seen) p []))
is_round-next p n seen answer (inl is_done) = go (run (of_seen seen) p []) refl is_done
  where
    go : (o : Outcome _) → run (of_seen seen) p [] ≡ o → IsDone o → IsRound p (suc n) (seen_next answer seen o)
    go (done x reads) e here = inl is_done
    go (need title kind reads) e here = absurd here
is_round-next p n seen answer (inr needed) =
    let title : PageTitle = needed.0 in
    let kind : Kind = needed.1 in
    let longer : Seen = seen ++ read_of title kind (answer title kind) ∷ [] in
    let all_read : reads_of (run (of_seen longer) p []) ≡ longer = reads-answered seen p title kind (answer title kind) needed.2 in
    let longer_is : length longer ≡ suc n = length-append seen _ ∙ omega (arith, needed.3) in
    subst (λ o. IsRound p (suc n) (seen_next answer seen o)) (sym needed.2) (by_end p (suc n) longer (run (of_seen longer) p []) refl all_read longer_is)

is_round : {A : Type 0} (answers : ℕ → PageTitle → Kind → Answer) (p : Plan A) (n : ℕ) → IsRound p n (rounds_by answers p n)
unfolding rounds_by
is_round answers p zero = by_end p 0 [] (run (of_seen []) p []) refl (reads-stay [] p) refl
is_round answers p (suc n) = is_round-next p n (rounds_by answers p n) (answers n) (is_round answers p n)

-- where each need of a plan comes before this many reads, so many rounds are enough
pub rounds-end : {A : Type 0} (answers : ℕ → PageTitle → Kind → Answer) (p : Plan A) (most : ℕ) → ((seen : Seen) (title : PageTitle) (kind : Kind) (after : List Read) → run (of_seen seen) p [] ≡ need title kind after → length after < most) → IsDone (run (of_seen (rounds_by answers p most)) p [])
rounds-end answers p most few = elim (is_round answers p most) [
  | inl is_done ↦ is_done
  | inr needed ↦
      let below : length (rounds_by answers p most) < most = few _ needed.0 needed.1 _ needed.2 in
      absurd (omega (arith, needed.3, below))
]

pub rounds-saved : (answers : ℕ → PageTitle → Kind → Answer) (text : List ℕ) → IsDone (substituted (of_seen (saved_rounds answers text 1000000)) text)
rounds-saved answers text = rounds-end answers (substitution_plan text) 1000000 (λ seen title kind after end. (need-early (of_seen seen) text title kind after end).1)
