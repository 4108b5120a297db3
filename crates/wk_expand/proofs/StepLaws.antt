-- What a step says of other sources.
use Rattle.std.proofs.Common.{◌≡◌, [], ◌∷◌, ◌++◌, Some, ap, subst, inl, inr, ◌∙◌}
use Rattle.std.proofs.lemmas.Bool.{cases_Bool}
use Rattle.std.proofs.lemmas.List.Elements.{All-head, All-tail, All-weaker}
use Rattle.wk_text_rules.specs.Titles.{PageTitle, title_eq}
use Rattle.wk_view_laws.proofs.PlanLemmas.{both_parts, kind_eq-true, title_eq-true}
use Rattle.wk_view_rules.specs.Plans.{Outcome, done, need, reads_of}
use Rattle.wk_view_rules.specs.Worlds.{Answer, Read, Seen, Source, Agrees, ask, is_read_of, kind_eq, of_seen}
use Rattle.wk_view_rules.specs.declared.Kind.{Kind}
use Rattle.wk_expand.specs.Running.{needed}

-- an end that needs a pair
pub need-is : {A : Type 0} (o : Outcome A) (title : PageTitle) (kind : Kind) → needed o ≡ Some (title, kind) → o ≡ need title kind (reads_of o)
need-is (done x reads) title kind e = cc
need-is (need wanted wanted_kind reads) title kind e =
    let pair : (wanted, wanted_kind) ≡ (title, kind) = cc in
    ap (λ (p : PageTitle × Kind). need p.0 p.1 reads) pair

-- what agrees with all that was seen answers as what was seen
pub answers-seen : (source : Source) (seen : Seen) (title : PageTitle) (kind : Kind) (answer : Answer) → Agrees source seen → ask (of_seen seen) title kind ≡ Some answer → ask source title kind ≡ Some answer
answers-seen source [] title kind answer agrees e = cc
answers-seen source (r ∷ seen) title kind answer agrees e = elim (cases_Bool (is_read_of title kind r)) [
  | inl there ↦
      let found : Some r.answer ≡ Some answer = rw there at e in
      let parts = both_parts (title_eq r.title title) (kind_eq r.kind kind) there in
      subst (λ t. ask source t kind ≡ Some answer) (title_eq-true r.title title parts.0)
      (subst (λ k. ask source r.title k ≡ Some answer) (kind_eq-true r.kind kind parts.1)
      (All-head (λ (q : Read). ask source q.title q.kind ≡ Some q.answer) r seen agrees ∙ found))
  | inr missing ↦ answers-seen source seen title kind answer (All-tail (λ (q : Read). ask source q.title q.kind ≡ Some q.answer) r seen agrees) (rw missing at e)
]

pub agrees-seen : (source : Source) (seen reads : Seen) → Agrees source seen → Agrees (of_seen seen) reads → Agrees source reads
agrees-seen source seen reads agrees answered k d within = answers-seen source seen _ _ _ agrees (answered k d within)

-- what was seen, with more behind it, answers as before
ask-longer : (seen more : Seen) (title : PageTitle) (kind : Kind) (answer : Answer) → ask (of_seen seen) title kind ≡ Some answer → ask (of_seen (seen ++ more)) title kind ≡ Some answer
ask-longer [] more title kind answer e = cc
ask-longer (r ∷ seen) more title kind answer e = elim (cases_Bool (is_read_of title kind r)) [
  | inl there ↦ let found : Some r.answer ≡ Some answer = rw there at e in rw there found
  | inr missing ↦ rw missing (ask-longer seen more title kind answer (rw missing at e))
]

pub longer-agrees : (seen more reads : Seen) → Agrees (of_seen seen) reads → Agrees (of_seen (seen ++ more)) reads
longer-agrees seen more reads h =
    All-weaker (λ (r : Read). ask (of_seen seen) r.title r.kind ≡ Some r.answer) (λ (r : Read). ask (of_seen (seen ++ more)) r.title r.kind ≡ Some r.answer)
    (λ r e. ask-longer seen more r.title r.kind r.answer e) reads h
