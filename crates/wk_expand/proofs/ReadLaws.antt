-- What is read, and how it is noted.
use Rattle.std.proofs.Common.{◌≡◌, true, false, List, [], ◌∷◌, ◌++◌, Option, Some, None, refl, sym, ap, subst, ◌∙◌, inl, inr}
use Rattle.std.specs.List.{list_any}
use Rattle.std.proofs.lemmas.Bool.{cases_Bool}
use Rattle.wk_text_rules.specs.Titles.{PageTitle}
use Rattle.wk_view_rules.specs.Expansions.{give, answer_to, Progress}
use Rattle.wk_view_rules.specs.Plans.{gives, noted, run}
use Rattle.wk_view_rules.specs.Worlds.{Answer, Agrees, Read, Seen, of_seen, ask, is_read_of}
use Rattle.wk_view_rules.specs.declared.Kind.{Kind}
use Rattle.wk_view_laws.proofs.PlanLemmas.{agrees-before, met, noted-agrees, noted-has, run-asks, same_answer}
use Rattle.wk_expand.specs.Answers.{read_with}
use Rattle.wk_expand.specs.State.{progress_of}
use Rattle.wk_expand.specs.Running.{goes, needed, ComesTo, IsMissing, StopsAt}
use Rattle.wk_expand.specs.declared.state.Expander.{Expander}
use Rattle.wk_expand.specs.declared.state.Stop.{Stop}
use Rattle.wk_expand.specs.declared.state.Stop.TheVariants.{Needs, Memory}

-- whether there is an answer
answered : (reads : List Read) (title : PageTitle) (kind : Kind) → (o : Option Answer) → ask (of_seen reads) title kind ≡ o → list_any (is_read_of title kind) reads ≡ (elim o [ None ↦ false | Some answer ↦ true ])
answered [] title kind None e = refl
answered [] title kind (Some answer) e = cc
answered (r ∷ reads) title kind o e = elim (cases_Bool (is_read_of title kind r)) [
  | inl there ↦
      let found : Some r.answer ≡ o = rw there at e in
      rw there (ap (λ (o : Option Answer). elim o [ None ↦ false | Some answer ↦ true ]) found)
  | inr missing ↦ rw missing (answered reads title kind o (rw missing at e))
]

pub noted-there : (reads : List Read) (title : PageTitle) (kind : Kind) (answer other : Answer) → ask (of_seen reads) title kind ≡ Some other → reads ≡ noted reads (read_with title kind answer)
noted-there reads title kind answer other e =
    let there : list_any (is_read_of title kind) reads ≡ true = answered reads title kind (Some other) e in
    rw there refl

pub noted-absent : (reads : List Read) (title : PageTitle) (kind : Kind) (answer : Answer) → ask (of_seen reads) title kind ≡ None → reads ++ read_with title kind answer ∷ [] ≡ noted reads (read_with title kind answer)
noted-absent reads title kind answer e =
    let absent : list_any (is_read_of title kind) reads ≡ false = answered reads title kind None e in
    rw absent refl

answer-seen : (seen : Seen) (title : PageTitle) (kind : Kind) (answer : Answer) (s t : Expander) → ask (of_seen seen) title kind ≡ Some answer → t.reads ≡ noted s.reads (read_with title kind answer) → progress_of t ≡ progress_of s → goes seen (answer_to title kind) s ≡ goes seen (give answer) t
answer-seen seen title kind answer s t found reads progress =
    run-asks (of_seen seen) title kind (λ a. gives (a, progress_of s)) s.reads
    ∙ ap (met (of_seen seen) title kind (λ a. gives (a, progress_of s)) s.reads) found
    ∙ ap (λ (p : Progress). run (of_seen seen) (gives (answer, p)) (noted s.reads (read_with title kind answer))) (sym progress)
    ∙ ap (λ (r : List Read). run (of_seen seen) (gives (answer, progress_of t)) r) (sym reads)

-- an answer is noted
pub answer-comes : (seen : Seen) (title : PageTitle) (kind : Kind) (answer : Answer) (s t : Expander) → ask (of_seen seen) title kind ≡ Some answer → t.page ≡ s.page → t.levels ≡ s.levels → t.reads ≡ noted s.reads (read_with title kind answer) → progress_of t ≡ progress_of s → ComesTo seen (answer_to title kind) s (give answer) t
answer-comes seen title kind answer s t found page levels reads progress = record {
  same = record { page = page; levels = levels };
  passes = λ agrees.
      let r = read_with title kind answer in
      let here : Agrees (of_seen seen) (noted s.reads r) = noted-agrees (of_seen seen) s.reads r agrees found in
      record {
        goes_on = λ later h.
            let there : Agrees (of_seen later) (noted s.reads r) = subst (Agrees (of_seen later)) reads h in
            let alike : ask (of_seen seen) title kind ≡ ask (of_seen later) title kind =
            same_answer (of_seen seen) (of_seen later) (noted s.reads r) title kind here there (noted-has s.reads r)
            in
            answer-seen later title kind answer s t (sym alike ∙ found) reads progress;
        grows = λ later h. agrees-before (of_seen later) s.reads r (subst (Agrees (of_seen later)) reads h);
        answered = subst (Agrees (of_seen seen)) (sym reads) here;
      };
}

answer-missing : (seen : Seen) (title : PageTitle) (kind : Kind) (s : Expander) → ask (of_seen seen) title kind ≡ None → needed (goes seen (answer_to title kind) s) ≡ Some (title, kind)
answer-missing seen title kind s missing =
    ap needed (run-asks (of_seen seen) title kind (λ a. gives (a, progress_of s)) s.reads ∙ ap (met (of_seen seen) title kind (λ a. gives (a, progress_of s)) s.reads) missing)

-- no answer was seen, or memory ran out
pub answer-stops : (seen : Seen) (title : PageTitle) (kind : Kind) (s : Expander) (stop : Stop) → IsMissing seen title kind stop → StopsAt seen (answer_to title kind) s stop
answer-stops seen title kind s (Needs wanted wanted_kind) h = λ agrees.
    answer-missing seen title kind s h.0 ∙ ap (λ (p : PageTitle × Kind). Some p) (λ i. (sym h.1 i, sym h.2 i))
answer-stops seen title kind s Memory h = λ agrees. tt
