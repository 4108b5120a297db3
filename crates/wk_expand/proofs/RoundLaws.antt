-- What a step says with more seen, and that rounds of drafting come to an end.
use Rattle.std.proofs.Common.{◌≡◌, ℕ, zero, suc, ◌+◌, ◌<◌, ◌≤◌, true, false, IsTrue, List, [], ◌∷◌, ◌++◌, length, Some, None, arith, inl, inr, refl, sym, ap, subst, ◌∙◌}
use Rattle.std.specs.List.{list_any}
use Rattle.wk_text_rules.specs.Titles.{PageTitle}
use Rattle.wk_view_laws.proofs.PlanLemmas.{agrees-itself, done-elsewhere, need-elsewhere}
use Rattle.wk_view_laws.proofs.RoundLemmas.{ask-last, length-leads, need-text, need-unanswered, need-view, unanswered-unread}
use Rattle.wk_view_laws.proofs.ViewLemmas.{length-text, length-view}
use Rattle.wk_view_rules.specs.Plans.{reads_of, NeedsOrReads}
use Rattle.wk_view_rules.specs.Worlds.{Agrees, Answer, Seen, ask, is_read_of, of_seen}
use Rattle.wk_view_rules.specs.declared.Kind.{Kind}
use Rattle.wk_expand.specs.Answers.{read_with}
use Rattle.wk_expand.specs.Drafts.{DraftShown, drafted, plan_of}
use Rattle.wk_expand.specs.Rounds.{IsRound, IsSeenAfter}
use Rattle.wk_expand.specs.Running.{needed}
use Rattle.wk_expand.specs.Steps.{IsStep, given_text}
use Rattle.wk_expand.specs.declared.drafts.Root.{Root}
use Rattle.wk_expand.specs.declared.drafts.Root.TheVariants.{Page, Given}
use Rattle.wk_expand.specs.declared.drafts.Step.TheVariants.{Done, Needs}
use Rattle.wk_expand.proofs.DraftLaws.{nothing-agrees}
use Rattle.wk_expand.proofs.StepLaws.{longer-agrees, need-is}

-- what is read of a page, or of a given text, by what was seen
abbrev pub read_by : Seen → PageTitle → Root → Seen
read_by seen page root = reads_of (drafted (of_seen seen) page (given_text root))

-- what was seen answers it
pub own-reads : (seen : Seen) (page : PageTitle) (root : Root) → Agrees (of_seen seen) (read_by seen page root)
own-reads seen page root = agrees-itself (of_seen seen) (plan_of page (given_text root)) [] (nothing-agrees seen)

-- and so does what was seen with more behind it
longer-reads : (seen more : Seen) (page : PageTitle) (root : Root) → Agrees (of_seen (seen ++ more)) (read_by seen page root)
longer-reads seen more page root = longer-agrees seen more (read_by seen page root) (own-reads seen page root)

-- ---- with more seen

-- by what answers alike all that was read for a draft, it is the same draft
pub done-by : (page : PageTitle) (root : Root) (seen known : Seen) (d : DraftShown) → Agrees (of_seen known) (read_by seen page root) → IsStep page root seen (Done d) → IsStep page root known (Done d)
done-by page root seen known d alike step =
    let agrees : Agrees (of_seen known) d.reads = subst (λ o. Agrees (of_seen known) (reads_of o)) step.2 alike in (
      step.0,
      step.1,
      done-elsewhere (of_seen seen) (of_seen known) (plan_of page (given_text root)) [] d.expanded d.reads (nothing-agrees seen) agrees step.2,
    )

-- and a need is the same, or it is among what is read then
need-by : (page title : PageTitle) (root : Root) (seen known : Seen) (kind : Kind) → Agrees (of_seen known) (read_by seen page root) → IsStep page root seen (Needs title kind) → NeedsOrReads title kind (read_by seen page root) (drafted (of_seen known) page (given_text root))
need-by page title root seen known kind alike step =
    need-elsewhere (of_seen seen) (of_seen known) (plan_of page (given_text root)) [] title kind (read_by seen page root) (nothing-agrees seen) alike
    (need-is (drafted (of_seen seen) page (given_text root)) title kind step)

pub needed-by : (page title : PageTitle) (root : Root) (seen known : Seen) (kind : Kind) → Agrees (of_seen known) (read_by seen page root) → IsStep page root seen (Needs title kind) → ask (of_seen known) title kind ≡ None → IsStep page root known (Needs title kind)
needed-by page title root seen known kind alike step unseen = elim (need-by page title root seen known kind alike step) [
  | inl needs ↦ ap needed needs
  | inr there ↦
      let unread : list_any (is_read_of title kind) (read_by known page root) ≡ false = unanswered-unread (of_seen known) title kind (read_by known page root) (own-reads known page root) unseen in
      absurd (let wrong : false ≡ true = sym unread ∙ there in cc)
]

pub done-longer : (page : PageTitle) (root : Root) (seen more : Seen) (d : DraftShown) → IsStep page root seen (Done d) → IsStep page root (seen ++ more) (Done d)
done-longer page root seen more d = done-by page root seen (seen ++ more) d (longer-reads seen more page root)

need-longer : (page title : PageTitle) (root : Root) (seen more : Seen) (kind : Kind) → IsStep page root seen (Needs title kind) → NeedsOrReads title kind (read_by seen page root) (drafted (of_seen (seen ++ more)) page (given_text root))
need-longer page title root seen more kind = need-by page title root seen (seen ++ more) kind (longer-reads seen more page root)

pub needed-longer : (page title : PageTitle) (root : Root) (seen more : Seen) (kind : Kind) → IsStep page root seen (Needs title kind) → ask (of_seen (seen ++ more)) title kind ≡ None → IsStep page root (seen ++ more) (Needs title kind)
needed-longer page title root seen more kind = needed-by page title root seen (seen ++ more) kind (longer-reads seen more page root)

pub read-longer : (page title : PageTitle) (root : Root) (seen more : Seen) (kind : Kind) (answer : Answer) → IsStep page root seen (Needs title kind) → ask (of_seen (seen ++ more)) title kind ≡ Some answer → IsTrue (list_any (is_read_of title kind) (read_by (seen ++ more) page root))
read-longer page title root seen more kind answer step answered = elim (need-longer page title root seen more kind step) [
  | inl needs ↦
      let none : ask (of_seen (seen ++ more)) title kind ≡ None = need-unanswered (of_seen (seen ++ more)) (plan_of page (given_text root)) [] title kind (read_by seen page root) needs in
      absurd (let wrong : None ≡ Some answer = sym none ∙ answered in cc)
  | inr there ↦ there
]

-- ---- rounds

pub seen-at_first : (page : PageTitle) (root : Root) (seen : Seen) → IsSeenAfter page root seen 0 seen
unfolding IsSeenAfter
seen-at_first page root seen = refl

pub seen-next : (page title : PageTitle) (root : Root) (first seen : Seen) (kind : Kind) (answer : Answer) (n : ℕ) → IsSeenAfter page root first n seen → IsStep page root seen (Needs title kind) → IsSeenAfter page root first (n + 1) (seen ++ read_with title kind answer ∷ [])
unfolding IsSeenAfter
seen-next page title root first seen kind answer n h step =
    let longer : Seen = seen ++ read_with title kind answer ∷ [] in
    let unanswered : ask (of_seen seen) title kind ≡ None =
    need-unanswered (of_seen seen) (plan_of page (given_text root)) [] title kind (read_by seen page root) (need-is (drafted (of_seen seen) page (given_text root)) title kind step)
    in
    let round : IsRound page root seen longer = record {
      title = title;
      kind = kind;
      needs = step;
      more = read_with title kind answer ∷ [];
      longer = refl;
      answer = answer;
      answered = ask-last seen title kind answer unanswered;
    }
    in
    let after : IsSeenAfter page root first (suc n) longer = (seen, h, round) in
    let one_more : suc n ≡ n + 1 = omega arith in
    subst (λ m. IsSeenAfter page root first m longer) one_more after

-- each round has one read more
reads-after : (page : PageTitle) (root : Root) (first : Seen) (n : ℕ) (seen : Seen) → IsSeenAfter page root first n seen → n ≤ length (read_by seen page root)
unfolding IsSeenAfter
reads-after page root first zero seen h = omega arith
reads-after page root first (suc n) seen h =
    let before : Seen = h.0 in
    let round : IsRound page root before seen = h.2 in
    let so_many : n ≤ length (read_by before page root) = reads-after page root first n before h.1 in
    let agrees : Agrees (of_seen seen) (read_by before page root) =
    subst (λ s. Agrees (of_seen s) (read_by before page root)) (sym round.longer) (longer-reads before round.more page root)
    in
    let one_more : length (read_by before page root) < length (read_by seen page root) =
    length-leads (of_seen before) (of_seen seen) (plan_of page (given_text root)) round.title round.kind round.answer (read_by before page root)
    (need-is (drafted (of_seen before) page (given_text root)) round.title round.kind round.needs) agrees round.answered
    in
    omega (arith, so_many, one_more)

pub text_rounds-end : (page : PageTitle) (text : List ℕ) (first seen : Seen) (n : ℕ) → IsSeenAfter page (Given text) first n seen → n ≤ 1000000
text_rounds-end page text first seen n h =
    let few : length (read_by seen page (Given text)) ≤ 1000000 = length-text (of_seen seen) page text [] in
    omega (arith, reads-after page (Given text) first n seen h, few)

pub rounds-end : (page : PageTitle) (root : Root) (first seen : Seen) (n : ℕ) → IsSeenAfter page root first n seen → n ≤ 1000001
rounds-end page Page first seen n h =
    let few : length (read_by seen page Page) ≤ 1000001 = length-view (of_seen seen) page in
    omega (arith, reads-after page Page first n seen h, few)
rounds-end page (Given text) first seen n h = omega (arith, text_rounds-end page text first seen n h)

pub text_needs-end : (page title : PageTitle) (text : List ℕ) (first seen : Seen) (kind : Kind) (n : ℕ) → IsSeenAfter page (Given text) first n seen → IsStep page (Given text) seen (Needs title kind) → n < 1000000
text_needs-end page title text first seen kind n h step =
    let few : length (read_by seen page (Given text)) < 1000000 = need-text (of_seen seen) page text [] title kind (read_by seen page (Given text)) (need-is (drafted (of_seen seen) page (Some text)) title kind step) in
    omega (arith, reads-after page (Given text) first n seen h, few)

pub needs-end : (page title : PageTitle) (root : Root) (first seen : Seen) (kind : Kind) (n : ℕ) → IsSeenAfter page root first n seen → IsStep page root seen (Needs title kind) → n < 1000001
needs-end page title Page first seen kind n h step =
    let few : length (read_by seen page Page) < 1000001 = need-view (of_seen seen) page title kind (read_by seen page Page) (need-is (drafted (of_seen seen) page None) title kind step) in
    omega (arith, reads-after page Page first n seen h, few)
needs-end page title (Given text) first seen kind n h step = omega (arith, text_needs-end page title text first seen kind n h step)
