-- Lines that are taken of a replica, and what comes of them behind the turn.
use Rattle.std.proofs.Common.{◌≡◌, ℕ, true, false, List, [], ◌∷◌, ◌++◌, Option, Some, None, refl, sym, ap, ◌∙◌, subst, inl, inr}
use Rattle.std.specs.Prelude.{IsSome, IsUtf8, Result, Ok, Err, option_and_then}
use mathlib.Core.List.{IsPrefix}
use Rattle.wk_text_rules.specs.Titles.{PageTitle, title_eq}
use Rattle.wk_view_laws.proofs.PlanLemmas.{title_eq-true}
use Rattle.wk_wiki_rules.specs.Claims.{ClaimOutcome}
use Rattle.wk_wiki_rules.specs.Events.{Event}
use Rattle.wk_feed_rules.specs.Lines.{FeedLine}
use Rattle.wk_feed_rules.specs.Reading.{said}
use Rattle.wk_feed_rules.specs.Taking.{line_taken}
use Rattle.wk_turn.specs.Journal.{ClosesOwn, added}
use Rattle.wk_turn.specs.Told.{Begun, IsOf}
use Rattle.wk_turn.proofs.Lists.{prefix_self, prefix_trans}
use Rattle.wk_replica.specs.Replicas.{ReplicaBegun, ReplicaSeen, so_far}
use Rattle.wk_replica.specs.Taken.{GoesOn, IsLeft, IsTaken, IsTakenLine}
use Rattle.wk_replica.specs.declared.refusal.TakeRefusal.{TakeRefusal}
use Rattle.wk_replica.specs.declared.refusal.TakeRefusal.TheVariants.{BadLine, Memory}
use Rattle.wk_replica_reads.specs.Looks.{HasRead, IsFree, IsHeld}
use Rattle.wk_replica_reads.specs.Taking.{AreRunning, DoesLine, DoesSaidLine, IsDoneIn, IsRunning, TakesLine, TakesSaidLine}
use Rattle.wk_replica_reads.proofs.LookLaws.{Pass, read-both}

-- ---- in the replica

-- a line is what it says
takes-said : (old new : ReplicaSeen) (line : List ℕ) (told : FeedLine) (result : Result (Unit {0}) TakeRefusal) → IsUtf8 line → said line ≡ Some told → IsTaken old told new result → IsTakenLine old line new result
takes-said old new line told (Ok end) text is t = record {
  text = text;
  told = ap (option_and_then (line_taken (so_far old))) is ∙ t.told;
  goes_on = t.goes_on;
}
takes-said old new line told (Err (BadLine number)) text is t = (t.0, λ _. ap (option_and_then (line_taken (so_far old))) is ∙ t.1, t.2)
takes-said old new line told (Err Memory) text is t = t

does-said : (old new : ReplicaSeen) (line : List ℕ) (told : FeedLine) (result : Result (Unit {0}) TakeRefusal) → IsUtf8 line → said line ≡ Some told → DoesSaidLine old told new result → DoesLine old line new result
does-said old new line told result text is d = (takes-said old new line told result text is d.0, d.1)

-- the journal leads to the state before and behind a line
module _ (old new : ReplicaSeen) (going : old.stopped ≡ false) (before : old.stopped ≡ false → IsRunning old) (behind : new.stopped ≡ false → IsRunning new) where
  as-before : new ≡ old → IsRunning new
  as-before same = subst IsRunning (sym same) (before going)

  pub said-runs : (told : FeedLine) (result : Result (Unit {0}) TakeRefusal) → IsTaken old told new result → AreRunning old new result
  said-runs told (Ok end) t = (before going, behind t.goes_on.going)
  said-runs told (Err (BadLine number)) t = (before going, as-before t.2)
  said-runs told (Err Memory) t = tt

  pub line-runs : (line : List ℕ) (result : Result (Unit {0}) TakeRefusal) → IsTakenLine old line new result → AreRunning old new result
  line-runs line (Ok end) t = (before going, behind t.goes_on.going)
  line-runs line (Err (BadLine number)) t = (before going, as-before t.2)
  line-runs line (Err Memory) t = tt

-- the page of the ticket that is out
pub ticket-page : (at : Option ClaimOutcome) (out : ClaimOutcome) (page shown named : PageTitle) → Some out ≡ at → shown ≡ page → named ≡ out.title → title_eq shown named ≡ true
    → (other : ClaimOutcome) → at ≡ Some other → page ≡ other.title
ticket-page at out page shown named is same_page same_title same other there =
    let both : Some out ≡ Some other = is ∙ there in
    let one : out ≡ other = cc in
    sym same_page ∙ (title_eq-true shown named same ∙ (same_title ∙ ap (λ (t : ClaimOutcome). t.title) one))

-- ---- the start stays, and the journal goes on

some-line : (line : Option ℕ) → IsSome line → (number : ℕ) × (line ≡ Some number)
some-line None is = absurd (let e : false ≡ true = is in cc)
some-line (Some number) is = (number, refl)

-- once the start was told
abbrev pub Begins : ReplicaSeen → ReplicaSeen → Type 0
Begins old new = (new.start ≡ old.start) × IsPrefix old.journal new.journal

module _ (old new : ReplicaSeen) where
  one-more : GoesOn old new → Begins old new
  one-more goes = (goes.start, (goes.event ∷ [], sym goes.journal))

  same-begins : new ≡ old → Begins old new
  same-begins same = (ap (λ (r : ReplicaSeen). r.start) same, subst (λ (r : ReplicaSeen). IsPrefix old.journal r.journal) (sym same) (prefix_self old.journal))

  left-begins : IsLeft old new → Begins old new
  left-begins (inl same) = same-begins same
  left-begins (inr stopped) =
      (ap (λ (r : ReplicaSeen). r.start) stopped, subst (λ (r : ReplicaSeen). IsPrefix old.journal r.journal) (sym stopped) (prefix_self old.journal))

  pub said-begins : (told : FeedLine) (result : Result (Unit {0}) TakeRefusal) → IsSome old.start.line → IsTaken old told new result → Begins old new
  said-begins told (Ok end) begun t = let at = some-line old.start.line begun in one-more (t.goes_on.event at.0 at.1)
  said-begins told (Err (BadLine number)) begun t = same-begins t.2
  said-begins told (Err Memory) begun t = left-begins t

  pub line-begins : (line : List ℕ) (result : Result (Unit {0}) TakeRefusal) → IsSome old.start.line → IsTakenLine old line new result → Begins old new
  line-begins line (Ok end) begun t = let at = some-line old.start.line begun in one-more (t.goes_on.event at.0 at.1)
  line-begins line (Err (BadLine number)) begun t = same-begins t.2
  line-begins line (Err Memory) begun t = left-begins t

-- no event of a replica closes one
pub closes-none : (before after : List Event) (own : List ℕ) → ClosesOwn (λ (e : Event). None) before after own
closes-none before after own = λ q p later closed. absurd (let e : None ≡ Some p = closed.2 in cc)

-- ---- behind the turn

module _ (shared : Begun ReplicaBegun) (old mid : Pass) (before : ReplicaSeen) (took : IsHeld shared old mid before) where
  pub begun-here : IsSome shared.start.line → IsSome before.start.line
  begun-here begun = subst (λ (s : ReplicaBegun). IsSome s.line) (sym took.start) begun

  module _ (after held : ReplicaSeen) (new : Pass) (same : held ≡ before) (back : new ≡ record mid { seen = after.journal; own = mid.own ++ added held.journal after.journal; held = None }) where
    pub done-free : IsOf shared old → IsFree shared new
    done-free of = record {
      turn = (ap (λ (p : Pass). p.turn) back ∙ (ap (λ (p : Pass). p.turn) took.pass ∙ of.0), ap (λ (p : Pass). p.start) back ∙ (ap (λ (p : Pass). p.start) took.pass ∙ of.1));
      free = ap (λ (p : Pass). p.held) back;
    }

    pub done-in : (Done : ReplicaSeen → ReplicaSeen → Type 0) → Done before after → IsDoneIn shared old new Done
    done-in Done did = record {
      before = before;
      after = after;
      start = took.start;
      seen = took.seen;
      did = did;
      all = ap (λ (p : Pass). p.seen) back;
      own = ap (λ (p : Pass). p.own) back ∙ (let t = took.pass in let s = same in λ i. (t i).own ++ added (s i).journal after.journal);
    }

-- what was done behind a look
done-since : (shared : Begun ReplicaBegun) (old mid new : Pass) (Done : ReplicaSeen → ReplicaSeen → Type 0) → HasRead shared old mid → IsDoneIn shared mid new Done → IsDoneIn shared old new Done
done-since shared old mid new Done looked d = record {
  before = d.before;
  after = d.after;
  start = d.start;
  seen = prefix_trans old.seen mid.seen d.before.journal looked.seen d.seen;
  did = d.did;
  all = d.all;
  own = d.own ∙ ap (λ (l : List ℕ). l ++ added d.before.journal d.after.journal) looked.own;
}

pub said-since : (shared : Begun ReplicaBegun) (old mid new : Pass) (told : FeedLine) (result : Result (Unit {0}) TakeRefusal) → HasRead shared old mid → TakesSaidLine shared mid new told result → TakesSaidLine shared old new told result
said-since shared old mid new told result looked (inl d) = inl (done-since shared old mid new (λ before after. DoesSaidLine before told after result) looked d)
said-since shared old mid new told result looked (inr wanting) = inr (read-both shared old mid new looked wanting.0, wanting.1)

pub line-since : (shared : Begun ReplicaBegun) (old mid new : Pass) (line : List ℕ) (result : Result (Unit {0}) TakeRefusal) → HasRead shared old mid → TakesLine shared mid new line result → TakesLine shared old new line result
line-since shared old mid new line result looked (inl d) = inl (done-since shared old mid new (λ before after. DoesLine before line after result) looked d)
line-since shared old mid new line result looked (inr wanting) = inr (read-both shared old mid new looked wanting.0, wanting.1)

-- a line by what it says
pub line-said : (shared : Begun ReplicaBegun) (old new : Pass) (line : List ℕ) (told : FeedLine) (result : Result (Unit {0}) TakeRefusal) → IsUtf8 line → said line ≡ Some told → TakesSaidLine shared old new told result → TakesLine shared old new line result
line-said shared old new line told result text is (inl d) = inl (record {
  before = d.before;
  after = d.after;
  start = d.start;
  seen = d.seen;
  did = does-said d.before d.after line told result text is d.did;
  all = d.all;
  own = d.own;
})
line-said shared old new line told result text is (inr wanting) = inr wanting
