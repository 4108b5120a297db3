-- How a step begins behind the turn.
use Rattle.std.proofs.Common.{◌≡◌, ℕ, Bool, List, length, Option, Some, None, refl, sym, ◌∙◌, subst}
use Rattle.std.specs.Prelude.{IfSome}
use Rattle.wk_table_rules.specs.Rows.{StoreTables}
use Rattle.wk_wiki_rules.specs.Events.{Event}
use Rattle.wk_wiki_rules.specs.Entries.{closes}
use Rattle.wk_wiki_rules.specs.Starts.{Start}
use Rattle.wk_core.specs.Seen.{WikiSeen}
use Rattle.wk_core.specs.Steps.{HasMadeAtMost}
use Rattle.wk_turn.specs.Told.{Begun, IsOf, Story}
use Rattle.wk_shared.specs.Calls.{HasSeen}
use Rattle.wk_shared.specs.Desk.{ClosesOpen, IsGiven, IsTaken, MakesAtMostOne, TellsOf}
use Rattle.wk_shared.proofs.Made.{has-seen, holds-claimed, is-made, makes}
use Rattle.wk_shared.proofs.Outcomes.{Outcome, may-fail}
use Rattle.wk_readers.specs.Beginnings.{BeginningTold, HasBegun, HoldsClaim, IsBegunOn}
use Rattle.wk_readers.specs.declared.beginning.Beginning.{Beginning}
use Rattle.wk_readers.specs.declared.beginning.Beginning.TheVariants as beginning

abbrev Pass : Type 0
Pass = Story Start Event

opens-closes : (journal : List Event) (own : List ℕ) (event : Option Event) → IfSome event (λ e. closes e ≡ None) → ClosesOpen journal own event
opens-closes journal own None opens = tt
opens-closes journal own (Some event) opens = λ p e. absurd (let wrong : None ≡ Some p = sym opens ∙ e in cc)

-- the point that is told is the length of what was seen
pub seen-last : (shared : Begun Start) (old new : Pass) (point : ℕ) → HasSeen shared old new point → HasSeen shared old new (length new.seen)
seen-last shared old new point seen = record {
  turn = seen.turn;
  free = seen.free;
  tells = refl;
  seen = seen.seen;
  state = seen.state;
  run = seen.run;
}

module _ {K : Type 0} (told : K → Option StoreTables) (is_whole : K → Bool) (faults : K → ℕ) (shared : Begun Start) (old mid : Pass) (wiki after : WikiSeen K) (taken : IsTaken shared old mid wiki)
    (tells : TellsOf is_whole faults wiki.start wiki.keeper) (b : Beginning) (begun : IsBegunOn told faults wiki after b) where
  outcome : Outcome told old.own wiki after (BeginningTold b)
  outcome = record {
    event = begun.event;
    made = begun.made;
    closing = opens-closes wiki.journal old.own begun.event begun.opens;
    call = begun.call;
  }

  pub makes-one : (before : WikiSeen K) → before ≡ wiki → MakesAtMostOne mid.own before after
  makes-one before same = makes told shared old mid wiki after taken (BeginningTold b) before same outcome

  module _ (new : Pass) (before : WikiSeen K) (point : ℕ) (of : IsOf shared old) (same : before ≡ wiki) (back : IsGiven mid new before after point) where
    holds : (c : Beginning) → IsBegunOn told faults wiki after c → b ≡ c → HoldsClaim shared.start new c
    holds (beginning.Idle claimed) is e = tt
    holds (beginning.Fanned fanned) is e = tt
    holds (beginning.Claimed ticket) is e =
        holds-claimed told shared old mid wiki after taken new before point of same back (BeginningTold b) outcome ticket is.call.claim.claimed
        (subst (HasMadeAtMost told wiki after) is.call.claim.made is.made) is.out
    holds beginning.JournalFull is e = tt
    holds beginning.StoreFault is e = tt
    holds beginning.Memory is e = tt

    pub has-begun : HasBegun shared old new b
    has-begun = record {
      pass = seen-last shared old new point (has-seen told shared old mid wiki after taken new before point of same back (BeginningTold b) outcome);
      call = is-made told shared old mid wiki after taken new before point of same back (BeginningTold b) outcome;
      ticket = holds b begun refl;
      fault = λ e. may-fail is_whole faults shared.start wiki after taken.start tells begun.whole (begun.fault e);
    }
