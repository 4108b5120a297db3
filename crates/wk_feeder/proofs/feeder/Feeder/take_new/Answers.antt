use Rattle.std.proofs.Common.{ℕ, ◌≡◌, ◌≤◌, ◌++◌, List, [], length, ap, sym, subst, ◌∙◌, append-nil}
use Rattle.wk_turn.specs.Journal.{ClosesOwn, added}
use Rattle.wk_turn.proofs.Closing.{adds_none, added_none}
use Rattle.wk_wiki_rules.specs.Events.{Event}
use Rattle.wk_wiki_rules.specs.Entries.{closes}
use Rattle.wk_wiki_rules.specs.Starts.{Start}
use Rattle.wk_feeder.specs.Feeders.{FeederSeen}
use Rattle.wk_feeder.proofs.feeder.Feeder.take_new.Goals as goal

pub leave-requires-clause-journal : goal.leave-requires-clause-journal
leave-requires-clause-journal g c = ([], append-nil _ ∙ ap (λ w. w.journal) c.enter-held.ensures.before)

pub leave-requires-clause-closes : goal.leave-requires-clause-closes
leave-requires-clause-closes g c =
    let after = c.enter-held.result.value.journal in
    subst (λ (before : List Event). ClosesOwn closes before after c.enter-held.new.pass.own) (sym (ap (λ w. w.journal) c.enter-held.ensures.before)) (adds_none closes after c.enter-held.new.pass.own)

same-own : {E : Type 0} (before after : List E) (own : List ℕ) → before ≡ after → own ++ added before after ≡ own
same-own before after own same = ap (λ l. own ++ added l after) same ∙ ap (λ l. own ++ l) (added_none after) ∙ append-nil own

pub returns-clause-own : goal.returns-clause-own
returns-clause-own g c = ap (λ p. p.own) c.leave.ensures.pass ∙ same-own _ _ _ (ap (λ w. w.journal) c.enter-held.ensures.before) ∙ ap (λ p. p.own) c.enter-held.ensures.pass ∙ ap (λ f. f.pass.own) c.self.view_is

pub returns-clause-within : goal.returns-clause-within
returns-clause-within g c = subst (λ (f : FeederSeen Start Event). f.sent ≤ length f.pass.seen) c.self.view_is c.self.invariant
