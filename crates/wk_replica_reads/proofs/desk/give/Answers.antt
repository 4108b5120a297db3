use Rattle.std.proofs.Common.{◌≡◌, ℕ, List, [], ◌++◌, None, sym, ap, subst, ◌∙◌}
use Rattle.std.proofs.lemmas.List.{append-nil}
use mathlib.Core.List.{IsPrefix}
use Rattle.wk_wiki_rules.specs.Events.{Event}
use Rattle.wk_turn.specs.Journal.{added}
use Rattle.wk_turn.proofs.Closing.{added_none}
use Rattle.wk_turn.proofs.Lists.{prefix_self}
use Rattle.wk_replica.specs.Replicas.{ReplicaSeen}
use Rattle.wk_replica_reads.proofs.TakeLaws.{closes-none}
use Rattle.wk_replica_reads.proofs.desk.give.Goals as goal

pub leave-requires-clause-journal : goal.leave-requires-clause-journal
leave-requires-clause-journal c =
    subst (λ (j : List Event). IsPrefix j c.args.held.value.journal) (sym (ap (λ (r : ReplicaSeen). r.journal) c.requires.same)) (prefix_self c.args.held.value.journal)

pub leave-requires-clause-closes : goal.leave-requires-clause-closes
leave-requires-clause-closes c = closes-none c.args.held.before.value.journal c.args.held.value.journal c.args.pass.now.own

pub returns : goal.returns
returns c =
    let journal = c.args.held.value.journal in
    let none : added c.args.held.before.value.journal journal ≡ [] = subst (λ (j : List Event). added j journal ≡ []) (sym (ap (λ (r : ReplicaSeen). r.journal) c.requires.same)) (added_none journal) in
    let own : c.args.pass.now.own ++ added c.args.held.before.value.journal journal ≡ c.args.pass.now.own = ap (λ (a : List ℕ). c.args.pass.now.own ++ a) none ∙ append-nil c.args.pass.now.own in
    c.leave.ensures.pass ∙ ap (λ (o : List ℕ). record c.args.pass.now { seen = journal; own = o; held = None }) own
