use Rattle.std.proofs.Common.{◌≡◌, Some, sym, ap, subst}
use Rattle.wk_view_rules.specs.Worlds.{Agrees, of_seen}
use Rattle.wk_expand.specs.Drafts.{drafted}
use Rattle.wk_expand.specs.Machines.{MachineShown}
use Rattle.wk_expand.specs.Running.{needed}
use Rattle.wk_expand.specs.Runs.{IsDriven}
use Rattle.wk_expand.specs.declared.machine.Driven.{Driven}
use Rattle.wk_expand.proofs.DraftLaws.{unseen-by}
use Rattle.wk_expand.proofs.machine.Machine.run.Goals as goal

pub drive-requires-clause-answered : goal.drive-requires-clause-answered
drive-requires-clause-answered c = subst (λ (m : MachineShown). Agrees (of_seen c.args.seen.now) m.reads) (sym c.self.view_is) c.requires

pub returns-in-Ok-Stopped-clause-ran : goal.returns-in-Ok-Stopped-clause-ran
returns-in-Ok-Stopped-clause-ran c =
    let seen = c.args.seen.now in
    let m = c.args.self in
    let title = c.in-Ok-Stopped.title in
    let kind = c.in-Ok-Stopped.kind in
    let driven = subst (λ (d : Driven). IsDriven c.self.inside.page c.self.inside.given seen d) c.in-Ok-Stopped.field-0-is c.in-Ok-Stopped.ensures in
    let needs = subst (λ (x : MachineShown). needed (drafted (of_seen seen) x.page x.given) ≡ Some (title, kind)) c.self.view_is driven.0 in (
      record {
        needed_is = needs;
        unseen = unseen-by seen m.page title m.given kind (λ root e. c.steps_tell_of_worlds.ensures.unanswered m.page title root seen kind e) needs;
      },
      ap (λ (x : MachineShown). x.page) c.self.view_is,
      ap (λ (x : MachineShown). x.given) c.self.view_is,
      driven.1,
    )
