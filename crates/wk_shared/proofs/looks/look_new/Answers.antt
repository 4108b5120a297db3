use Rattle.std.proofs.Common.{ap, ◌∙◌}
use Rattle.wk_shared.specs.Looks.{is_idle}
use Rattle.wk_shared.proofs.KeepLaws.{new-behind}
use Rattle.wk_shared.proofs.LookLaws.{looked-as, seen-as}
use Rattle.wk_shared.proofs.looks.look_new.Goals as goal

pub returns-clause-looked : goal.returns-clause-looked
returns-clause-looked g c =
    let wiki = c.take-held.result.value in let found = c.find_kept-kept in (
      wiki.state,
      looked-as c.args.shared.now c.args.pass.now c.take-held.new.pass wiki c.take-held.ensures.taken c.requires.turn c.give.new.pass found.new.wiki found.ensures.same c.give.ensures,
      c.looked_in-looked.ensures.idle ∙ ap (λ w. is_idle w.state) found.ensures.same,
    )

pub returns-clause-kept : goal.returns-clause-kept
returns-clause-kept g c =
    let wiki = c.take-held.result.value in let found = c.find_kept-kept in
    new-behind c.args.shared.now wiki.start wiki.journal c.give.new.pass c.take-held.ensures.taken.start (seen-as c.args.shared.now c.args.pass.now c.take-held.new.pass c.take-held.result.value c.take-held.ensures.taken c.requires.turn c.give.new.pass found.new.wiki found.ensures.same c.give.ensures) c.args.title.now found.result
    found.ensures.kept
