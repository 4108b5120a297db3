use Rattle.std.proofs.Common.{ap, ◌∙◌}
use Rattle.wk_shared.specs.Looks.{is_idle}
use Rattle.wk_shared.proofs.KeepLaws.{sought-behind}
use Rattle.wk_shared.proofs.LookLaws.{looked-as, seen-as}
use Rattle.wk_shared.proofs.looks.look_for.Goals as goal

pub returns-clause-looked : goal.returns-clause-looked
returns-clause-looked g c =
    let wiki = c.take-held.result.value in let found = c.seek-sought in (
      wiki.state,
      looked-as c.args.shared.now c.args.pass.now c.take-held.new.pass c.take-held.result.value c.take-held.ensures.taken c.requires.turn c.give.new.pass found.new.wiki found.ensures.same c.give.ensures,
      sought-behind c.args.shared.now wiki.start wiki.journal c.give.new.pass c.take-held.ensures.taken.start
          (seen-as c.args.shared.now c.args.pass.now c.take-held.new.pass c.take-held.result.value c.take-held.ensures.taken c.requires.turn c.give.new.pass found.new.wiki found.ensures.same c.give.ensures) c.args.title.now wiki.state c.args.own.now found.result found.ensures.sought,
      c.looked_in-looked.ensures.idle ∙ ap (λ w. is_idle w.state) found.ensures.same,
    )
