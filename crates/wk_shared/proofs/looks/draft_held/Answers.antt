use Rattle.wk_shared.proofs.LookLaws.{looked-as}
use Rattle.wk_shared.proofs.looks.draft_held.Goals as goal

pub returns : goal.returns
returns g c =
    let wiki = c.take-held.result.value in (
      wiki.state,
      looked-as c.args.shared.now c.args.pass.now c.take-held.new.pass wiki c.take-held.ensures.taken c.requires.turn c.give.new.pass c.keep_drafted.new.wiki c.keep_drafted.ensures c.give.ensures,
      c.number_of-id.ensures,
      c.drafted_now-draft.ensures,
    )
