use Rattle.std.proofs.Common.{None, subst}
use Rattle.std.specs.Prelude.{IfOk}
use Rattle.wk_wiki_rules.specs.States.{world_of}
use Rattle.wk_expand.specs.Steps.{given_text}
use Rattle.wk_live.specs.Drafted.{IsPresent}
use Rattle.wk_shared.proofs.KeepLaws.{drafted-lasting}
use Rattle.wk_shared.proofs.keeping.keep_drafted.Goals as goal

pub keep-requires : goal.keep-requires
keep-requires g c =
    let wiki = c.args.wiki.now in
    let own = subst (λ r. IfOk c.args.draft.now (IsPresent (world_of wiki.state) c.args.title.now (given_text r))) c.in-Page.is c.requires.present in
    let here = subst (λ r. IfOk r (IsPresent (world_of wiki.state) c.args.title.now None)) c.in-Ok.is own in
    drafted-lasting wiki.start wiki.journal wiki.state c.args.title.now c.in-Ok.draft c.point-point.result c.args.id c.facts.ensures.run here c.point-point.ensures c.requires.number
