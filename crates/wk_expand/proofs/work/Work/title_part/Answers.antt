use Rattle.std.proofs.lemmas.Result.{IfOk-weaker}
use Rattle.wk_tree.specs.Parsed.{list_with, node_with}
use Rattle.wk_expand.specs.Stack.{Place}
use Rattle.wk_expand.specs.State.{current}
use Rattle.wk_expand.specs.Work.{place_of}
use Rattle.wk_expand.proofs.LeadLaws.{node-here}
use Rattle.wk_expand.proofs.PartLaws.{some_of}
use Rattle.wk_expand.proofs.WorkLaws.{going-valued}
use Rattle.wk_expand.proofs.work.Work.title_part.Goals as goal

pub plain_bound-requires-clause-node : goal.plain_bound-requires-clause-node
plain_bound-requires-clause-node c =
    let w = c.args.self.now in
    let g = c.requires.1 in
    let p : Place = place_of g.spot in
    some_of (node_with (current w.expander) c.args.node) p.node (node-here w.expander c.args.node p (record { is = g.is_place; home = g.rest_is.within }))

pub plain_bound-requires-clause-title : goal.plain_bound-requires-clause-title
plain_bound-requires-clause-title c =
    let g = c.requires.1 in
    some_of (list_with (current c.args.self.now.expander) c.args.list) g.rest_is.items g.rest_is.there

pub valued-requires-clause-there : goal.valued-requires-clause-there
valued-requires-clause-there c =
    (c.requires.0, going-valued c.args.self.now c.args.node c.args.self.now.listing c.args.list c.in-Some.bound c.requires.0 c.in-Some.ensures.bound c.requires.1)

pub returns-in-Some : goal.returns-in-Some
returns-in-Some c =
    IfOk-weaker c.valued.result _ _ (λ turn k e g.
    k c.args.seen.now e (going-valued c.args.self.now c.args.node c.args.self.now.listing c.args.list c.in-Some.bound e c.in-Some.ensures.bound g)) c.valued.ensures

pub plain_page-requires-clause-node : goal.plain_page-requires-clause-node
plain_page-requires-clause-node c =
    let w = c.args.self.now in
    let g = c.requires.1 in
    let p : Place = place_of g.spot in
    some_of (node_with (current w.expander) c.args.node) p.node (node-here w.expander c.args.node p (record { is = g.is_place; home = g.rest_is.within }))

pub plain_page-requires-clause-title : goal.plain_page-requires-clause-title
plain_page-requires-clause-title c =
    let g = c.requires.1 in
    some_of (list_with (current c.args.self.now.expander) c.args.list) g.rest_is.items g.rest_is.there
