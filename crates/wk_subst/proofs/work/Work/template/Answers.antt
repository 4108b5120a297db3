use Rattle.std.proofs.Common.{ap, sym, ◌∙◌}
use Rattle.wk_tree_rules.specs.Tree.{title_part}
use Rattle.wk_subst.specs.Work.{found_by, node_in, parsed_of}
use Rattle.wk_subst.specs.declared.work.Work.{Work}
use Rattle.wk_subst.proofs.NodeLaws.{items-is, title-is}
use Rattle.wk_subst.proofs.StepLaws.{nothing-leads, page-calls, refused-leads}
use Rattle.wk_subst.proofs.work.Work.template.Goals as goal

pub returns-in_ok-written-in-Nothing : goal.returns-in_ok-written-in-Nothing
returns-in_ok-written-in-Nothing c =
    let w : Work = c.args.self.now in
    let title = c.title-title.result in
    let is = items-is (parsed_of w) title (title_part (node_in w c.args.node).content) (title-is c.tree.result.now (parsed_of w) c.args.node title c.tree.ensures c.requires.node c.title-title.ensures) in
    nothing-leads w c.args.node c.requires.sound c.requires.node title c.requires.kind is c.written.new.self (ap found_by (sym c.in-Nothing.is) ∙ c.in_ok-called.ensures) c.in_ok-written-in-Nothing.ensures

pub returns-in_ok-give_source-in-Refused : goal.returns-in_ok-give_source-in-Refused
returns-in_ok-give_source-in-Refused c =
    let w : Work = c.args.self.now in
    let title = c.title-title.result in
    let is = items-is (parsed_of w) title (title_part (node_in w c.args.node).content) (title-is c.tree.result.now (parsed_of w) c.args.node title c.tree.ensures c.requires.node c.title-title.ensures) in
    refused-leads w c.args.node c.requires.sound c.requires.node title c.requires.kind is c.give_source.new.self (ap found_by (sym c.in-Refused.is) ∙ c.in_ok-called.ensures) c.in_ok-give_source-in-Refused.ensures

pub returns-in-Page : goal.returns-in-Page
returns-in-Page c =
    let w : Work = c.args.self.now in
    let title = c.title-title.result in
    let is = items-is (parsed_of w) title (title_part (node_in w c.args.node).content) (title-is c.tree.result.now (parsed_of w) c.args.node title c.tree.ensures c.requires.node c.title-title.ensures) in
    page-calls w c.args.node c.requires.sound c.requires.node title c.requires.kind is c.in-Page.title (ap found_by (sym c.in-Page.is) ∙ c.in_ok-called.ensures)
