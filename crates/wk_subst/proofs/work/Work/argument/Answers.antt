use Rattle.std.proofs.Common.{◌≡◌, List, ℕ, Some, None, ap, sym, ◌∙◌}
use Rattle.std.proofs.lemmas.Result.{on_ok_weaker}
use Rattle.wk_text_rules.specs.Blank.{trimmed}
use Rattle.wk_tree.specs.Parsed.{ParsedText}
use Rattle.wk_tree_rules.specs.Tree.{title_part}
use Rattle.wk_tree_rules.specs.Trees.{items_source}
use Rattle.wk_subst_rules.specs.Calls.{source_name}
use Rattle.wk_subst_rules.specs.Places.{value_bound}
use Rattle.wk_subst.specs.Nodes.{items_of}
use Rattle.wk_subst.specs.Work.{node_in, parsed_of}
use Rattle.wk_subst.specs.declared.work.Work.{Work}
use Rattle.wk_subst.proofs.NodeLaws.{items-is, title-is}
use Rattle.wk_subst.proofs.StepLaws.{found-beyond, found-within, lost-leads, saved-leads}
use Rattle.wk_subst.proofs.work.Work.argument.Goals as goal

pub returns-in_default : goal.returns-in_default
returns-in_default c =
    let w : Work = c.args.self.now in
    on_ok_weaker c.written.result (λ h. saved-leads w c.args.node c.requires.sound c.requires.node c.written.new.self c.requires.kind c.in_default.is h) c.written.ensures

pub returns-in_default-look : goal.returns-in_default-look
returns-in_default-look c =
    let w : Work = c.args.self.now in
    let tree = c.parsed-tree.result.now in
    let there = title-is tree (parsed_of w) c.args.node c.title-title.result c.parsed-tree.ensures c.requires.node c.title-title.ensures in
    let named = ap (λ (t : ParsedText). items_source (items_of t c.title-title.result)) c.parsed-tree.ensures ∙ ap items_source (items-is (parsed_of w) c.title-title.result (title_part (node_in w c.args.node).content) there) in
    let name : c.trimmed_text.result.now ≡ source_name (title_part (node_in w c.args.node).content) = c.trimmed_text.ensures ∙ ap trimmed (c.as_str.ensures ∙ c.in_ok-name.ensures ∙ named) in
    let looked : value_bound c.in-Some.bound (source_name (title_part (node_in w c.args.node).content)) ≡ None = ap (value_bound c.in-Some.bound) (sym name) ∙ sym c.in_default-look.ensures in
    on_ok_weaker c.default.result (λ h. lost-leads w c.args.node c.requires.sound c.requires.node c.default.new.self c.in-Some.bound c.requires.kind c.in-Some.is looked h) c.default.ensures

pub returns-then-not-charge : goal.returns-then-not-charge
returns-then-not-charge c =
    let w : Work = c.args.self.now in
    let tree = c.parsed-tree.result.now in
    let there = title-is tree (parsed_of w) c.args.node c.title-title.result c.parsed-tree.ensures c.requires.node c.title-title.ensures in
    let named = ap (λ (t : ParsedText). items_source (items_of t c.title-title.result)) c.parsed-tree.ensures ∙ ap items_source (items-is (parsed_of w) c.title-title.result (title_part (node_in w c.args.node).content) there) in
    let name : c.trimmed_text.result.now ≡ source_name (title_part (node_in w c.args.node).content) = c.trimmed_text.ensures ∙ ap trimmed (c.as_str.ensures ∙ c.in_ok-name.ensures ∙ named) in
    let looked : value_bound c.in-Some.bound (source_name (title_part (node_in w c.args.node).content)) ≡ Some c.in-Some-look.value.now = ap (value_bound c.in-Some.bound) (sym name) ∙ sym c.in-Some-look.ensures in
    on_ok_weaker c.give_source.result (λ is.
    found-beyond w c.args.node c.requires.sound c.requires.node c.give_source.new.self c.in-Some.bound c.in-Some-look.value.now c.charge.new.self c.requires.kind c.in-Some.is looked c.if-not-charge.ensures.beyond is) c.give_source.ensures

pub returns : goal.returns
returns c =
    let w : Work = c.args.self.now in
    let tree = c.parsed-tree.result.now in
    let there = title-is tree (parsed_of w) c.args.node c.title-title.result c.parsed-tree.ensures c.requires.node c.title-title.ensures in
    let named = ap (λ (t : ParsedText). items_source (items_of t c.title-title.result)) c.parsed-tree.ensures ∙ ap items_source (items-is (parsed_of w) c.title-title.result (title_part (node_in w c.args.node).content) there) in
    let name : c.trimmed_text.result.now ≡ source_name (title_part (node_in w c.args.node).content) = c.trimmed_text.ensures ∙ ap trimmed (c.as_str.ensures ∙ c.in_ok-name.ensures ∙ named) in
    let looked : value_bound c.in-Some.bound (source_name (title_part (node_in w c.args.node).content)) ≡ Some c.in-Some-look.value.now = ap (value_bound c.in-Some.bound) (sym name) ∙ sym c.in-Some-look.ensures in
    on_ok_weaker c.push.result (λ is.
    found-within w c.args.node c.requires.sound c.requires.node (record w { out = c.push.new.self; spent = c.charge.new.self }) c.in-Some.bound c.in-Some-look.value.now c.charge.new.self c.requires.kind c.in-Some.is looked c.if-not-charge.ensures.within
    (ap (λ (out : List ℕ). record w { out = out; spent = c.charge.new.self }) is)) c.push.ensures
