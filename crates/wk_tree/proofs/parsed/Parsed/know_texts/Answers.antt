use Rattle.std.proofs.Common.{subst}
use Rattle.std.specs.Option.{IfSome}
use Rattle.std.specs.List.{AllByRecursion}
use Rattle.wk_tree.specs.Parsed.{ParsedText, source_of, tree_of, list_with, IsTextIn}
use Rattle.wk_tree_rules.specs.Tree.{lists}
use Rattle.wk_tree.proofs.ViewLemmas.{all-texts, list-among}
use Rattle.wk_tree.proofs.parsed.Parsed.know_texts.Goals as goal

pub returns : goal.returns
returns c =
    let inside : ParsedText = record { mode = c.self.inside.mode; text = c.self.inside.text } in
    subst (λ (p : ParsedText). IfSome (list_with p c.args.list) (AllByRecursion (IsTextIn (source_of p)))) c.self.view_is
    (list-among (AllByRecursion (IsTextIn (source_of inside))) inside c.args.list
    (all-texts (source_of inside) (lists (tree_of inside))
    (c.every_item_stands_where_it_says.ensures c.self.inside.mode c.self.inside.text)
    (c.every_item_of_utf8_is_utf8.ensures c.self.inside.mode c.self.inside.text c.as_str-text.ensures.utf8)))
