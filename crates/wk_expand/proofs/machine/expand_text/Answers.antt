use Rattle.std.proofs.Common.{◌≡◌, Some, refl, subst}
use Rattle.wk_tree.specs.Parsed.{ParsedText, list_with, tree_of}
use Rattle.wk_expand.specs.State.{IsBegun}
use Rattle.wk_expand.specs.declared.stack.Listing.{Listing}
use Rattle.wk_expand.specs.declared.work.Work.{Work}
use Rattle.wk_expand.proofs.DraftLaws.{left-begun}
use Rattle.wk_expand.proofs.machine.expand_text.Goals as goal

pub go_on-requires-clause-left : goal.go_on-requires-clause-left
go_on-requires-clause-left c =
    let page = c.args.page.now in
    let text = c.args.text.now in
    let s = c.in_ok-at_start.field-0 in
    let listing : Listing = record { list = c.root-list.result; at = 0; out = c.new.result } in
    let work : Work = record { expander = s; opened = c.in_ok-opened.opened; listing = listing } in
    let begun = subst (λ (parsed : ParsedText). IsBegun page parsed c.args.reads s) c.in_ok-tree.ensures.tree c.in_ok-at_start.ensures in
    let root = subst (λ (parsed : ParsedText). list_with parsed c.root-list.result ≡ Some (tree_of parsed)) c.in_ok-tree.ensures.tree c.root-list.ensures in
    left-begun page c.args.given.now text c.args.reads work begun c.in_ok-opened.ensures.items root refl c.new.ensures c.requires.left
