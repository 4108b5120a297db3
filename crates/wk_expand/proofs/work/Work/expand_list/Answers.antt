use Rattle.std.proofs.Common.{Option, ℕ}
use Rattle.std.proofs.lemmas.Result.{IfOk-weaker}
use Rattle.wk_tree.specs.Parsed.{list_with}
use Rattle.wk_tree_rules.specs.Trees.{Item}
use Rattle.std.proofs.Common.{List}
use Rattle.wk_view_rules.specs.Expansions.{Expansion, Output}
use Rattle.wk_expand.specs.declared.stack.Listing.{Listing}
use Rattle.wk_expand.specs.declared.work.Work.{Work}
use Rattle.wk_tree.specs.declared.item.NodeId.{NodeId}
use Rattle.std.proofs.Common.{◌≡◌, Some, None, subst}
use Rattle.wk_expand.specs.State.{current}
use Rattle.wk_expand.specs.Work.{IsAtNode, IsEnded, IsFilled, IsListing}
use Rattle.wk_expand.proofs.WorkLaws.{ended-listed, listing-end, listing-node, node-listed}
use Rattle.wk_expand.proofs.work.Work.expand_list.Goals as goal

-- the list stands at a node, or at its end
at-node : (w : Work) (new : Output) (next : ℕ) (found : Option NodeId) (id : NodeId) (e : Expansion Output) → found ≡ Some id → ((items : List Item) → list_with (current w.expander) w.listing.list ≡ Some items → IsFilled (current w.expander) items w.listing.at w.listing.out (next, found) new) → IsListing w w.listing e → IsAtNode (record w { listing = record { list = w.listing.list; at = next; out = new } }) id (record { list = w.listing.list; at = next; out = new }) e
at-node w new next found id e is filled h =
    let listing : Listing = record { list = w.listing.list; at = next; out = new } in
    node-listed w listing id listing e
    (listing-node w w.listing id next new e (λ items k. subst (λ (n : Option NodeId). IsFilled (current w.expander) items w.listing.at w.listing.out (next, n) new) is (filled items k)) h)

at-end : (w : Work) (new : Output) (next : ℕ) (found : Option NodeId) (e : Expansion Output) → found ≡ None → ((items : List Item) → list_with (current w.expander) w.listing.list ≡ Some items → IsFilled (current w.expander) items w.listing.at w.listing.out (next, found) new) → IsListing w w.listing e → IsEnded (record w { listing = record { list = w.listing.list; at = next; out = new } }) new e
at-end w new next found e is filled h =
    let listing : Listing = record { list = w.listing.list; at = next; out = new } in
    ended-listed w listing new e
    (listing-end w w.listing next new e (λ items k. subst (λ (n : Option NodeId). IsFilled (current w.expander) items w.listing.at w.listing.out (next, n) new) is (filled items k)) h)

pub open-requires : goal.open-requires
open-requires c =
    (c.requires.0, at-node c.args.self.now c.fill.new.out c.in_ok-at.at c.in_ok-at.node c.in-Some.node c.requires.0 c.in-Some.is c.in_ok-at.ensures c.requires.1)

pub ended-requires : goal.ended-requires
ended-requires c =
    (c.requires.0, at-end c.args.self.now c.fill.new.out c.in_ok-at.at c.in_ok-at.node c.requires.0 c.in-None.is c.in_ok-at.ensures c.requires.1)

pub returns-in-Some : goal.returns-in-Some
returns-in-Some c =
    IfOk-weaker c.open.result _ _ (λ turn k e h.
    k e (at-node c.args.self.now c.fill.new.out c.in_ok-at.at c.in_ok-at.node c.in-Some.node e c.in-Some.is c.in_ok-at.ensures h)) c.open.ensures

pub returns-in-None : goal.returns-in-None
returns-in-None c =
    IfOk-weaker c.ended.result _ _ (λ turn k e h.
    k e (at-end c.args.self.now c.fill.new.out c.in_ok-at.at c.in_ok-at.node e c.in-None.is c.in_ok-at.ensures h)) c.ended.ensures
