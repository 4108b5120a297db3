-- The further parts of a template, bound one after another.
use Rattle.std.proofs.Common.{◌≤◌, None}
use Rattle.wk_tree.specs.declared.item.NodeId.{NodeId}
use Rattle.wk_view_rules.specs.Expansions.{Expansion, Output}
use Rattle.wk_frames.specs.Levels.{HasLists}
use Rattle.wk_expand.specs.Stack.{IsBinds, IsBoundNext, IsHere, Place}
use Rattle.wk_expand.specs.State.{current}
use Rattle.wk_expand.specs.declared.stack.Binder.{Binder}
use Rattle.wk_expand.specs.declared.stack.Inclusion.{Inclusion}
use Rattle.wk_expand.specs.declared.state.Expander.{Expander}

-- some parts more are bound than before, and the rest is as it was
pub record AreBoundTo (s : Expander) (id : NodeId) (before after : Binder) : Type 0 where
  pub lists : HasLists (current s) after.args
  pub few : after.numbered ≤ after.at
  pub same : (p : Place) → IsHere s id p → (page : Inclusion) (rest : Expansion Output) → IsBinds p page before rest → IsBinds p page after rest

pub bound-none : (s : Expander) (id : NodeId) (binder : Binder) → HasLists (current s) binder.args → binder.numbered ≤ binder.at → AreBoundTo s id binder binder
bound-none s id binder lists few = record { lists = lists; few = few; same = λ p h page rest k. k }

pub bound-more : (s : Expander) (id : NodeId) (before between after : Binder) → AreBoundTo s id before between → HasLists (current s) after.args → after.numbered ≤ after.at → ((p : Place) → IsHere s id p → IsBoundNext p between None after) → AreBoundTo s id before after
bound-more s id before between after h lists few next = record {
  lists = lists;
  few = few;
  same = λ p here page rest k. next p here page rest (h.same p here page rest k);
}
