-- A template, by what is decided of it.
use Rattle.std.proofs.Common.{◌≡◌, List, Result, subst}
use Rattle.wk_text_rules.specs.Titles.{PageTitle}
use Rattle.wk_tree_rules.specs.Tree.{Part}
use Rattle.wk_tree_rules.specs.Trees.{Item}
use Rattle.wk_view_rules.specs.Expansions.{Expansion, Output, give}
use Rattle.wk_view_rules.specs.Frames.{Frame}
use Rattle.wk_view_rules.specs.Worlds.{Seen}
use Rattle.wk_expand.specs.Decisions.{decision_rest}
use Rattle.wk_expand.specs.Running.{ComesTo, Ends}
use Rattle.wk_expand.specs.declared.decide.Decision.{Decision}
use Rattle.wk_expand.specs.declared.state.Expander.{Expander}
use Rattle.wk_expand.specs.declared.state.Stop.{Stop}
use Rattle.wk_expand.proofs.RunLaws.{leads-on}

module _ (inner : Frame → List Item → Expansion Output) (viewed : PageTitle) (frame : Frame) (name : Output) (parts : List Part) where
  -- what is decided is left to do
  pub decided-comes : (seen : Seen) (e : Expansion Output) (s t : Expander) (found d : Decision) → found ≡ d → ComesTo seen e s (decision_rest inner viewed frame name parts found) t → ComesTo seen e s (decision_rest inner viewed frame name parts d) t
  decided-comes seen e s t found d same h = subst (λ (x : Decision). ComesTo seen e s (decision_rest inner viewed frame name parts x) t) same h

  pub decided : (seen : Seen) (e : Expansion Output) (s t u : Expander) (found d : Decision) (r : Result Output Stop) → found ≡ d → ComesTo seen e s (decision_rest inner viewed frame name parts found) t → Ends seen (decision_rest inner viewed frame name parts d) t r u → Ends seen e s r u
  decided seen e s t u found d r same come ends =
      leads-on seen e (decision_rest inner viewed frame name parts d) s t give r u (decided-comes seen e s t found d same come) ends
