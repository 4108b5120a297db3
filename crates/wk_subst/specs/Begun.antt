-- A substitution at its start.
use Rattle.std.specs.Prelude.{ℕ, List, [], None}
use Rattle.wk_tree.specs.declared.item.ListId.TheVariants.{Root}
use Rattle.wk_tree_rules.specs.declared.Mode.TheVariants as mode
use Rattle.wk_subst.specs.declared.work.Work.{Work}

-- a text of which nothing was gone over yet
abbrev pub begun_of : List ℕ → Work → Work
begun_of saved w = record w {
  level = record { tree = record { mode = mode.View; text = saved }; bound = None };
  list = Root;
  at = 0;
  out = [];
  opened = [];
  spent = record { nodes = 0; bytes = 0 };
}
