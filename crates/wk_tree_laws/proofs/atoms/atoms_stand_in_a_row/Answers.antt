use Rattle.wk_tree_laws.proofs.SpanLemmas.{spans-at}
use Rattle.wk_tree_laws.proofs.atoms.atoms_stand_in_a_row.Goals as goal
use Rattle.wk_tree_rules.specs.Atoms.{atom_at, atoms}

pub returns : goal.returns
unfolding atoms
returns c = λ mode text. spans-at (atom_at mode) text
