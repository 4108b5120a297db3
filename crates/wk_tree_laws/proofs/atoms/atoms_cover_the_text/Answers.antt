use Rattle.wk_tree_laws.proofs.SpanLemmas.{spans-source}
use Rattle.wk_tree_rules.specs.Atoms.{atom_at, atoms}
use Rattle.wk_tree_laws.proofs.atoms.atoms_cover_the_text.Goals as goal

pub returns : goal.returns
unfolding atoms
returns c = λ mode text. spans-source (atom_at mode) text
