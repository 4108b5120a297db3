use Rattle.std.proofs.lemmas.Slice.Eq.{slice_eq-Decides}
use Rattle.wk_index.proofs.SameLaws.{Decides-title_eq}
use Rattle.wk_index.proofs.same.same_titles.Goals as goal

pub returns : goal.returns
returns c = slice_eq-Decides Decides-title_eq _ _ _ c.eq.ensures
