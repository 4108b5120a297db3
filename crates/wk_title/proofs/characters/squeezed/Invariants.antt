use Rattle.std.proofs.Common.{◌≡◌, false, not, ◌==◌, ◌++◌, drop, vec_len}
use Rattle.wk_title.proofs.Squeeze.{squeezed_from}
use Rattle.wk_title.proofs.characters.squeezed.Given as goal

abbrev pub invariant-loop-c : goal.invariant-loop-c
invariant-loop-c l =
    l.out.items ++ squeezed_from (not (vec_len l.out == 0)) l.after_space (drop l.c-index l.cs)
    ≡ squeezed_from false false l.cs
