use Rattle.std.proofs.Common.{◌≡◌, drop}
use Rattle.wk_text_rules.specs.Titles.{same_but_case, underscored}
use Rattle.wk_title.proofs.namespace.is_name.Given as goal

abbrev pub invariant-loop-i : goal.invariant-loop-i
invariant-loop-i l =
    same_but_case (underscored (drop l.i l.name)) (drop l.i l.written) ≡ same_but_case (underscored l.name) l.written
