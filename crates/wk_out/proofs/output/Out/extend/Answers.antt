use Rattle.std.proofs.Common.{◌≡◌, length, ap, arith, sym, ◌∙◌}
use Rattle.wk_out.specs.Runs.{joined}
use Rattle.wk_out.proofs.ListedLaws.{none_of, IsKept-plain_more, joined-plain_more}
use Rattle.wk_out.proofs.output.Out.extend.Goals as goal

pub invariant_of-self-then-is_empty-2 : goal.invariant_of-self-then-is_empty-2
invariant_of-self-then-is_empty-2 c =
    let none : length c.self.inside.runs.items ≡ 0 = omega (arith, c.self.inside.runs.ok, none_of _ (sym c.is_empty.ensures ∙ c.if-is_empty.true)) in
    let also : length c.runs.inside.runs.now ≡ 0 = none_of _ (sym c.is_empty-then-is_empty.ensures ∙ c.if-is_empty-2.true) in
    IsKept-plain_more _ _ _ _ _ c.in_ok-push_str.ensures.bytes none also c.self.invariant c.runs.invariant

pub returns-then-is_empty-2-clause-ok : goal.returns-then-is_empty-2-clause-ok
returns-then-is_empty-2-clause-ok c =
    let none : length c.self.inside.runs.items ≡ 0 = omega (arith, c.self.inside.runs.ok, none_of _ (sym c.is_empty.ensures ∙ c.if-is_empty.true)) in
    let also : length c.runs.inside.runs.now ≡ 0 = none_of _ (sym c.is_empty-then-is_empty.ensures ∙ c.if-is_empty-2.true) in
    joined-plain_more _ _ _ _ _ _ _ c.in_ok-push_str.ensures.bytes none also c.self.view_is (ap joined c.runs.view_is)
