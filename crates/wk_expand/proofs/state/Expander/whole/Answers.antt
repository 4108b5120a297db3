use Rattle.std.proofs.Common.{refl}
use Rattle.wk_view_rules.specs.Expand.{whole_part}
use Rattle.wk_view_rules.specs.Expansions.{◌>>=◌}
use Rattle.std.proofs.Common.{◌++◌}
use Rattle.wk_expand.specs.Stack.{text_at}
use Rattle.wk_expand.specs.declared.stack.Waiting.TheVariants.{Name, Part as PartOf}
use Rattle.wk_expand.proofs.LeadLaws.{behind_part_name, leads-list, part-here, whole-by-name, whole-by-value}
use Rattle.wk_expand.proofs.PartLaws.{bare, named}
use Rattle.wk_expand.proofs.state.Expander.whole.Goals as goal

pub returns-in-Some : goal.returns-in-Some
returns-in-Some c =
    λ seen p part f h e is_use.
    let q = part-here c.args.self.now c.args.node p h c.tree.result.now c.args.at c.part-part.result part c.tree.ensures c.part-part.ensures e in
    let name = named (text_at p) c.part-part.result part c.in-Some.name c.in-Some.is q in
    leads-list c.args.self.now c.args.node p h seen (whole_part p.inner p.viewed p.frame part >>= (λ out. f (c.args.before ++ out))) (Name c.part-part.result.value c.args.used) c.in-Some.name c.args.before name.0 (behind_part_name p part f) name.2
    (record { items = part.value; there = q.value; step = f; used_is = is_use; is = λ out. refl }) h.home
    (whole-by-name p part name.0 c.args.before f name.1)

pub returns-in-None : goal.returns-in-None
returns-in-None c =
    λ seen p part f h e is_use.
    let q = part-here c.args.self.now c.args.node p h c.tree.result.now c.args.at c.part-part.result part c.tree.ensures c.part-part.ensures e in
    leads-list c.args.self.now c.args.node p h seen (whole_part p.inner p.viewed p.frame part >>= (λ out. f (c.args.before ++ out))) (PartOf c.args.used) c.part-part.result.value c.args.before part.value f q.value is_use h.home
    (whole-by-value p part c.args.before f (bare (text_at p) c.part-part.result part c.in-None.is q))
