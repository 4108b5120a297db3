use Rattle.std.proofs.Common.{List, ℕ, subst, ◌∙◌}
use Rattle.wk_commands.specs.Followed.{EndsAsText}
use Rattle.wk_commands.proofs.replicas.end_taken.Goals as goal

pub returns-in-Ok-clause-ends : goal.returns-in-Ok-clause-ends
returns-in-Ok-clause-ends g c =
    subst (λ (text : List ℕ). EndsAsText text c.write_count.result (g.O.Sink.taken c.args.output.now) (g.O.Sink.taken c.write_count.new.output)) (c.deref.ensures ∙ c.in-Ok.ensures) c.write_count.ensures.ends
