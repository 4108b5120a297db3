use Rattle.std.proofs.Common.{◌≡◌, subst, ◌∙◌}
use Rattle.std.specs.Prelude.{IfOk, string_bytes}
use Rattle.std.specs.Io.KnownBytes.{Appends}
use Rattle.wk_base.specs.Writing.{AppendsPrefix}
use Rattle.wk_commands.proofs.serves.write_line.Goals as goal

pub returns-in-Ok-write_all-clause-line : goal.returns-in-Ok-write_all-clause-line
returns-in-Ok-write_all-clause-line g c = λ line is.
    subst (Appends (g.O.Sink.taken c.args.output.now) (g.O.Sink.taken c.write_all.new.output)) (c.as_bytes.ensures.value ∙ subst (λ r. IfOk r (λ t. string_bytes t ≡ line)) c.in-Ok.is is) c.in-Ok-write_all.ensures.ok

pub returns-in-Ok-clause-line : goal.returns-in-Ok-clause-line
returns-in-Ok-clause-line g c = λ line is. (
  (λ e. cc),
  subst (AppendsPrefix (g.O.Sink.taken c.args.output.now) (g.O.Sink.taken c.write_all.new.output)) (c.as_bytes.ensures.value ∙ subst (λ r. IfOk r (λ t. string_bytes t ≡ line)) c.in-Ok.is is) c.in-Err-write_all.ensures.err,
)
