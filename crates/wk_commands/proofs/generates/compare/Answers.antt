use Rattle.std.proofs.Common.{◌∙◌}
use Rattle.wk_tool_rules.specs.Checks.{gen_text}
use Rattle.wk_commands.proofs.Comparing.{compared, uncompared}
use Rattle.wk_commands.proofs.generates.compare.Goals as goal

pub returns-in-Ok-clause-compared : goal.returns-in-Ok-clause-compared
returns-in-Ok-clause-compared g c =
    compared c.args.wiki.now.state c.deref.result.now (gen_text c.args.wiki.now.state) (g.O.Sink.taken c.args.output.now) (g.O.Sink.taken c.write_text.new.output) c.write_text.result c.in-Ok.is_same
    (c.deref.ensures ∙ c.in-Ok.ensures.text) c.in-Ok.ensures.same c.write_text.ensures.written c.write_text.ensures.end

pub returns-in-Err-clause-compared : goal.returns-in-Err-clause-compared
returns-in-Err-clause-compared g c = uncompared c.args.wiki.now.state (gen_text c.args.wiki.now.state) (g.O.Sink.taken c.args.output.now)
