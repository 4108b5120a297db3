use Rattle.wk_out.proofs.ErrorLaws.{error-further, error-here, error-nowhere}
use Rattle.wk_out.proofs.output.Out.has_error.Goals as goal

pub returns-then-shows_error : goal.returns-then-shows_error
returns-then-shows_error c =
    error-here _ _ _ c.args.self.now c.in-Some.ensures.steps c.loop-text.invariant c.if-shows_error.ensures

pub loop-text-preserved : goal.loop-text-preserved
loop-text-preserved c =
    error-further _ _ _ c.args.self.now c.in-Some.ensures.steps c.loop-text.invariant c.if-shows_error.ensures

pub returns : goal.returns
returns c = error-nowhere _ c.args.self.now c.in-None.ensures.steps.0 c.loop-text.invariant.1
