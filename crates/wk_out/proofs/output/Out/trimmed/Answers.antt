use Rattle.wk_out.proofs.TrimLaws.{trimmed-one_is, trimmed-more_is}
use Rattle.wk_out.proofs.output.Out.trimmed.Goals as goal

pub returns-in_default-next_back : goal.returns-in_default-next_back
returns-in_default-next_back c =
    trimmed-one_is _ _ _ _ _ _ _ _ c.runs-middle.ensures.joined c.runs-middle.ensures.maximal c.in-Some.ensures.steps c.in_default-next_back.ensures.steps.0
    c.without_blank_start-first.ensures c.without_blank_end.ensures c.new-out.ensures c.in_ok-push.ensures.ok

pub returns : goal.returns
returns c =
    trimmed-more_is _ _ _ _ _ _ _ _ _ _ _ _ c.runs-middle.ensures.joined c.runs-middle.ensures.maximal c.in-Some.ensures.steps c.in-Some-next_back.ensures.steps
    c.without_blank_start-first.ensures c.without_blank_end-2.ensures c.new-out.ensures c.in_ok-push-2.ensures.ok c.in_ok-extend.ensures.ok c.in_ok-push-3.ensures.ok
