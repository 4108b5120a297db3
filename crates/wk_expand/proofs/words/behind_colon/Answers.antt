use Rattle.std.proofs.Common.{◌++◌, ap, ap₂, ◌∙◌}
use Rattle.wk_text_rules.specs.Marked.{all_plain}
use Rattle.wk_out.specs.Runs.{joined}
use Rattle.wk_expand.proofs.DecideLaws.{colon-place, colon-rest, colon-none}
use Rattle.wk_expand.proofs.words.behind_colon.Goals as goal

pub returns-in_default : goal.returns-in_default
returns-in_default c = c.new-out.ensures ∙ colon-none c.runs-runs.result c.args.title.now c.args.place c.in_default.ensures.steps.0 c.runs-runs.ensures.joined c.requires

pub behind-requires-clause-some : goal.behind-requires-clause-some
behind-requires-clause-some c = (colon-place c.runs-runs.result c.next.new.self (c.in-Some.first.now, c.in-Some.field-0-1) c.args.title.now c.args.place c.in-Some.ensures.steps c.runs-runs.ensures.joined c.runs-runs.ensures.maximal c.requires).0

pub behind-requires-clause-within : goal.behind-requires-clause-within
behind-requires-clause-within c = (colon-place c.runs-runs.result c.next.new.self (c.in-Some.first.now, c.in-Some.field-0-1) c.args.title.now c.args.place c.in-Some.ensures.steps c.runs-runs.ensures.joined c.runs-runs.ensures.maximal c.requires).1

pub behind-requires-clause-ascii : goal.behind-requires-clause-ascii
behind-requires-clause-ascii c = (colon-place c.runs-runs.result c.next.new.self (c.in-Some.first.now, c.in-Some.field-0-1) c.args.title.now c.args.place c.in-Some.ensures.steps c.runs-runs.ensures.joined c.runs-runs.ensures.maximal c.requires).2

pub loop-text-init : goal.loop-text-init
loop-text-init c =
    ap₂ (λ out runs. out ++ joined runs) (c.in_ok-push_plain.ensures.ok ∙ ap (λ out. out ++ all_plain c.behind.result.now) c.new-out.ensures ∙ ap all_plain c.behind.ensures) c.into_iter-text-iterator.ensures.into_iter_gives
    ∙ colon-rest c.runs-runs.result c.next.new.self (c.in-Some.first.now, c.in-Some.field-0-1) c.args.title.now c.args.place c.in-Some.ensures.steps c.runs-runs.ensures.joined c.runs-runs.ensures.maximal c.requires
