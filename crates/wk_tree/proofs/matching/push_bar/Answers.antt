use Rattle.std.proofs.Common.{◌∙◌}
use Rattle.wk_tree.proofs.MeetingLemmas.{bar-kept}
use Rattle.wk_tree.proofs.matching.push_bar.Goals as goal

pub returns : goal.returns
returns c = λ seen e k is.
    bar-kept e c.args.token seen c.len.result is (c.len.ensures ∙ c.args.matching.now.tokens.ok.0) c.in_ok-push-2.ensures.items c.in_ok-push.ensures.items k
