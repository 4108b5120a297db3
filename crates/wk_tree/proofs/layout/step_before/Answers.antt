use Rattle.std.proofs.Common.{sym, subst, drop}
use Rattle.wk_tree.specs.Layout.{IsLayout, laid}
use Rattle.wk_tree.specs.declared.token.Token.TheVariants.{Plain}
use Rattle.wk_tree.proofs.LayoutLemmas.{laid-more}
use Rattle.wk_tree.proofs.layout.step_before.Goals as goal

pub returns-in_ok-push-in-Plain-clause-laid : goal.returns-in_ok-push-in-Plain-clause-laid
returns-in_ok-push-in-Plain-clause-laid c = λ h.
    subst (IsLayout c.push.new.layout)
    (sym (c.in_ok-first-in-Plain.ensures.laid (laid (drop c.args.at c.args.tokens.now)) (laid-more c.args.tokens.now c.args.at (Plain c.in-Plain.start c.in-Plain.len) c.requires.some c.requires.within c.in-Plain.is)))
    (c.in_ok-push-in-Plain.ensures (laid (drop c.args.at c.args.tokens.now)) h)
