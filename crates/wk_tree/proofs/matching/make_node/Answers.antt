use Rattle.std.proofs.Common.{◌≡◌, ◌∙◌, ◌+◌, ◌-◌, ◌<◌, ◌≤◌, ◌++◌, ◌∷◌, [], length, take, refl, ap, arith, min}
use Rattle.wk_tree.specs.Matching.{as_run, raised, tokens_by}
use Rattle.wk_tree.specs.declared.matching.Opener.{Opener}
use Rattle.wk_tree.specs.declared.token.Token.TheVariants.{NodeEnd}
use Rattle.wk_tree.proofs.MeetingLemmas.{node-kept, rest-is, way-node, slot-within}
use Rattle.wk_tree_rules.specs.Trees.{content_of, content_height}
use Rattle.wk_tree.proofs.matching.make_node.Goals as goal

pub returns : goal.returns
returns c = λ first top openers p way long fits.
    let opener : Opener = c.args.opener.now in
    let run_end : opener.run.end ≡ top.run.start + top.run.count = ap (λ (l : Opener). l.run.end) p.opener_is in
    let run_count : opener.run.count ≡ top.run.count = ap (λ (l : Opener). l.run.count) p.opener_is in
    let height : opener.height ≡ content_height (content_of top.stretch) = ap (λ (l : Opener). l.height) p.opener_is in
    let slot : opener.slot ≡ length (tokens_by first openers) = ap (λ (l : Opener). l.slot) p.opener_is in
    let within : opener.slot < length c.args.matching.now.tokens.items = omega (arith, slot-within first top openers p.fit.0.long, ap length p.tokens_are) in
    let taken : c.min-taken.result ≡ min top.run.count (min c.args.run.count 3) = omega arith in
    let few : c.min-taken.result ≤ top.run.count = omega arith in
    record {
      keeps =
          node-kept first top openers (as_run c.args.run) c.min-taken.result opener.slot (opener.run.end - opener.run.count) (opener.run.count - c.min-taken.result)
          c.saturating_sub.result (opener.run.end - c.min-taken.result) opener.bars c.saturating_add.result _ opener.run.brackets
          p.fit (way-node _ _ _ _ height way) long p.tokens_are p.bars_are p.openers_are
          slot (ap (λ (l : Opener). l.bars) p.opener_is) (ap (λ (l : Opener). l.run.brackets) p.opener_is)
          taken (omega arith) (omega arith) (omega arith) (omega arith) refl (omega (arith, p.fit.0.low, way-node _ _ _ _ height way))
          (c.in_ok-push.ensures.items ∙ ap (λ t. t ++ NodeEnd ∷ []) (c.in_ok-split.ensures.tokens within))
          (c.truncate.ensures.items ∙ ap (λ b. take opener.bars b.items) c.in_ok-split.ensures.bars)
          (c.raise.ensures ∙ ap (raised c.saturating_add.result) c.in_ok-split.ensures.openers);
      left_is = rest-is c.args.run _ _ (omega arith) (omega arith) fits;
      fits = omega arith;
    }
