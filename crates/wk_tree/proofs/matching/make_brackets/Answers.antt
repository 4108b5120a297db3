use Rattle.std.proofs.Common.{◌≡◌, ◌∙◌, ◌+◌, ◌-◌, ◌<◌, ◌++◌, ◌∷◌, [], length, take, drop, ap, ap₂, arith}
use Rattle.wk_tree.specs.Matching.{as_run, plained, raised, tokens_by}
use Rattle.wk_tree.specs.declared.token.Token.TheVariants.{Plain}
use Rattle.wk_tree.specs.declared.matching.Opener.{Opener}
use Rattle.wk_tree.proofs.MeetingLemmas.{brackets-kept, rest-is, slot-within}
use Rattle.wk_tree_rules.specs.Trees.{content_of, content_height}
use Rattle.wk_tree.proofs.matching.make_brackets.Goals as goal

pub returns : goal.returns
returns c = λ first top openers p long fits.
    let opener : Opener = c.args.opener.now in
    let run_end : opener.run.end ≡ top.run.start + top.run.count = ap (λ (l : Opener). l.run.end) p.opener_is in
    let run_count : opener.run.count ≡ top.run.count = ap (λ (l : Opener). l.run.count) p.opener_is in
    let height : opener.height ≡ content_height (content_of top.stretch) = ap (λ (l : Opener). l.height) p.opener_is in
    let slot : opener.slot ≡ length (tokens_by first openers) = ap (λ (l : Opener). l.slot) p.opener_is in
    let within : opener.slot < length c.args.matching.now.tokens.items = omega (arith, slot-within first top openers p.fit.0.long, ap length p.tokens_are) in
    let taken : c.min-taken.result ≡ 2 = omega (arith, p.fit.0.long) in
    let bars = ap (λ b. b.items) c.in_ok-split.ensures.bars in
    record {
      keeps =
          brackets-kept first top openers (as_run c.args.run) opener.slot (opener.run.end - opener.run.count) (opener.run.count - c.min-taken.result)
          c.saturating_sub.result (opener.run.end - c.min-taken.result) opener.bars opener.height c.saturating_sub-2.result opener.run.brackets
          p.fit p.tokens_are p.bars_are p.openers_are
          slot (ap (λ (l : Opener). l.bars) p.opener_is) (ap (λ (l : Opener). l.run.brackets) p.opener_is)
          (omega arith) (omega arith) (omega (arith, p.fit.0.long)) (omega (arith, p.fit.0.long)) height c.saturating_sub-2.ensures
          (c.in_ok-push.ensures.items
          ∙ ap (λ t. t ++ Plain c.saturating_sub-2.result 2 ∷ []) (c.plain_bars.ensures.tokens ∙ ap₂ (λ b t. plained (drop opener.bars b) t) bars (c.in_ok-split.ensures.tokens within)))
          (c.plain_bars.ensures.bars ∙ ap (take opener.bars) bars)
          (c.raise.ensures ∙ ap (raised opener.height) c.in_ok-split.ensures.openers);
      left_is = rest-is c.args.run _ _ c.saturating_sub-3.ensures (omega arith) fits;
      fits = omega arith;
    }
