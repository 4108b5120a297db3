use Rattle.std.proofs.Common.{◌<◌, ◌∙◌, sym, arith, length}
use Rattle.wk_tree.proofs.MatchingLemmas.{plained-past, take-pop, plained-read}
use Rattle.wk_tree.proofs.matching.plain_bars.Goals as goal

pub loop-bars-preserved-then-at-len : goal.loop-bars-preserved-then-at-len
loop-bars-preserved-then-at-len c =
    let more : c.args.kept < length c.loop-bars.bars.items = omega (arith, c.loop-bars.bars.ok) in
    record {
      tokens =
          sym (plained-read c.args.kept _ _ c.in-Some.at c.loop-bars.tokens.items c.index.result.now c.plain_token.result c.in-Some.ensures.items more c.index.ensures (omega (arith, c.loop-bars.tokens.ok)) c.plain_token.ensures)
          ∙ c.loop-bars.invariant.tokens;
      bars = sym (take-pop c.args.kept _ _ c.in-Some.at c.in-Some.ensures.items more) ∙ c.loop-bars.invariant.bars;
    }

pub loop-bars-preserved-else-at-len : goal.loop-bars-preserved-else-at-len
loop-bars-preserved-else-at-len c =
    let more : c.args.kept < length c.loop-bars.bars.items = omega (arith, c.loop-bars.bars.ok) in
    record {
      tokens =
          sym (plained-past c.args.kept _ _ c.in-Some.at c.loop-bars.tokens.items c.in-Some.ensures.items more (omega (arith, c.loop-bars.tokens.ok)))
          ∙ c.loop-bars.invariant.tokens;
      bars = sym (take-pop c.args.kept _ _ c.in-Some.at c.in-Some.ensures.items more) ∙ c.loop-bars.invariant.bars;
    }
