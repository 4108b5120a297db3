use Rattle.std.proofs.Common.{arith}
use Rattle.wk_lex.proofs.LexerLemmas.{line-four}
use Rattle.wk_lex.proofs.lexer.behind_line.Goals as goal

pub loop-end-preserved : goal.loop-end-preserved
loop-end-preserved c = record {
  place = omega (arith, c.loop-end.invariant.place);
  within = omega (arith, c.loop-end-test.true, c.loop-end.invariant.within);
  line =
      line-four c.args.text.now c.args.from c.loop-end.end c.loop-end.invariant.line c.if-not-is_in_line.ensures.text c.if-not-is_in_line-2.ensures.text
      c.if-not-is_in_line-3.ensures.text c.if-not-is_in_line-4.ensures.text;
}
