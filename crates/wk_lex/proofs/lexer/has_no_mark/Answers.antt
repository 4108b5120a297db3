use Rattle.std.proofs.Common.{◌∙◌, ap, arith, not, sym}
use Rattle.wk_lex.proofs.UnmarkedLemmas.{marks-found, marks-none, marks-passed, plain-more, next-all}
use Rattle.wk_lex.proofs.lexer.has_no_mark.Goals as goal

pub loop-at-preserved : goal.loop-at-preserved
loop-at-preserved c = record {
  within = omega (arith, c.loop-at-test.true);
  marks = c.loop-at.invariant.marks ∙ marks-passed c.args.text.now c.loop-at.at c.loop-at-test.true c.if-not-is_plain.ensures.value;
  plain = plain-more c.args.text.now c.loop-at.at c.loop-at.invariant.plain c.if-not-is_plain.ensures.plain;
}

pub returns-then-not-is_plain-clause-marks : goal.returns-then-not-is_plain-clause-marks
returns-then-not-is_plain-clause-marks c =
    sym (ap not (c.loop-at.invariant.marks ∙ marks-found c.args.text.now c.loop-at.at c.loop-at-test.true c.if-not-is_plain.ensures.value))

pub returns : goal.returns
returns c = record {
  marks = sym (ap not (c.loop-at.invariant.marks ∙ marks-none c.args.text.now c.loop-at.at c.loop-at-test.false));
  whole = λ mode. next-all c.args.text.now (λ i within. c.loop-at.invariant.plain i (omega (arith, within, c.loop-at-test.false))) mode;
}
