use Rattle.std.proofs.Common.{arith}
use Rattle.wk_lex.proofs.LexerLemmas.{space-inside, tab-inside}
use Rattle.wk_lex.proofs.lexer.is_inner_blank.Goals as goal

pub returns-then-text-at-eq32-clause-byte : goal.returns-then-text-at-eq32-clause-byte
returns-then-text-at-eq32-clause-byte c = λ mode. space-inside mode c.args.text.now c.args.at (omega (arith, c.if-at-eq0.false)) c.requires c.if-before-eq10.false c.if-text-at-eq32.true

pub returns-then-text-at-eq9-clause-byte : goal.returns-then-text-at-eq9-clause-byte
returns-then-text-at-eq9-clause-byte c = λ mode. tab-inside mode c.args.text.now c.args.at (omega (arith, c.if-at-eq0.false)) c.requires c.if-before-eq10.false c.if-text-at-eq9.true
