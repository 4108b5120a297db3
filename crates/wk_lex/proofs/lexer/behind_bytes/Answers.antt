use Rattle.std.proofs.Common.{refl}
use Rattle.wk_lex.proofs.LexerLemmas.{bytes-one, marked_byte}
use Rattle.wk_lex.specs.Ahead.{one_mark}
use Rattle.wk_lex.proofs.lexer.behind_bytes.Goals as goal

pub returns-then-not-is_plain : goal.returns-then-not-is_plain
returns-then-not-is_plain c = record {
  bytes = λ mode here. bytes-one mode c.args.text.now c.args.at here;
  longest = one_mark (marked_byte _ c.if-not-is_plain.ensures.value) refl;
}
