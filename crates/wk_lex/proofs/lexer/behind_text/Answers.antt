use Rattle.std.proofs.Common.{◌≢◌, ◌+◌, ◌<◌, length, slice_index_or, arith}
use Rattle.wk_lex.proofs.LexerLemmas.{bytes-newline, bytes-next_line, line-first, other-byte, some-before}
use Rattle.wk_lex.proofs.lexer.behind_text.Goals.{else-end-text-via-then-end-text+else-text-end-eq9, then-text-end-eq32, else-text-end-eq32, else-end-text-via-else-end-text}
use Rattle.wk_lex.proofs.lexer.behind_text.Goals as goal

pub loop-end-init : goal.loop-end-init
loop-end-init c = record {
  place = c.behind_line-end.ensures.within.0;
  within = c.behind_line-end.ensures.within.1;
  ends = c.behind_line-end.ensures.longest;
  bytes = λ mode here some. line-first mode c.args.text.now c.args.at c.behind_line-end.result c.requires.plain c.behind_line-end.ensures here some;
}

pub returns-then-text-end-eq9-clause-bytes : goal.returns-then-text-end-eq9-clause-bytes
returns-then-text-end-eq9-clause-bytes c = λ mode here.
    bytes-newline mode c.args.text.now c.args.at c.loop-end.end c.requires.plain here c.loop-end.invariant.place c.loop-end-test.true c.if-text-end-eq10.true
    (c.loop-end.invariant.bytes mode here)

pub loop-end-preserved : goal.loop-end-preserved
loop-end-preserved c =
    let next = c.behind_line-end-in-loop-end.ensures in
    let blank : c.loop-end.end + 1 < length c.args.text.now → (slice_index_or c.args.text.now (c.loop-end.end + 1) 0 ≢ 32) × (slice_index_or c.args.text.now (c.loop-end.end + 1) 0 ≢ 9) =
    elim c.else-end-text.branch [
      | else-end-text-via-then-end-text+else-text-end-eq9 w ↦ λ within. elim w.if-text-end-eq32.branch [
        | then-text-end-eq32 t ↦ absurd (other-byte _ _ 32 t.value-is w.if-text-end-eq9.false t.if-text-end-eq32.true)
        | else-text-end-eq32 t ↦ (t.if-text-end-eq32.false, other-byte _ _ 9 t.value-is w.if-text-end-eq9.false)
      ]
      | else-end-text-via-else-end-text w ↦ λ within. absurd (omega (arith, w.if-end-text.false, within))
    ] in
    record {
      place = omega (arith, c.loop-end.invariant.place, next.within.0);
      within = next.within.1;
      ends = next.longest;
      bytes = λ mode here some.
          bytes-next_line mode c.args.text.now c.args.at (c.loop-end.end + 1) c.behind_line-end-in-loop-end.result c.requires.plain
          (bytes-newline mode c.args.text.now c.args.at c.loop-end.end c.requires.plain here c.loop-end.invariant.place c.loop-end-test.true c.if-text-end-eq10.true (c.loop-end.invariant.bytes mode here))
          blank next;
    }

pub returns-else-text-end-eq10-clause-bytes : goal.returns-else-text-end-eq10-clause-bytes
returns-else-text-end-eq10-clause-bytes c = λ mode here.
    c.loop-end.invariant.bytes mode here
    (some-before c.args.text.now c.args.at c.loop-end.end c.requires.plain c.loop-end.invariant.place (c.loop-end.invariant.ends c.loop-end-test.true) c.if-text-end-eq10.false)
