use Rattle.std.proofs.Common.{◌≡◌, refl, inr, sym, subst, Option}
use Rattle.std.specs.Prelude.{IfSome, IsUtf8, option_map}
use Rattle.wk_feed_rules.specs.Reading.{said}
use Rattle.wk_feed_lines.specs.Said.{line_of}
use Rattle.wk_feed_lines.specs.declared.line.FeedLine.{FeedLine}
use Rattle.wk_replica_reads.proofs.LookLaws.{read-free}
use Rattle.wk_replica_reads.proofs.TakeLaws.{line-said, line-since}
use Rattle.wk_replica_reads.proofs.taking.take_apart.Goals as goal

pub returns-in-Ok-Some-clause-taken : goal.returns-in-Ok-Some-clause-taken
returns-in-Ok-Some-clause-taken g c =
    let bytes = c.args.line.now in
    let read = c.in-Ok-Some in
    let text = subst (λ (l : Option FeedLine). IfSome l (λ _. IsUtf8 bytes)) read.field-0-is read.ensures.text in
    let is = subst (λ (l : Option FeedLine). option_map line_of l ≡ said bytes) read.field-0-is (read.ensures.said text) in
    line-since c.args.shared.now c.args.pass.now c.look-point.new.pass c.take_read.new.pass bytes c.take_read.result c.look-point.ensures.pass
    (line-said c.args.shared.now c.look-point.new.pass c.take_read.new.pass bytes (line_of read.said) c.take_read.result text (sym is) c.take_read.ensures.taken)

pub returns-in-Ok-None-clause-taken : goal.returns-in-Ok-None-clause-taken
returns-in-Ok-None-clause-taken g c =
    line-since c.args.shared.now c.args.pass.now c.look-point.new.pass c.take_held.new.pass c.args.line.now c.take_held.result c.look-point.ensures.pass c.take_held.ensures.taken

pub returns-in-Err-clause-free : goal.returns-in-Err-clause-free
returns-in-Err-clause-free g c = read-free c.args.shared.now c.args.pass.now c.look-point.new.pass c.look-point.ensures.pass

pub returns-in-Err-clause-taken : goal.returns-in-Err-clause-taken
returns-in-Err-clause-taken g c = inr (c.look-point.ensures.pass, refl)
