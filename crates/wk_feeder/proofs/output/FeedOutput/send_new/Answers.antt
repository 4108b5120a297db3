use Rattle.std.proofs.Common.{ℕ, ◌≡◌, Err, None, Ok, Result, Some, arith, sym, ◌∙◌}
use Rattle.wk_feeder.specs.declared.start.FeedRefusal.{FeedRefusal}
use Rattle.wk_feeder.specs.declared.start.FeedRefusal.TheVariants.{WriteFault}
use Rattle.wk_feeder.proofs.Lists.{took-new}
use Rattle.wk_feeder.proofs.Turns.{told-of}
use Rattle.wk_feeder.proofs.output.FeedOutput.send_new.Goals as goal

pub invariant_of-self : goal.invariant_of-self
invariant_of-self g c =
    let output = c.args.self.now in
    let between = g.O.Sink.taken output.sink.now in
    let later = c.send_new.new.self in
    let sent = c.in-Ok.ensures.sent in record {
      same = output.same;
      turn = told-of g.E.Begins.turn c.args.shared.now later.pass c.requires c.send_new.ensures.turn;
      free = c.send_new.ensures.free;
      sent = λ still. took-new g.E.Begins.told between (g.O.Sink.taken c.send_new.new.sink) output.feeder.sent later.sent output.feeder.pass.seen later.pass.seen
          c.send_new.ensures.seen c.send_new.ensures.within (sent.1 ∙ sent.0) (output.sent still) sent.2;
      never_falls = let before_is = output.never_falls in let send_is = c.send_new.ensures.never_falls in omega (arith, before_is, send_is);
      no_fault = λ other. c.send_new.ensures.no_fault (λ failed. let e : ◌≡◌ {A = Result ℕ FeedRefusal} (Ok c.in-Ok.field-0) (Err WriteFault) = sym c.in-Ok.is ∙ failed in cc) ∙ output.no_fault other;
      fault = λ failed. absurd (let e : None ≡ Some WriteFault = sym c.in_default.is ∙ failed in cc);
    }
