use Rattle.std.proofs.Common.{Err, refl, sym, ap, ◌∙◌, subst, arith}
use Rattle.wk_commands.specs.Followed.{HasFollowed}
use Rattle.wk_commands.specs.Served.{not_listening}
use Rattle.wk_commands.proofs.Followed.{begun-not, feed-is-fault, feed-not-done, feed-not-written}
use Rattle.wk_commands.proofs.Served.{rose-later}
use Rattle.wk_commands.proofs.replicas.follow_feed.Goals as goal

-- the start was taken
pub returns-in-Ok : goal.returns-in-Ok
returns-in-Ok g c =
    let then = c.follow_begun.ensures in
    let first_same = c.in-Ok.ensures.no_fault in record {
      followed = then.followed (g.I.Source.rest c.args.input.now) c.in-Ok.ensures.begun;
      links = then.links;
      reads_never_fall = let one = c.begin_replica.ensures.never_falls in let two = then.reads_never_fall in omega (arith, one, two);
      no_read_fault = λ is. then.no_read_fault is ∙ first_same;
      read_fault = λ is. rose-later _ _ _ first_same (then.read_fault is);
      never_falls = then.never_falls;
      no_write_fault = then.no_write_fault;
      write_fault = then.write_fault;
      door_never_falls = then.door_never_falls;
    }

-- the feed ended before it
pub returns-in-Err : goal.returns-in-Err
returns-in-Err g c =
    let how = c.in-Err.end in
    let address = c.args.asked.address.now in
    let most = c.args.asked.most in
    let told = g.D.Door.told c.args.door.now in
    let faults = g.D.Door.faults c.args.door.now in
    let rest = g.I.Source.rest c.args.input.now in
    let left = g.I.Source.rest c.begin_replica.new.input in
    let before = g.O.Sink.taken c.args.output.now in record {
      followed = subst (HasFollowed address most told told faults faults rest left before before) (sym c.end_of_feed.ensures) (begun-not address most told faults rest left before how c.in-Err.ensures.ended);
      links = not_listening refl;
      reads_never_fall = c.begin_replica.ensures.never_falls;
      no_read_fault = λ is. absurd (feed-not-done rest left how c.in-Err.ensures.ended (sym c.end_of_feed.ensures ∙ is));
      read_fault = λ is. c.begin_replica.ensures.fault (c.in-Err.is ∙ ap Err (feed-is-fault how (sym c.end_of_feed.ensures ∙ is)));
      never_falls = omega arith;
      no_write_fault = λ _. refl;
      write_fault = λ is. absurd (feed-not-written how (sym c.end_of_feed.ensures ∙ is));
      door_never_falls = omega arith;
    }
