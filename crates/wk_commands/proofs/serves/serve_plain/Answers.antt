use Rattle.std.proofs.Common.{Err, sym, ap, ◌∙◌, arith}
use Rattle.wk_door.specs.Told.{counts_of}
use Rattle.wk_commands.specs.declared.ends.CommandEnd.TheVariants.{WriteFault}
use Rattle.wk_commands.proofs.Served.{door-never-falls, err-is, links-given, none-taken, not-served, ok-is-not, rose-later, served-by, served-from}
use Rattle.wk_commands.proofs.serves.serve_plain.Goals as goal

-- links were served
pub returns-in-Ok : goal.returns-in-Ok
returns-in-Ok g c =
    let told = g.D.Door.told in
    let faults = g.D.Door.faults in
    let taken = g.O.Sink.taken in
    let first_same = c.begin.ensures.no_write_fault (λ is. ok-is-not WriteFault (sym c.in-Ok.is ∙ is)) in record {
      served = served-by c.args.asked.address.now c.args.asked.most (told c.args.door.now) (told c.begin.new.door) (told c.serve_wiki-wiki.new.door) (faults c.args.door.now) (faults c.begin.new.door)
          (faults c.serve_wiki-wiki.new.door) (taken c.args.output.now) (taken c.begin.new.output) (taken c.end_serving-end.new.output) c.in-Ok.ensures.begun c.serve_wiki-wiki.result.end c.end_serving-end.result
          c.serve_wiki-wiki.ensures.served c.end_serving-end.ensures.ends;
      links = links-given c.args.asked.address.now c.args.asked.most (told c.args.door.now) (told c.begin.new.door) (told c.serve_wiki-wiki.new.door) (faults c.args.door.now) (faults c.begin.new.door)
          (faults c.serve_wiki-wiki.new.door) (taken c.args.output.now) (taken c.begin.new.output) (taken c.end_serving-end.new.output) c.in-Ok.ensures.begun c.serve_wiki-wiki.result.end
          c.serve_wiki-wiki.ensures.served;
      wiki = served-from c.args.wiki c.serve_wiki-wiki.result.wiki c.requires.opened c.facts.ensures.run c.facts-in-Ok.ensures.run c.facts-in-Ok.ensures.history c.serve_wiki-wiki.ensures.wiki;
      never_falls = let one = c.begin.ensures.never_falls in let two = c.end_serving-end.ensures.never_falls in omega (arith, one, two);
      no_write_fault = λ not. c.end_serving-end.ensures.no_write_fault not ∙ first_same;
      write_fault = λ is. rose-later _ _ _ first_same (c.end_serving-end.ensures.write_fault is);
      door_never_falls =
          let one = c.begin.ensures.door_never_falls in
          let two =
          door-never-falls (counts_of (told c.begin.new.door)) (counts_of (told c.serve_wiki-wiki.new.door)) (faults c.begin.new.door) (faults c.serve_wiki-wiki.new.door) c.args.asked.most c.serve_wiki-wiki.result.end
          c.serve_wiki-wiki.ensures.served in
          omega (arith, one, two);
    }

-- serving ended before it began
pub returns-in-Err : goal.returns-in-Err
returns-in-Err g c = record {
  served = c.in-Err.ensures.ended c.args.asked.most;
  links = none-taken c.args.asked.address.now c.args.asked.most (g.D.Door.told c.args.door.now) (g.D.Door.told c.begin.new.door) c.begin.ensures.listens;
  wiki = not-served c.args.wiki c.args.wiki c.requires.opened c.facts.ensures.run;
  never_falls = c.begin.ensures.never_falls;
  no_write_fault = λ not. c.begin.ensures.no_write_fault (λ is. not (err-is _ _ (sym c.in-Err.is ∙ is)));
  write_fault = λ is. c.begin.ensures.write_fault (c.in-Err.is ∙ ap Err is);
  door_never_falls = c.begin.ensures.door_never_falls;
}
