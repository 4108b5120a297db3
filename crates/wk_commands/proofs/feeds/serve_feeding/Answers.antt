use Rattle.std.proofs.Common.{◌≡◌, Err, sym, ap, ◌∙◌, subst, arith}
use Rattle.wk_wiki_rules.specs.States.{State}
use Rattle.wk_commands.specs.Fed.{HasBegunFed, HasFedAt}
use Rattle.wk_commands.specs.declared.ends.CommandEnd.TheVariants.{WriteFault}
use Rattle.wk_commands.proofs.Fed.{count-fed, fed-by, links-fed, sent-same, sent-rose}
use Rattle.wk_commands.proofs.Served.{err-is, none-taken, not-served, ok-is-not, rose-later, served-from}
use Rattle.wk_commands.proofs.feeds.serve_feeding.Goals as goal

-- links were served
pub returns-in-Ok : goal.returns-in-Ok
returns-in-Ok g c =
    let told = g.D.Door.told in
    let faults = g.D.Door.faults in
    let taken = g.O.Sink.taken in
    let wiki = c.serve_fed-wiki.result.wiki in
    let from = c.args.wiki.start.state in
    let start : from ≡ c.args.wiki.state = c.requires.opened.start in
    let begun = subst (λ (s : State). HasBegunFed c.args.asked.address.now s (told c.args.door.now) (told c.begin_fed.new.door) (faults c.args.door.now) (faults c.begin_fed.new.door) (taken c.args.output.now) (taken c.begin_fed.new.output)) start
    c.in-Ok.ensures.begun in
    let first_same = c.begin_fed.ensures.no_write_fault (λ is. ok-is-not WriteFault (sym c.in-Ok.is ∙ is)) in record {
      served = subst (HasFedAt c.args.asked.address.now c.args.asked.most (told c.args.door.now) (told c.serve_fed-wiki.new.door) (faults c.args.door.now) (faults c.serve_fed-wiki.new.door) (taken c.args.output.now) (taken c.serve_fed-wiki.new.output)
          c.args.wiki.state wiki.journal) (sym c.end_feeding-end.ensures)
          (fed-by c.args.asked.address.now c.args.asked.most (told c.args.door.now) (told c.begin_fed.new.door) (told c.serve_fed-wiki.new.door) (faults c.args.door.now) (faults c.begin_fed.new.door) (faults c.serve_fed-wiki.new.door)
          (taken c.args.output.now) (taken c.begin_fed.new.output) (taken c.serve_fed-wiki.new.output) c.args.wiki.state wiki.journal begun c.serve_fed-wiki.result.sent c.serve_fed-wiki.result.end c.serve_fed-wiki.ensures.served c.serve_fed-wiki.ensures.fed);
      links = links-fed c.args.asked.address.now c.args.asked.most (told c.args.door.now) (told c.begin_fed.new.door) (told c.serve_fed-wiki.new.door) (faults c.args.door.now) (faults c.begin_fed.new.door) (faults c.serve_fed-wiki.new.door)
          (taken c.args.output.now) (taken c.begin_fed.new.output) (taken c.serve_fed-wiki.new.output) c.args.wiki.state wiki.journal begun c.serve_fed-wiki.result.end c.serve_fed-wiki.result.sent c.serve_fed-wiki.ensures.served;
      wiki = served-from c.args.wiki wiki c.requires.opened c.facts.ensures.run c.facts-in-Ok.ensures.run c.facts-in-Ok.ensures.history c.serve_fed-wiki.ensures.wiki;
      never_falls = let one = c.begin_fed.ensures.never_falls in let two = c.serve_fed-wiki.ensures.never_falls in omega (arith, one, two);
      no_write_fault = λ not. c.serve_fed-wiki.ensures.no_fault (sent-same c.serve_fed-wiki.result.sent c.serve_fed-wiki.result.end (λ is. not (c.end_feeding-end.ensures ∙ is))) ∙ first_same;
      write_fault = λ is. rose-later _ _ _ first_same (c.serve_fed-wiki.ensures.fault (sent-rose c.serve_fed-wiki.result.sent c.serve_fed-wiki.result.end (sym c.end_feeding-end.ensures ∙ is)));
      door_never_falls = count-fed c.args.asked.address.now c.args.asked.most (told c.args.door.now) (told c.begin_fed.new.door) (told c.serve_fed-wiki.new.door) (faults c.args.door.now) (faults c.begin_fed.new.door) (faults c.serve_fed-wiki.new.door)
          (taken c.args.output.now) (taken c.begin_fed.new.output) (taken c.serve_fed-wiki.new.output) c.args.wiki.state wiki.journal begun c.serve_fed-wiki.result.end c.serve_fed-wiki.result.sent c.serve_fed-wiki.ensures.served;
    }

-- serving ended before it began
pub returns-in-Err : goal.returns-in-Err
returns-in-Err g c = record {
  served = c.in-Err.ensures.ended c.args.asked.most c.args.wiki.state c.args.wiki.journal;
  links = none-taken c.args.asked.address.now c.args.asked.most (g.D.Door.told c.args.door.now) (g.D.Door.told c.begin_fed.new.door) c.begin_fed.ensures.listens;
  wiki = not-served c.args.wiki c.args.wiki c.requires.opened c.facts.ensures.run;
  never_falls = c.begin_fed.ensures.never_falls;
  no_write_fault = λ not. c.begin_fed.ensures.no_write_fault (λ is. not (err-is _ _ (sym c.in-Err.is ∙ is)));
  write_fault = λ is. c.begin_fed.ensures.write_fault (c.in-Err.is ∙ ap Err is);
  door_never_falls = c.begin_fed.ensures.door_never_falls;
}
