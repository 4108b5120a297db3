use Rattle.wk_view_rules.specs.Worlds.{Agrees, of_seen}
use Rattle.wk_drafts.proofs.drafted.drafted_by.Given as goal

-- it goes on by the answers that were given so far
abbrev pub invariant-runs : goal.invariant-runs
invariant-runs g l = record {
  ready : g.S.Answering.ready l.source l.pass;
  leaves : g.S.Answering.leaves l.source l.fn.pass l.pass;
  answers : g.S.Answering.answers l.source l.fn.pass l.pass l.seen;
  goes_on : g.M.Drafting.goes_on l.fn.machine l.machine;
  read : Agrees (of_seen l.seen) (g.M.Drafting.reads l.machine);
}
