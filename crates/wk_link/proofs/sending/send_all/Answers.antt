-- What a write took follows what was taken before it.
use Rattle.std.proofs.Common.{◌∙◌, arith}
use Rattle.wk_link.proofs.TakenBytes.{Appends-more}
use Rattle.wk_link.proofs.sending.send_all.Goals as goal

pub writes-preserved : goal.writes-preserved
writes-preserved g c = record {
  in_range = omega (arith, c.in_ok-at.ensures.count.1);
  taken = Appends-more _ _ _ _ _ _ c.writes.invariant.taken c.in_ok-at.ensures.bytes;
  no_fault = c.in_ok-at.ensures.no_fault ∙ c.writes.invariant.no_fault;
  rest = c.in_ok-at.ensures.rest ∙ c.writes.invariant.rest;
  no_read_fault = c.in_ok-at.ensures.read_faults ∙ c.writes.invariant.no_read_fault;
}
