use Rattle.std.proofs.Common.{inl, inr, ◌-◌, arith}
use Rattle.wk_out.proofs.RunLaws.{IsLonger, cut-set_longer, Covers-set_longer, cut-pushed, Covers-append, Covers-one}
use Rattle.wk_out.proofs.run.add_run.Goals as goal
use Rattle.wk_out.proofs.run.add_run.Goals.{else-count-gt0-via-then-count-gt0+else-index-new, else-count-gt0-via-else-count-gt0}

pub returns-then-index-new-clause-runs : goal.returns-then-index-new-clause-runs
returns-then-index-new-clause-runs c =
    let is : IsLonger _ _ _ _ _ = record { some = omega arith; place = omega arith; is_read = c.index.ensures; same = c.if-index-new.true; is_last = c.index_mut.ensures.value } in
    λ text more. cut-set_longer text more _ _ _ _ _ is

pub returns-then-index-new-clause-covers : goal.returns-then-index-new-clause-covers
returns-then-index-new-clause-covers c =
    let is : IsLonger _ _ _ _ _ = record { some = omega arith; place = omega arith; is_read = c.index.ensures; same = c.if-index-new.true; is_last = c.index_mut.ensures.value } in
    λ text more. Covers-set_longer text more _ _ _ _ _ is

pub returns-else-count-gt0-clause-runs : goal.returns-else-count-gt0-clause-runs
returns-else-count-gt0-clause-runs c =
    λ text more covers whole. rw c.push_reserved.ensures.items
    (elim c.else-count-gt0.branch [
      | else-count-gt0-via-then-count-gt0+else-index-new w ↦
          cut-pushed text more _ c.args.new _ (c.len-count.result - 1) covers whole (omega arith) (inr (w.index.ensures, w.if-index-new.false))
      | else-count-gt0-via-else-count-gt0 w ↦
          cut-pushed text more _ c.args.new c.args.new (c.len-count.result - 1) covers whole (omega arith) (inl (omega arith))
    ])

pub returns-else-count-gt0-clause-covers : goal.returns-else-count-gt0-clause-covers
returns-else-count-gt0-clause-covers c =
    λ text more covers whole. rw c.push_reserved.ensures.items (Covers-append text more _ _ covers (Covers-one more c.args.new whole))
