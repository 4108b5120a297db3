use Rattle.std.proofs.Common.{◌≡◌, rules, ap, is_lt}
use Rattle.std.proofs.lemmas.List.Sorted.{answers_always, ranks_by}
use Rattle.wk_sqltables.specs.Held.{member_cmp}
use Rattle.wk_sqlkeeper.proofs.KeptReads.{member_total}
use Rattle.wk_sqlkeeper.proofs.order.sort_members.Goals as goal

pub returns-clause-sorted : goal.returns-clause-sorted
returns-clause-sorted c =
    c.sort_unstable_by.ensures.sorted (λ a b. is_lt (member_cmp a b)) (ranks_by member_total (λ a. a))
    (answers_always _ (λ a r. is_lt r ≡ is_lt (member_cmp a.0.now a.1.0.now)) _ (λ f a r f' called. let h : (r ≡ member_cmp a.0.now a.1.0.now) × (f' ≡ f) = search rules in ap is_lt h.0))
