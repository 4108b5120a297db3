use Rattle.std.proofs.Common.{◌≡◌, [], ◌∷◌, ◌++◌, false, eqb, cond, Some, None, sym, ap, ◌∙◌, subst, arith}
use Rattle.std.specs.List.{list_any}
use Rattle.wk_wiki_rules.specs.Jobs.{RefreshEntry}
use Rattle.wk_jobs.specs.Entries.{entries, number_of}
use Rattle.wk_jobs.proofs.Entries.{IsOne, IsOne-pushed, pushed-entries, number_of-pushed}
use Rattle.wk_jobs.proofs.refreshes.Refreshes.push.Goals as goal

pub invariant_of-self : goal.invariant_of-self
invariant_of-self c =
    let cs = c.self.inside.claimed.items in
    let qs = c.self.inside.queued.items in
    let new : RefreshEntry = record { number = c.args.number; page = c.args.page; ticket = None } in
    let none : list_any (λ job. eqb job.page c.args.page) (entries cs qs) ≡ false = ap (λ r. list_any (λ job. eqb job.page c.args.page) r.jobs) c.self.view_is ∙ c.requires.none in
    let after : entries cs c.push_back_reserved.new.self.items ≡ entries cs qs ++ new ∷ [] =
    ap (entries cs) c.push_back_reserved.ensures.items ∙ pushed-entries cs qs (record { number = c.args.number; page = c.args.page }) in
    let put = rw c.unwrap.ensures at c.insert-put.ensures.updates in
    record {
      one = subst IsOne (sym after) (IsOne-pushed (entries cs qs) new none c.self.invariant.one);
      numbers = λ page. put.0 page ∙ ap (cond (eqb c.args.page page) (Some c.args.number)) (c.self.invariant.numbers page)
          ∙ sym (number_of-pushed (entries cs qs) new page none) ∙ ap (λ all. number_of all page) (sym after);
      claimed_room = omega (arith, c.push_back_reserved.ensures.len, c.self.invariant.claimed_room, ap (λ r. r.spare) c.self.view_is, c.requires.room);
      queued_room = omega (arith, c.push_back_reserved.ensures.len, c.push_back_reserved.ensures.capacity, c.self.invariant.queued_room, ap (λ r. r.spare) c.self.view_is, c.requires.room);
      numbers_room = omega (arith, c.insert-put.ensures.spare, c.self.invariant.numbers_room);
    }
