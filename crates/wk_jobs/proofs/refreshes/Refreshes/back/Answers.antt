use Rattle.std.proofs.Common.{◌≡◌, ◌++◌, eqb, ◌&&◌, map, sym, ap, ◌∙◌, subst, arith}
use Rattle.std.specs.List.{list_any}
use Rattle.wk_wiki_rules.specs.Jobs.{is_claimed, jobs_of, jobs_of_others, queued_again}
use Rattle.wk_jobs.specs.Entries.{entries, claimed_entry, queued_entry, number_of}
use Rattle.wk_jobs.proofs.Entries.{IsOne, IsOne-front, IsOne-given_back, claimed-there, given_back-entries, number_of-given_back}
use Rattle.wk_jobs.proofs.refreshes.Refreshes.back.Goals as goal

pub take_claimed-number-requires-clause-one : goal.take_claimed-number-requires-clause-one
take_claimed-number-requires-clause-one c = IsOne-front (map claimed_entry c.self.inside.claimed.items) (map queued_entry c.self.inside.queued.items) c.self.invariant.one

pub take_claimed-number-requires-clause-there : goal.take_claimed-number-requires-clause-there
take_claimed-number-requires-clause-there c =
    sym (claimed-there c.args.page c.self.inside.claimed.items c.self.inside.queued.items)
    ∙ ap (λ r. list_any (λ job. eqb job.page c.args.page && is_claimed job) r.jobs) c.self.view_is ∙ c.requires

after : (c : goal.After-push_back_reserved) → entries c.take_claimed-number.new.claimed.items c.push_back_reserved.new.self.items
    ≡ jobs_of_others c.args.page (entries c.self.inside.claimed.items c.self.inside.queued.items)
    ++ map queued_again (jobs_of c.args.page (entries c.self.inside.claimed.items c.self.inside.queued.items))
after c =
    let cs = c.self.inside.claimed.items in
    let qs = c.self.inside.queued.items in
    let there = sym (claimed-there c.args.page cs qs) ∙ ap (λ r. list_any (λ job. eqb job.page c.args.page && is_claimed job) r.jobs) c.self.view_is ∙ c.requires in
    ap (entries c.take_claimed-number.new.claimed.items) c.push_back_reserved.ensures.items
    ∙ given_back-entries c.args.page cs c.take_claimed-number.new.claimed.items qs c.take_claimed-number.result c.take_claimed-number.ensures.others c.take_claimed-number.ensures.own c.self.invariant.one there

pub invariant_of-self : goal.invariant_of-self
invariant_of-self c =
    let jobs = entries c.self.inside.claimed.items c.self.inside.queued.items in
    record {
      one = subst IsOne (sym (after c)) (IsOne-given_back jobs c.args.page c.self.invariant.one);
      numbers = λ page. c.self.invariant.numbers page ∙ sym (number_of-given_back jobs c.args.page page) ∙ ap (λ all. number_of all page) (sym (after c));
      claimed_room = omega (arith, c.take_claimed-number.ensures.len, c.take_claimed-number.ensures.capacity, c.push_back_reserved.ensures.len, c.self.invariant.claimed_room);
      queued_room = omega (arith, c.take_claimed-number.ensures.len, c.push_back_reserved.ensures.len, c.push_back_reserved.ensures.capacity, c.self.invariant.queued_room);
      numbers_room = c.self.invariant.numbers_room;
    }

pub returns-clause-jobs : goal.returns-clause-jobs
returns-clause-jobs c = after c ∙ ap (λ r. jobs_of_others c.args.page r.jobs ++ map queued_again (jobs_of c.args.page r.jobs)) c.self.view_is
