use Rattle.std.proofs.Common.{◌≡◌, ℕ, ◌+◌, List, [], ◌∷◌, length, drop, option_map, refl, sym, ap, ◌∙◌, subst, arith}
use Rattle.std.specs.Prelude.{find, Option}
use Rattle.std.specs.VecDeque.{deque_len}
use Rattle.wk_wiki_rules.specs.Jobs.{RefreshEntry, is_queued, first_claimed}
use Rattle.wk_jobs.specs.Entries.{entries, number_of}
use Rattle.wk_jobs.proofs.Entries.{IsOne, IsOne-claimed, first_claimed-entries, first_claimed-none, first_queued-entries, first_queued-none, number_of-first_claimed}
use Rattle.wk_jobs.proofs.refreshes.Refreshes.claim_first.Goals as goal

no-front : {X : Type 0} (xs : List X) → xs ≡ drop 1 xs → xs ≡ []
no-front [] same = refl
no-front (x ∷ xs) same = absurd (omega (arith, ap length same))

abbrev page_of : List RefreshEntry → Option ℕ
page_of jobs = option_map (λ (job : RefreshEntry). job.page) (find is_queued jobs)

pub returns-in_err-number-clause-page : goal.returns-in_err-number-clause-page
returns-in_err-number-clause-page c =
    let none = no-front c.self.inside.queued.items (c.in_err-number.ensures.items ∙ c.in_err-number.ensures.rest) in
    let jobs = ap (λ r. r.jobs) (sym c.self.view_is) ∙ ap (entries c.self.inside.claimed.items) none in
    c.from_residual.ensures ∙ sym (ap page_of jobs ∙ ap (option_map (λ (job : RefreshEntry). job.page)) (first_queued-none c.self.inside.claimed.items))

pub returns-in_err-number-clause-jobs : goal.returns-in_err-number-clause-jobs
returns-in_err-number-clause-jobs c =
    let cs = c.self.inside.claimed.items in
    let none = no-front c.self.inside.queued.items (c.in_err-number.ensures.items ∙ c.in_err-number.ensures.rest) in
    let jobs = ap (λ r. r.jobs) (sym c.self.view_is) ∙ ap (entries cs) none in
    ap (entries cs) (sym c.in_err-number.ensures.items ∙ none) ∙ sym (ap (λ all. first_claimed all c.args.ticket) jobs ∙ first_claimed-none cs c.args.ticket)

after : (c : goal.After-push_reserved) → entries c.push_reserved.new.self.items c.pop_front.new.self.items ≡ first_claimed (entries c.self.inside.claimed.items c.self.inside.queued.items) c.args.ticket
after c =
    let cs = c.self.inside.claimed.items in
    ap (λ claimed. entries claimed c.pop_front.new.self.items) c.push_reserved.ensures.items
    ∙ sym (ap (λ queued. first_claimed (entries cs queued) c.args.ticket) c.in_ok-number.ensures.items
    ∙ first_claimed-entries cs c.in_ok-number.field-0 c.pop_front.new.self.items c.args.ticket)

pub invariant_of-self-2 : goal.invariant_of-self-2
invariant_of-self-2 c =
    let jobs = entries c.self.inside.claimed.items c.self.inside.queued.items in
    let len : deque_len c.pop_front.new.self + 1 ≡ deque_len c.self.inside.queued = c.in_ok-number.ensures.cases in
    record {
      one = subst IsOne (sym (after c)) (IsOne-claimed jobs c.args.ticket c.self.invariant.one);
      numbers = λ page. c.self.invariant.numbers page ∙ sym (number_of-first_claimed jobs c.args.ticket page) ∙ ap (λ all. number_of all page) (sym (after c));
      claimed_room = omega (arith, c.push_reserved.ensures.len, c.push_reserved.ensures.capacity, c.self.invariant.claimed_room);
      queued_room = omega (arith, c.push_reserved.ensures.len, c.in_ok-number.ensures.capacity, c.self.invariant.queued_room);
      numbers_room = c.self.invariant.numbers_room;
    }

pub returns-clause-page : goal.returns-clause-page
returns-clause-page c =
    let cs = c.self.inside.claimed.items in
    let jobs = ap (λ r. r.jobs) (sym c.self.view_is) ∙ ap (entries cs) c.in_ok-number.ensures.items in
    sym (ap page_of jobs ∙ ap (option_map (λ (job : RefreshEntry). job.page)) (first_queued-entries cs c.in_ok-number.field-0 c.pop_front.new.self.items))

pub returns-clause-jobs : goal.returns-clause-jobs
returns-clause-jobs c = after c ∙ ap (λ r. first_claimed r.jobs c.args.ticket) c.self.view_is
