-- What the rounds of a drain keep, and that they come to an end.
use Rattle.std.proofs.Common.{◌≡◌, ◌≢◌, ◌⊎◌, ℕ, ◌+◌, ◌-◌, ◌*◌, ◌≤◌, ◌<◌, Bool, true, false, cond, leb, List, [], ◌∷◌, ◌++◌, length, map, min, Option, Some, None, refl, sym, ap, ◌∙◌, inl, inr, subst, arith}
use Rattle.std.specs.Prelude.{IfNone, IsSome, count_by, find, is_none, is_some, option_map, slice_get, sum_by}
use Rattle.std.proofs.lemmas.Bool.{cases_Bool, leb-true, ltb-true}
use Rattle.std.proofs.lemmas.List.{append-nil, length-map}
use Rattle.std.proofs.lemmas.List.Sorted.{length_permutation}
use Rattle.std.proofs.lemmas.List.Sums.{sum_by-cons}
use Rattle.wk_base.specs.Faults.{Rose}
use Rattle.wk_page_rules.specs.Verdict.{MostHeld, max_job}
use Rattle.wk_table_rules.specs.Rows.{StoreTables}
use Rattle.wk_wiki_rules.specs.Jobs.{FanEntry, JobLists, RefreshEntry, first_fan, first_queued, is_claimed, is_queued, queued_again}
use Rattle.wk_wiki_rules.specs.Steps.{by_number, fan_pages}
use Rattle.wk_wiki_rules.proofs.JobLemmas.{by_number-permutes}
use Rattle.wk_wiki_rules.specs.States.{State}
use Rattle.wk_wiki_rules.specs.Events.{Event, Claim, Done, Back, Fan}
use Rattle.wk_wiki_rules.specs.Lives.{reopened, replay, replay_from}
use Rattle.wk_wiki_laws.proofs.Histories.{history-fanned}
use Rattle.wk_wiki_laws.specs.Numbers.{pages_ahead}
use Rattle.wk_wiki_laws.proofs.NumberBounds.{sum-reopened, sum-replay, sum-step}
use Rattle.wk_wiki_laws.proofs.TicketSteps.{fanned-is}
use Rattle.wk_wiki_rules.specs.Room.{tickets_out}
use Rattle.wk_wiki_rules.specs.Starts.{Start}
use Rattle.wk_life_laws.specs.Runs.{IsRun}
use Rattle.wk_life_laws.proofs.RunFacts.{run_kept, run_replayed}
use Rattle.wk_core.specs.Seen.{WikiSeen, is_claim_refused_now, is_fan_refused_now}
use Rattle.wk_core.specs.Steps.{GoesOn, HasMade, HasMadeNothing}
use Rattle.wk_tools.specs.Drains.{CanBeFull, HasNoJob}
use Rattle.wk_tools.specs.Lived.{HasMadeEach, has_save}
use Rattle.wk_tools.specs.Rounds.{Drains, EndsBy, GoesOnBy, IsFull, IsRound, Renews, renewed, by_fan, by_refresh, by_renewal, with_nothing, with_return}
use Rattle.wk_tools.specs.declared.drains.DrainEnd.{DrainEnd}
use Rattle.wk_tools.specs.declared.drains.DrainEnd.TheVariants as end
use Rattle.wk_tools.proofs.FanWork.{fan-works, work}
use Rattle.wk_tools.proofs.LivesOn.{lives-events, lives-renewed, same-life}
use Rattle.wk_tools.proofs.RefreshWork.{back-jobs, done-jobs, fewer-left}

-- the rounds that are left at most: a journal that isn't empty may be renewed once before the next event
abbrev pub rounds_left : {K : Type 0} → WikiSeen K → ℕ
rounds_left wiki = 2 * work wiki.state + min 1 (length wiki.journal)

-- ---- what is left

empty-fans : (fans : List FanEntry) → slice_get fans 0 ≡ None → fans ≡ []
empty-fans [] none = refl
empty-fans (fan ∷ rest) none = absurd (let e : Some fan ≡ None = none in cc)

pub some-fan : (fans : List FanEntry) → 0 < length fans → IsSome (slice_get fans 0)
some-fan [] some = absurd (omega (arith, some))
some-fan (fan ∷ rest) some = refl

pub some-queued : (jobs : List RefreshEntry) → 0 < count_by is_queued jobs → IsSome (option_map (λ (job : RefreshEntry). job.page) (find is_queued jobs))
some-queued [] some = absurd (omega (arith, some))
some-queued (job ∷ jobs) some = elim (cases_Bool (is_queued job)) [
  | inl queued ↦ rw queued refl
  | inr claimed ↦
      let sum = sum_by-cons (λ (j : RefreshEntry). cond {A = ℕ} (is_queued j) 1 0) job jobs in
      let none : cond {A = ℕ} (is_queued job) 1 0 ≡ 0 = ap (λ (b : Bool). cond {A = ℕ} b 1 0) claimed in
      rw claimed (some-queued jobs (omega (arith, sum, none, some)))
]

-- a job is queued or claimed
no-refreshes : (jobs : List RefreshEntry) → count_by is_queued jobs ≡ 0 → count_by is_claimed jobs ≡ 0 → jobs ≡ []
no-refreshes [] queued claimed = refl
no-refreshes (job ∷ jobs) queued claimed = absurd (by job.ticket refl)
  where
    first : count_by is_queued (job ∷ jobs) ≡ cond {A = ℕ} (is_queued job) 1 0 + count_by is_queued jobs
    first = sum_by-cons (λ (j : RefreshEntry). cond {A = ℕ} (is_queued j) 1 0) job jobs

    second : count_by is_claimed (job ∷ jobs) ≡ cond {A = ℕ} (is_claimed job) 1 0 + count_by is_claimed jobs
    second = sum_by-cons (λ (j : RefreshEntry). cond {A = ℕ} (is_claimed j) 1 0) job jobs

    by : (o : Option ℕ) → job.ticket ≡ o → ⊥
    by None is = let one : cond {A = ℕ} (is_queued job) 1 0 ≡ 1 = ap (λ (o : Option ℕ). cond {A = ℕ} (is_none o) 1 0) is in omega (arith, first, one, queued)
    by (Some ticket) is = let one : cond {A = ℕ} (is_claimed job) 1 0 ≡ 1 = ap (λ (o : Option ℕ). cond {A = ℕ} (is_some o) 1 0) is in omega (arith, second, one, claimed)

pub no-job : (state : State) → length state.jobs.fans ≡ 0 → count_by is_queued state.jobs.refreshes ≡ 0 → count_by is_claimed state.jobs.refreshes ≡ 0 → HasNoJob state
no-job state fans queued claimed = record { refreshes = no-refreshes state.jobs.refreshes queued claimed; fans = no-fans state.jobs.fans fans }
  where
    no-fans : (fs : List FanEntry) → length fs ≡ 0 → fs ≡ []
    no-fans [] none = refl
    no-fans (fan ∷ rest) none = absurd (omega (arith, none))

some-first : (state : State) → IsSome (first_fan state.jobs) → ¬ HasNoJob state
some-first state some = λ none. by (first_fan state.jobs) some (ap (λ (fs : List FanEntry). slice_get fs 0) none.fans)
  where
    by : (o : Option FanEntry) → IsSome o → o ≡ None → ⊥
    by None is e = absurd (let f : false ≡ true = is in cc)
    by (Some fan) is e = cc

some-refresh : (state : State) → IsSome (first_queued state.jobs) → ¬ HasNoJob state
some-refresh state some = λ none. by (first_queued state.jobs) some (ap (λ (jobs : List RefreshEntry). option_map (λ (job : RefreshEntry). job.page) (find is_queued jobs)) none.refreshes)
  where
    by : (o : Option ℕ) → IsSome o → o ≡ None → ⊥
    by None is e = absurd (let f : false ≡ true = is in cc)
    by (Some page) is e = cc

-- ---- room in a journal that is empty

none-out : (start : Start) (journal : List Event) (state : State) → IsRun start journal state → journal ≡ [] → tickets_out state ≡ 0
none-out start journal state run empty =
    let replayed = run_replayed start journal state run in
    let both : Some start.state ≡ Some state = sym (ap (replay start.state) empty) ∙ replayed in
    let same : start.state ≡ state = cc in
    ap tickets_out (sym same) ∙ run.none_out

module _ {K : Type 0} (wiki : WikiSeen K) (run : IsRun wiki.start wiki.journal wiki.state) (empty : wiki.journal ≡ []) where
  out-none : tickets_out wiki.state ≡ 0
  out-none = none-out wiki.start wiki.journal wiki.state run empty

  length-none : length wiki.journal ≡ 0
  length-none = ap length empty

  pub fan-full : IsSome (first_fan wiki.state.jobs) → is_fan_refused_now wiki ≡ true → IsFull wiki
  fan-full some refused = record {
    left = some-first wiki.state some;
    cause = elim (cases_Bool (leb wiki.start.limits.journal (length wiki.journal + tickets_out wiki.state))) [
      | inl reached ↦ inl (let low = leb-true wiki.start.limits.journal (length wiki.journal + tickets_out wiki.state) reached in omega (arith, low, out-none, length-none))
      | inr room ↦ inr (ltb-true max_job wiki.state.jobs.next (rw room at refused))
    ];
  }

  pub claim-full : IsSome (first_queued wiki.state.jobs) → is_claim_refused_now wiki ≡ true → IsFull wiki
  claim-full some refused = record {
    left = some-refresh wiki.state some;
    cause = inl (let low = ltb-true wiki.start.limits.journal (length wiki.journal + tickets_out wiki.state + 2) refused in omega (arith, low, out-none, length-none));
  }

  pub claimed-not-empty : 0 < tickets_out wiki.state → ⊥
  claimed-not-empty some = omega (arith, some, out-none)

-- ---- rounds

reopened-none : (state : State) → HasNoJob state → HasNoJob (reopened state)
reopened-none state none = record { refreshes = ap (λ jobs. map queued_again (by_number (λ (job : RefreshEntry). job.number) jobs)) none.refreshes; fans = none.fans }

module _ {K : Type 0} (told : K → Option StoreTables) (faults : K → ℕ) where
  pub same-keeper : (wiki : WikiSeen K) → GoesOn told faults wiki wiki
  same-keeper wiki = record { tells = refl; never_falls = omega arith; whole = λ is. refl }

  pub keeper-then : (old middle new : WikiSeen K) → middle.start.whole ≡ old.start.whole → GoesOn told faults old middle → GoesOn told faults middle new → GoesOn told faults old new
  keeper-then old middle new same first second = record {
    tells = second.tells ∙ first.tells;
    never_falls = let a = first.never_falls in let b = second.never_falls in omega (arith, a, b);
    whole = λ is. second.whole (same ∙ is) ∙ first.whole is;
  }

  pub drains-begin : (wiki : WikiSeen K) → Drains told faults wiki wiki
  drains-begin wiki = record {
    lives = same-life wiki;
    limits = refl;
    whole = refl;
    unsealed = λ is. is;
    history = refl;
    left = λ none. none;
    ahead = omega arith;
    keeper = same-keeper wiki;
  }

  module _ (old middle new : WikiSeen K) (run : IsRun middle.start middle.journal middle.state) (before : Drains told faults old middle) (keeper : GoesOn told faults middle new) where
    -- events that are no saves, in a state in which some job is left
    by-events : (events : List Event) → new.start ≡ middle.start → new.journal ≡ middle.journal ++ events → has_save events ≡ false → new.state.history ≡ middle.state.history → ¬ HasNoJob middle.state
        → new.state.jobs.next + pages_ahead new.state ≤ middle.state.jobs.next + pages_ahead middle.state → Drains told faults old new
    by-events events start journal unsaved history some sum = record {
      lives = lives-events old middle new events before.lives start journal unsaved;
      limits = ap (λ (s : Start). s.limits) start ∙ before.limits;
      whole = ap (λ (s : Start). s.whole) start ∙ before.whole;
      unsealed = λ is. ap (λ (s : Start). s.sealed) start ∙ before.unsealed is;
      history = history ∙ before.history;
      left = λ none. absurd (some (before.left none));
      ahead = let first = before.ahead in omega (arith, first, sum);
      keeper = keeper-then old middle new before.whole before.keeper keeper;
    }

    by-each : (events : List Event) → has_save events ≡ false → HasMadeEach middle new events → new.state.history ≡ middle.state.history → ¬ HasNoJob middle.state → Drains told faults old new
    by-each events unsaved each history some =
        by-events events each.start each.journal unsaved history some
        (sum-replay fan_pages middle.state new.state (length middle.journal) events (run_kept middle.start middle.journal middle.state run).formed unsaved each.replayed)

    by-fan : HasMade middle new Fan → Drains told faults old new
    by-fan made =
        let is = fanned-is fan_pages middle.state new.state (length middle.journal) made.stepped in
        by-events (Fan ∷ []) made.start made.journal refl (history-fanned fan_pages middle.state new.state (length middle.journal) made.stepped)
        (some-first middle.state (rw is.1.0 refl))
        (sum-step fan_pages middle.state new.state (length middle.journal) Fan (run_kept middle.start middle.journal middle.state run).formed refl made.stepped)

    by-refresh : HasMadeEach middle new (Claim ∷ Done (length middle.journal + 1) ∷ []) → Drains told faults old new
    by-refresh each =
        let jobs = done-jobs middle.start middle.journal middle.state run new.state each.replayed in
        by-each (Claim ∷ Done (length middle.journal + 1) ∷ []) refl each jobs.1.1.1 (some-refresh middle.state (rw jobs.1.0 refl))

    by-return : HasMadeEach middle new (Claim ∷ Back (length middle.journal + 1) ∷ []) → Drains told faults old new
    by-return each =
        let jobs = back-jobs middle.start middle.journal middle.state run new.state each.replayed in
        by-each (Claim ∷ Back (length middle.journal + 1) ∷ []) refl each jobs.1.1.1 (some-refresh middle.state (rw jobs.1.0 refl))

    by-renewal : Renews middle new → Drains told faults old new
    by-renewal renews = record {
      lives = lives-renewed old middle new run before.lives renews.is;
      limits = ap (λ (w : WikiSeen K). w.start.limits) renews.is ∙ before.limits;
      whole = ap (λ (w : WikiSeen K). w.start.whole) renews.is ∙ before.whole;
      unsealed = λ is. ap (λ (w : WikiSeen K). w.start.sealed) renews.is;
      history = ap (λ (w : WikiSeen K). w.state.history) renews.is ∙ before.history;
      left = λ none. subst (λ (w : WikiSeen K). HasNoJob w.state) (sym renews.is) (reopened-none middle.state (before.left none));
      ahead =
          let first = before.ahead in
          let sum = sum-reopened middle.state (run_kept middle.start middle.journal middle.state run).numbered in
          subst (λ (w : WikiSeen K). w.state.jobs.next + pages_ahead w.state ≤ old.state.jobs.next + pages_ahead old.state) (sym renews.is) (omega (arith, first, sum));
      keeper = keeper-then old middle new before.whole before.keeper keeper;
    }

    by-nothing : HasMadeNothing told middle new → Drains told faults old new
    by-nothing nothing = record {
      lives = lives-events old middle new [] before.lives (ap (λ (w : WikiSeen K). w.start) nothing.wiki) (ap (λ (w : WikiSeen K). w.journal) nothing.wiki ∙ sym (append-nil middle.journal)) refl;
      limits = ap (λ (w : WikiSeen K). w.start.limits) nothing.wiki ∙ before.limits;
      whole = ap (λ (w : WikiSeen K). w.start.whole) nothing.wiki ∙ before.whole;
      unsealed = λ is. ap (λ (w : WikiSeen K). w.start.sealed) nothing.wiki ∙ before.unsealed is;
      history = ap (λ (w : WikiSeen K). w.state.history) nothing.wiki ∙ before.history;
      left = λ none. subst (λ (w : WikiSeen K). HasNoJob w.state) (sym nothing.wiki) (before.left none);
      ahead = subst (λ (w : WikiSeen K). w.state.jobs.next + pages_ahead w.state ≤ old.state.jobs.next + pages_ahead old.state) (sym nothing.wiki) before.ahead;
      keeper = keeper-then old middle new before.whole before.keeper keeper;
    }

    by-round : GoesOnBy middle new → Drains told faults old new
    by-round (by_fan made) = by-fan made
    by-round (by_refresh each) = by-refresh each
    by-round (by_renewal is) = by-renewal is

    by-last : EndsBy told middle new → Drains told faults old new
    by-last (with_nothing nothing) = by-nothing nothing
    by-last (with_return each) = by-return each

  -- ---- how a drain goes on and ends

  pub drains-on : (old middle new : WikiSeen K) (answer : Option DrainEnd) → IsRun middle.start middle.journal middle.state → Drains told faults old middle → IsRound told faults middle new answer → Drains told faults old new
  drains-on old middle new None run before round = by-round old middle new run before round.keeper round.goes
  drains-on old middle new (Some answer) run before round = by-last old middle new run before round.keeper (round.ends refl)

  pub full-before : (old now : WikiSeen K) → Drains told faults old now → IsFull now → CanBeFull old
  full-before old now drains full = record {
    left = λ none. full.left (drains.left none);
    cause = by full.cause;
  }
    where
      by : (now.start.limits.journal < 2) ⊎ (max_job < now.state.jobs.next) → (old.start.limits.journal < 2) ⊎ (max_job < old.state.jobs.next + pages_ahead old.state)
      by (inl low) = inl (subst (λ (m : MostHeld). m.journal < 2) drains.limits low)
      by (inr past) = inr (let sum = drains.ahead in omega (arith, sum, past))

-- ---- the rounds come to an end

refresh-works : (start : Start) (journal : List Event) (state next : State) → IsRun start journal state → replay_from fan_pages state (length journal) (Claim ∷ Done (length journal + 1) ∷ []) ≡ Some next → work next < work state
refresh-works start journal state next run done =
    let jobs = done-jobs start journal state run next done in
    let fans : next.jobs.fans ≡ state.jobs.fans = ap (λ (lists : JobLists). lists.fans) jobs.1.1.0 in
    let many : length next.jobs.fans ≡ length state.jobs.fans = ap length fans in
    let ahead : pages_ahead next ≡ pages_ahead state = λ i. sum_by (λ (fan : FanEntry). length (jobs.1.1.1 i).pages - fan.cursor) (fans i) in
    let fewer = fewer-left start journal state run next done in
    omega (arith, many, ahead, fewer)

reopened-works : (state : State) → work (reopened state) ≡ work state
reopened-works state =
    let permuted = length_permutation state.jobs.refreshes (by_number (λ (job : RefreshEntry). job.number) state.jobs.refreshes) (by_number-permutes (λ (job : RefreshEntry). job.number) state.jobs.refreshes) in
    let same : length (map queued_again (by_number (λ (job : RefreshEntry). job.number) state.jobs.refreshes)) ≡ length state.jobs.refreshes = length-map (by_number (λ (job : RefreshEntry). job.number) state.jobs.refreshes) queued_again ∙ permuted in
    omega (arith, same)

module _ {K : Type 0} where
  one-less : (old new : WikiSeen K) → work new.state < work old.state → rounds_left new < rounds_left old
  one-less old new less = omega (arith, less)

  pub falls : (old new : WikiSeen K) → IsRun old.start old.journal old.state → GoesOnBy old new → rounds_left new < rounds_left old
  falls old new run (by_fan made) = one-less old new (fan-works fan_pages old.state new.state (length old.journal) (omega arith) (run_kept old.start old.journal old.state run).formed made.stepped)
  falls old new run (by_refresh each) = one-less old new (refresh-works old.start old.journal old.state new.state run each.replayed)
  falls old new run (by_renewal is) =
      let same : work new.state ≡ work old.state = ap (λ (w : WikiSeen K). work w.state) is.is ∙ reopened-works old.state in
      let empty : length new.journal ≡ 0 = ap (λ (w : WikiSeen K). length w.journal) is.is in
      let some = is.some in
      omega (arith, same, empty, some)

-- ---- what one round answers

pub nothing-same : {K : Type 0} (told : K → Option StoreTables) (old new : WikiSeen K) → new ≡ old → HasMadeNothing told old new
nothing-same told old new same = record {
  wiki = subst (λ (w : WikiSeen _). w ≡ record old { keeper = w.keeper }) (sym same) refl;
  tables = ap (λ (w : WikiSeen _). told w.keeper) same;
}

module _ {K : Type 0} (told : K → Option StoreTables) (faults : K → ℕ) where
  goes-same : (old new : WikiSeen K) → new.keeper ≡ old.keeper → GoesOn told faults old new
  goes-same old new same = record {
    tells = ap (λ k. is_some (told k)) same;
    never_falls = let e = ap faults same in omega (arith, e);
    whole = λ is. ap faults same;
  }

  pub round-goes : (old new : WikiSeen K) → GoesOnBy old new → GoesOn told faults old new → faults new.keeper ≡ faults old.keeper → IsRound told faults old new None
  round-goes old new goes keeper count = record {
    goes = goes;
    ends = λ some. absurd (let e : false ≡ true = some in cc);
    done = λ e. absurd cc;
    full = λ e. absurd cc;
    fault = λ e. absurd cc;
    no_fault = λ _. count;
    keeper = keeper;
  }

  pub round-faults : (old new : WikiSeen K) → EndsBy told old new → Rose (faults old.keeper) (faults new.keeper) → GoesOn told faults old new → IsRound told faults old new (Some end.StoreFault)
  round-faults old new ends rose keeper = record {
    goes = tt;
    ends = λ some. ends;
    done = λ e. absurd cc;
    full = λ e. absurd cc;
    fault = λ e. rose;
    no_fault = λ other. absurd (other refl);
    keeper = keeper;
  }

  pub round-lacks : (old new : WikiSeen K) → EndsBy told old new → GoesOn told faults old new → faults new.keeper ≡ faults old.keeper → IsRound told faults old new (Some end.Memory)
  round-lacks old new ends keeper count = record {
    goes = tt;
    ends = λ some. ends;
    done = λ e. absurd cc;
    full = λ e. absurd cc;
    fault = λ e. absurd cc;
    no_fault = λ _. count;
    keeper = keeper;
  }

  pub round-done : (wiki : WikiSeen K) → HasNoJob wiki.state → IsRound told faults wiki wiki (Some end.Done)
  round-done wiki none = record {
    goes = tt;
    ends = λ some. with_nothing (nothing-same told wiki wiki refl);
    done = λ e. none;
    full = λ e. absurd cc;
    fault = λ e. absurd cc;
    no_fault = λ _. refl;
    keeper = same-keeper told faults wiki;
  }

  -- where a journal was to begin anew
  pub round-renews : (old middle new : WikiSeen K) (answer : Option DrainEnd) → HasMadeNothing told old middle → GoesOn told faults old middle → faults middle.keeper ≡ faults old.keeper → middle.start.whole ≡ old.start.whole
      → IfNone answer (Renews middle new) → (IsSome answer → new ≡ middle) → (answer ≡ Some end.JournalFull → middle.journal ≡ []) → answer ≢ Some end.Done → answer ≢ Some end.StoreFault → new.keeper ≡ middle.keeper
      → (old.journal ≡ [] → IsFull old) → IsRound told faults old new answer
  round-renews old middle new answer nothing goes_on count same renews ends full not_done no_fault keeper is_full = record {
    goes = by answer renews;
    ends = λ some. with_nothing (subst (λ (w : WikiSeen K). HasMadeNothing told old w) (sym (ends some)) nothing);
    done = λ e. absurd (not_done e);
    full = λ e. is_full (sym (ap (λ (w : WikiSeen K). w.journal) nothing.wiki) ∙ full e);
    fault = λ e. absurd (no_fault e);
    no_fault = λ _. ap faults keeper ∙ count;
    keeper = keeper-then told faults old middle new same goes_on (goes-same middle new keeper);
  }
    where
      by : (o : Option DrainEnd) → IfNone o (Renews middle new) → IfNone o (GoesOnBy old new)
      by None is = by_renewal (record {
        some = let many = ap (λ (w : WikiSeen K). length w.journal) nothing.wiki in let few = is.some in omega (arith, many, few);
        is = is.is ∙ ap (λ (w : WikiSeen K). record (renewed w) { keeper = new.keeper }) nothing.wiki;
      })
      by (Some answer) is = tt
