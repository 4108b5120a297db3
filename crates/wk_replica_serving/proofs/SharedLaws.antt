-- What the lines of a feed tell that are taken of a replica that threads share.
use Rattle.std.proofs.Common.{◌≡◌, ℕ, ◌+◌, ◌<◌, true, false, List, [], ◌∷◌, ◌++◌, length, Option, None, Some, refl, sym, ap, ◌∙◌, subst, arith, length-append, append-nil, inl, inr}
use Rattle.std.specs.Prelude.{◌^◌, ◌⊎◌, IfErr, IsSome, OnOk, Result, Ok, Err}
use mathlib.Core.List.{IsPrefix}
use Rattle.wk_wiki_rules.specs.Events.{Event}
use Rattle.wk_wiki_rules.specs.Starts.{Start}
use Rattle.wk_wiki_rules.specs.States.{State}
use Rattle.wk_wiki_rules.specs.Steps.{fan_pages}
use Rattle.wk_wiki_laws.proofs.Parts.{replay-calls}
use Rattle.wk_life_laws.specs.Runs.{IsRun}
use Rattle.wk_lines.specs.Reading.{Reading, Reads, ReadsToEnd}
use Rattle.wk_feed_rules.specs.Taking.{FeedRun, FeedSoFar, loading, running}
use Rattle.wk_turn.specs.Told.{Begun, Story}
use Rattle.wk_replica.specs.Replicas.{ReplicaBegun, ReplicaSeen, lines_taken, so_far}
use Rattle.wk_replica.specs.Taken.{HasTakenLine}
use Rattle.wk_replica.specs.declared.refusal.TakeRefusal.{TakeRefusal}
use Rattle.wk_replica.specs.declared.refusal.TakeRefusal.TheVariants as refusal
use Rattle.wk_replica_reads.specs.Taking.{DoesLine, IsDoneIn, TakesLine}
use Rattle.wk_replica_serving.specs.Feeds.{EndsFeed, HasTakenFeed}
use Rattle.wk_replica_serving.specs.Reads.{IsUnread}
use Rattle.wk_replica_serving.specs.Taken.{HasTakenShared, IsAlone, TakesAlone}
use Rattle.wk_replica_serving.specs.declared.ends.FeedEnd.{FeedEnd}
use Rattle.wk_replica_serving.specs.declared.ends.FeedEnd.TheVariants as feed_end
use Rattle.wk_replica_serving.proofs.FeedLaws.{bad-behind, much-read, takes-on, tells-all}

abbrev pub Pass : Type 0
Pass = Story ReplicaBegun Event

-- ---- what a replica tells whose parts are known

run-told : (line : Option ℕ) (number : ℕ) (r : ReplicaSeen) (from : State) (events : List Event) (state : State) → line ≡ Some number
    → r.start.wiki.state ≡ from → r.journal ≡ events → r.state ≡ state
    → (elim line as (λ l. FeedSoFar) [ None ↦ loading r.rows | Some n ↦ running (record { from = r.start.wiki.state; events = r.journal; state = r.state }) ])
    ≡ running (record { from = from; events = events; state = state })
run-told None number r from events state is f e s = absurd (let none : None ≡ Some number = is in cc)
run-told (Some n) number r from events state is f e s = λ i. running (record { from = f i; events = e i; state = s i })

count-told : (line : Option ℕ) (number : ℕ) (r : ReplicaSeen) (events : List Event) → line ≡ Some number → r.journal ≡ events
    → (elim line as (λ l. ℕ) [ None ↦ length r.rows | Some n ↦ n + length r.journal ]) ≡ number + length events
count-told None number r events is e = absurd (let none : None ≡ Some number = is in cc)
count-told (Some n) number r events is e =
    let same : n ≡ number = cc in
    ap (λ k. k + length r.journal) same ∙ ap (λ (l : List Event). number + length l) e

-- a journal leads to one state
pub one-state : (start : Start) (journal : List Event) (a b : State) → IsRun start journal a → IsRun start journal b → a ≡ b
one-state start journal a b one two =
    let first = replay-calls fan_pages start.limits start.state a journal one.calls in
    let second = replay-calls fan_pages start.limits start.state b journal two.calls in
    let same : Some a ≡ Some b = sym first ∙ second in
    cc

-- nothing stands behind a beginning that is as long
as-long : (old journal : List Event) → IsPrefix old journal → length journal ≡ length old → journal ≡ old
as-long old journal ([], is) same = sym is ∙ append-nil old
as-long old journal (e ∷ more, is) same =
    let longer = ap (λ (l : List Event). length l) is in
    absurd (omega (arith, longer, same, length-append old (e ∷ more)))

-- ---- lines that are taken

module _ (shared : Begun ReplicaBegun) (old new : Pass) (rest from later : Option (List ℕ)) (r q : Reading) (h : HasTakenShared shared old r rest from)
    (line : List ℕ) (reads : Reads r q from later (Some line ∷ [])) (few : q.total < 2 ^ 40 + 2 ^ 13) where
  module _ (before : ReplicaSeen) (start : before.start ≡ shared.start) (run : IsRun before.start.wiki before.journal before.state) (same : before.journal ≡ old.seen) where
    before-line : before.start.line ≡ Some h.line
    before-line = ap (λ (s : ReplicaBegun). s.line) start ∙ h.line_is

    before-state : before.state ≡ h.state
    before-state =
        one-state shared.start.wiki old.seen before.state h.state
        (subst (λ (s : ReplicaBegun). IsRun s.wiki old.seen before.state) start (subst (λ j. IsRun before.start.wiki j before.state) same run)) h.run

    before-told : so_far before ≡ running (record { from = shared.start.wiki.state; events = old.seen; state = h.state })
    before-told =
        run-told before.start.line h.line before shared.start.wiki.state old.seen h.state before-line (ap (λ (s : ReplicaBegun). s.wiki.state) start) same before-state

    before-count : lines_taken before ≡ h.line + length old.seen
    before-count = count-told before.start.line h.line before old.seen before-line same

    feed-before : HasTakenFeed rest from r (so_far before) (lines_taken before)
    feed-before =
        subst (λ n. HasTakenFeed rest from r (so_far before) n) (sym before-count)
        (subst (λ s. HasTakenFeed rest from r s (h.line + length old.seen)) (sym before-told) h.taken)

    took-line : (after : ReplicaSeen) → new.seen ≡ after.journal → HasTakenLine before line after → IsRun after.start.wiki after.journal after.state → HasTakenShared shared new q rest later
    took-line after all takes later_run =
        let goes = takes.goes_on.event h.line before-line in
        let began : after.start ≡ shared.start = goes.start ∙ start in
        let line_is : after.start.line ≡ Some h.line = ap (λ (s : ReplicaBegun). s.line) began ∙ h.line_is in
        let tells = takes-on rest from later r q (so_far before) (lines_taken before) feed-before line (so_far after) (lines_taken after) reads takes.told takes.goes_on.lines in
        let is = run-told after.start.line h.line after shared.start.wiki.state new.seen after.state line_is (ap (λ (s : ReplicaBegun). s.wiki.state) began) (sym all) refl in
        let count = count-told after.start.line h.line after new.seen line_is (sym all) in
        record {
          line = h.line;
          line_is = h.line_is;
          state = after.state;
          run = subst (λ (s : ReplicaBegun). IsRun s.wiki new.seen after.state) began (subst (λ j. IsRun after.start.wiki j after.state) (sym all) later_run);
          taken =
              subst (λ n. HasTakenFeed rest later q (running (record { from = shared.start.wiki.state; events = new.seen; state = after.state })) n) count
              (subst (λ s. HasTakenFeed rest later q s (lines_taken after)) is tells);
        }

  -- what becomes of a line
  abbrev Becomes : Result (Unit {0}) FeedEnd → Type 0
  Becomes (Ok done) = HasTakenShared shared new q rest later
  Becomes (Err why) = EndsFeed rest later (length new.seen) why

  one-before : (before after : List Event) (e : Event) → new.seen ≡ after → after ≡ before ++ e ∷ [] → length new.seen ≡ length old.seen + 1 → length before ≡ length old.seen
  one-before before after e all is count =
      let a = ap (λ (l : List Event). length l) (all ∙ is) in
      omega (arith, a, count, length-append before (e ∷ []))

  done-line : (taken : Result (Unit {0}) TakeRefusal) (result : Result (Unit {0}) FeedEnd) → IsDoneIn shared old new (λ before after. DoesLine before line after taken)
      → IsAlone (length old.seen) (length new.seen) taken result → Becomes result
  done-line (Ok one) (Ok done) d alone =
      let goes = d.did.0.goes_on.event h.line (ap (λ (s : ReplicaBegun). s.line) d.start ∙ h.line_is) in
      let same = as-long old.seen d.before.journal d.seen (one-before d.before.journal d.after.journal goes.event d.all goes.journal alone.1) in
      took-line d.before d.start d.did.1.0 same d.after d.all d.did.0 d.did.1.1
  done-line (Err why) (Ok done) d alone = absurd (let off : Err why ≡ Ok done = alone.0 in cc)
  done-line taken (Err feed_end.Ended) d alone = absurd alone
  done-line taken (Err feed_end.ReadFault) d alone = absurd alone
  done-line taken (Err feed_end.Bound) d alone = absurd alone
  done-line taken (Err feed_end.Memory) d alone = tt
  done-line (Ok done) (Err (feed_end.Bad number)) d alone = absurd (let off : Ok done ≡ Err (refusal.BadLine number) = alone.0 in cc)
  done-line (Err refusal.Memory) (Err (feed_end.Bad number)) d alone = absurd (let off : Err refusal.Memory ≡ Err (refusal.BadLine number) = alone.0 in cc)
  done-line (Err (refusal.BadLine n)) (Err (feed_end.Bad number)) d alone =
      let off : Err (refusal.BadLine n) ≡ Err (refusal.BadLine number) = alone.0 in
      let number_is : n ≡ number = cc in
      let kept = ap (λ (s : ReplicaSeen). s.journal) d.did.0.2 in
      let count = ap (λ (l : List Event). length l) (sym kept ∙ sym d.all) in
      let same = as-long old.seen d.before.journal d.seen (count ∙ alone.1) in
      bad-behind rest from later r q (so_far d.before) (lines_taken d.before) (feed-before d.before d.start d.did.1.0 same) line number reads few
      (sym number_is ∙ d.did.0.0) d.did.0.1

  wanting : (taken : Result (Unit {0}) TakeRefusal) (result : Result (Unit {0}) FeedEnd) → taken ≡ Err refusal.Memory
      → IsAlone (length old.seen) (length new.seen) taken result → Becomes result
  wanting taken (Ok done) is alone = absurd (let off : Err refusal.Memory ≡ Ok done = sym is ∙ alone.0 in cc)
  wanting taken (Err feed_end.Ended) is alone = absurd alone
  wanting taken (Err feed_end.ReadFault) is alone = absurd alone
  wanting taken (Err feed_end.Bound) is alone = absurd alone
  wanting taken (Err feed_end.Memory) is alone = tt
  wanting taken (Err (feed_end.Bad number)) is alone = absurd (let off : Err refusal.Memory ≡ Err (refusal.BadLine number) = sym is ∙ alone.0 in cc)

  line-becomes : (result : Result (Unit {0}) FeedEnd) → TakesAlone shared old new line result → Becomes result
  line-becomes result (taken, (inl d, alone)) = done-line taken result d alone
  line-becomes result (taken, (inr none, alone)) = wanting taken result none.1 alone

-- what came of a line, as it is told by how much was seen before it and behind it
pub alone-of : (shared : Begun ReplicaBegun) (old new : Pass) (line : List ℕ) (before behind : ℕ) (taken : Result (Unit {0}) TakeRefusal) (result : Result (Unit {0}) FeedEnd)
    → before ≡ length old.seen → behind ≡ length new.seen → TakesLine shared old new line taken → IsAlone before behind taken result → TakesAlone shared old new line result
alone-of shared old new line before behind taken result first last takes alone = (
  taken,
  (
    takes,
    subst (λ n. IsAlone (length old.seen) n taken result) last (subst (λ n. IsAlone n behind taken result) first alone),
  ),
)

-- a line was taken
pub took-shared : (shared : Begun ReplicaBegun) (old new : Pass) (from later : Option (List ℕ)) (r q : Reading) (line : List ℕ) (result : Result (Unit {0}) FeedEnd)
    → Reads r q from later (Some line ∷ []) → q.total < 2 ^ 40 + 2 ^ 13 → TakesAlone shared old new line result
    → OnOk result ((rest : Option (List ℕ)) → HasTakenShared shared old r rest from → HasTakenShared shared new q rest later)
took-shared shared old new from later r q line (Ok done) reads few takes = λ rest h. line-becomes shared old new rest from later r q h line reads few (Ok done) takes
took-shared shared old new from later r q line (Err why) reads few takes = tt

-- or no line was
pub refused-shared : (shared : Begun ReplicaBegun) (old new : Pass) (from later : Option (List ℕ)) (r q : Reading) (line : List ℕ) (result : Result (Unit {0}) FeedEnd)
    → Reads r q from later (Some line ∷ []) → q.total < 2 ^ 40 + 2 ^ 13 → TakesAlone shared old new line result
    → IfErr result (λ why. (rest : Option (List ℕ)) → HasTakenShared shared old r rest from → EndsFeed rest later (length new.seen) why)
refused-shared shared old new from later r q line (Ok done) reads few takes = tt
refused-shared shared old new from later r q line (Err why) reads few takes = λ rest h. line-becomes shared old new rest from later r q h line reads few (Err why) takes

-- that is neither a failed read nor the input's end
unfailed-alone : (before behind : ℕ) (taken : Result (Unit {0}) TakeRefusal) (result : Result (Unit {0}) FeedEnd) (why : FeedEnd) → IsAlone before behind taken result
    → (why ≡ feed_end.ReadFault) ⊎ (why ≡ feed_end.Ended) → result ≡ Err why → ⊥
unfailed-alone before behind taken result why alone (inl fault) is = subst (IsAlone before behind taken) (is ∙ ap Err fault) alone
unfailed-alone before behind taken result why alone (inr ended) is = subst (IsAlone before behind taken) (is ∙ ap Err ended) alone

pub unfailed-shared : (shared : Begun ReplicaBegun) (old new : Pass) (line : List ℕ) (result : Result (Unit {0}) FeedEnd) (why : FeedEnd) → TakesAlone shared old new line result
    → (why ≡ feed_end.ReadFault) ⊎ (why ≡ feed_end.Ended) → result ≡ Err why → ⊥
unfailed-shared shared old new line result why takes which is = unfailed-alone (length old.seen) (length new.seen) takes.0 result why takes.1.1 which is

-- the input is at its end
pub ended-shared : (shared : Begun ReplicaBegun) (pass : Pass) (from later : Option (List ℕ)) (r q : Reading) (given : List (Option (List ℕ)))
    → ReadsToEnd r q from later given → q.total < 2 ^ 40 + 2 ^ 13 → (rest : Option (List ℕ)) → HasTakenShared shared pass r rest from → EndsFeed rest later (length pass.seen) feed_end.Ended
ended-shared shared pass from later r q given ends few rest h =
    let run : FeedRun = record { from = shared.start.wiki.state; events = pass.seen; state = h.state } in
    (ends.ended, record { run = run; all = tells-all rest from later r q (running run) (h.line + length pass.seen) h.taken given ends few; counted = refl })

-- nothing was read
pub unread-shared : (shared : Begun ReplicaBegun) (pass : Pass) (from later : Option (List ℕ)) (r q : Reading) (why : FeedEnd) → IsUnread r q from later why
    → (rest : Option (List ℕ)) → HasTakenShared shared pass r rest from → EndsFeed rest later (length pass.seen) why
unread-shared shared pass from later r q feed_end.Ended none rest h = absurd none
unread-shared shared pass from later r q (feed_end.Bad n) none rest h = absurd none
unread-shared shared pass from later r q feed_end.ReadFault none rest h = tt
unread-shared shared pass from later r q feed_end.Bound none rest h =
    much-read rest from later r q (running (record { from = shared.start.wiki.state; events = pass.seen; state = h.state })) (h.line + length pass.seen) h.taken none
unread-shared shared pass from later r q feed_end.Memory none rest h = tt

-- ---- the replica is shared

some-line : (line : Option ℕ) → IsSome line → (number : ℕ) × (line ≡ Some number)
some-line None is = absurd (let e : false ≡ true = is in cc)
some-line (Some number) is = (number, refl)

-- The pass of who shared it has seen what was taken before.
pub shares : (shared : Begun ReplicaBegun) (pass : Pass) (r : Reading) (replica : ReplicaSeen) → shared.start ≡ replica.start → pass.seen ≡ replica.journal
    → IsSome replica.start.line → IsRun replica.start.wiki replica.journal replica.state
    → (rest from : Option (List ℕ)) → HasTakenFeed rest from r (so_far replica) (lines_taken replica) → HasTakenShared shared pass r rest from
shares shared pass r replica start seen begun run rest from h =
    let found = some-line replica.start.line begun in
    let line_is : shared.start.line ≡ Some found.0 = ap (λ (s : ReplicaBegun). s.line) start ∙ found.1 in
    let told = run-told replica.start.line found.0 replica shared.start.wiki.state pass.seen replica.state found.1 (ap (λ (s : ReplicaBegun). s.wiki.state) (sym start)) (sym seen) refl in
    let count = count-told replica.start.line found.0 replica pass.seen found.1 (sym seen) in
    record {
      line = found.0;
      line_is = line_is;
      state = replica.state;
      run = subst (λ (s : ReplicaBegun). IsRun s.wiki pass.seen replica.state) (sym start) (subst (λ j. IsRun replica.start.wiki j replica.state) (sym seen) run);
      taken =
          subst (λ n. HasTakenFeed rest from r (running (record { from = shared.start.wiki.state; events = pass.seen; state = replica.state })) n) count
          (subst (λ s. HasTakenFeed rest from r s (lines_taken replica)) told h);
    }
