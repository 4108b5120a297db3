-- Why a command finds no room.
use Rattle.std.proofs.Common.{◌≡◌, ◌≤◌, ◌<◌, ℕ, ◌+◌, ◌*◌, Bool, List, ◌++◌, length, take, Option, Some, None, IfSome, Result, refl, sym, ap, ◌∙◌, subst, inl, inr, arith}
use Rattle.std.specs.Prelude.{slice_get}
use Rattle.wk_page_rules.specs.Verdict.{EditAsked, MostHeld, Refusal, max_job, refuse}
use Rattle.wk_page_rules.specs.Verdict as judged
use Rattle.wk_table_rules.specs.GoodStore.{first_broken}
use Rattle.wk_table_rules.specs.Rows.{StoreTables}
use Rattle.wk_wiki_rules.specs.States.{State}
use Rattle.wk_wiki_rules.specs.Events.{Event}
use Rattle.wk_wiki_rules.specs.Lives.{opened}
use Rattle.wk_wiki_rules.specs.Verdicts.{verdict_in}
use Rattle.wk_wiki_rules.specs.Starts.{Start}
use Rattle.wk_tool_rules.specs.Generator.{generated}
use Rattle.wk_tool_rules.specs.Saving.{SavesMade, saves_made}
use Rattle.wk_revs.specs.Verdict.{refusal_of}
use Rattle.wk_revs.specs.declared.verdict.SaveRefusal.{SaveRefusal}
use Rattle.wk_revs.specs.declared.verdict.SaveRefusal.TheVariants as saves
use Rattle.wk_core.specs.Loads.{HasOpened}
use Rattle.wk_core.specs.Seen.{WikiSeen, verdict_now}
use Rattle.wk_core.specs.declared.outcomes.LoadCause.{LoadCause}
use Rattle.wk_core.specs.declared.outcomes.LoadCause.TheVariants as cause
use Rattle.wk_tools.specs.Drains.{CanBeFull}
use Rattle.wk_tools.specs.Saves.{HasSaved, IsRefusedAt, made_of}
use Rattle.wk_cli_laws.proofs.Ahead.{pages-ahead}
use Rattle.wk_cli_laws.proofs.Fits.{edit-refused}
use Rattle.wk_commands.specs.Generated.{IsGenerated, end_of_refusal}
use Rattle.wk_commands.specs.Generated as made
use Rattle.wk_commands.specs.Fed.{HasFedAt, HasServedSo}
use Rattle.wk_commands.specs.Fed as feeding
use Rattle.wk_commands.specs.declared.replicas.ReplicaEnd.{ReplicaEnd}
use Rattle.wk_commands.specs.declared.replicas.ReplicaEnd.TheVariants as replica
use Rattle.wk_commands.specs.Served.{HasServedAt}
use Rattle.wk_commands.specs.Served as served
use Rattle.wk_commands.specs.Worked.{IsServedOn, IsWorked, IsWorkedOn, limits_with_journal}
use Rattle.wk_commands.specs.Worked as worked
use Rattle.wk_commands.specs.declared.ends.CommandEnd.{CommandEnd}
use Rattle.wk_commands.specs.declared.ends.CommandEnd.TheVariants as command
use Rattle.wk_commands.specs.declared.works.Work.{Work}
use Rattle.wk_commands.specs.declared.works.Work.TheVariants as asks
use Rattle.wk_script.specs.declared.script.ScriptEnd.{ScriptEnd}
use Rattle.wk_script.specs.declared.script.ScriptEnd.TheVariants as end
use Rattle.wk_script_runs.specs.Outside.{Outside}
use Rattle.wk_words.specs.Verdicts.{Wanted, runs}
use Rattle.wk_words.specs.declared.commands.Command.{Command}
use Rattle.wk_words.specs.declared.commands.Command.TheVariants.{Script, Serve, Jobs, Check, Generate, Report, Replica}
use Rattle.wk_cli.specs.Statuses.{status_of_cause, status_of_command, status_of_end, status_of_replica, status_of_work}
use Rattle.wk_cli.specs.Scripted.{IsOpened, IsOver, IsScripted, VaultStore}
use Rattle.wk_cli.specs.Scripted as script
use Rattle.wk_cli.specs.Works.{DoorSeen, IsServedAt, IsWorkedAt}
use Rattle.wk_cli.specs.Works as work
use Rattle.wk_cli.specs.Finished.{IsCarriedOut, IsFinished, IsShown, VaultTold, store_named, work_of}
use Rattle.wk_cli.specs.Finished as finished
use Rattle.wk_cli.specs.declared.ends.Finish.{Finish}
use Rattle.wk_cli.proofs.Ended.{report-not}
use Rattle.wk_cli_laws.specs.Full.{CannotDrain, CannotDrainBehind, FindsNoRoom, HasNoRoom, IsRefusedForRoom, first_saves}

-- ---- statuses

command-is-full : (end : CommandEnd) → status_of_command end ≡ 10 → end ≡ command.Full
command-is-full command.Full is = refl
command-is-full command.Done is = absurd (omega (arith, is))
command-is-full command.Differs is = absurd (omega (arith, is))
command-is-full command.StoreFault is = absurd (omega (arith, is))
command-is-full command.WriteFault is = absurd (omega (arith, is))
command-is-full command.DoorFault is = absurd (omega (arith, is))
command-is-full command.Memory is = absurd (omega (arith, is))

no-cause-ten : (why : LoadCause) → status_of_cause why ≡ 10 → ⊥
no-cause-ten cause.Memory is = omega (arith, is)
no-cause-ten cause.StoreFault is = omega (arith, is)
no-cause-ten (cause.BadStore bad) is = omega (arith, is)

no-end-ten : (how : ScriptEnd) → status_of_end how ≡ 10 → ⊥
no-end-ten end.Done is = omega (arith, is)
no-end-ten end.Memory is = omega (arith, is)
no-end-ten end.ReadFault is = omega (arith, is)
no-end-ten end.WriteFault is = omega (arith, is)
no-end-ten end.StoreFault is = omega (arith, is)
no-end-ten (end.BadStore bad) is = omega (arith, is)
no-end-ten end.Bound is = omega (arith, is)

-- ---- refusals

-- a refusal at which the command finds no room is one of the rules
refusal-named : (why : SaveRefusal) → command.Full ≡ end_of_refusal why → (found : Refusal) × (refusal_of why ≡ Some found)
refusal-named saves.InvalidTitle is = (judged.invalid_title, refl)
refusal-named saves.ContentTooBig is = (judged.content_too_big, refl)
refusal-named saves.ArticleExists is = (judged.article_exists, refl)
refusal-named saves.MissingTitle is = (judged.missing_title, refl)
refusal-named (saves.EditConflict current) is = (judged.edit_conflict current, refl)
refusal-named (saves.WikiFull limit) is = (judged.wiki_full limit, refl)
refusal-named saves.JournalFull is = (judged.journal_full, refl)
refusal-named saves.Memory is = absurd (let e : command.Full ≡ command.Memory = is in cc)
refusal-named saves.StoreFault is = absurd (let e : command.Full ≡ command.StoreFault = is in cc)

-- ---- jobs

higher : (most next ahead product : ℕ) → most < next + ahead → ahead ≤ product → most < next + product
higher most next ahead product high low = omega (arith, high, low)

module _ {K : Type 0} (journal : ℕ) where
  cannot : (wiki : WikiSeen K) → wiki.start.limits ≡ limits_with_journal journal → CanBeFull wiki → CannotDrain journal wiki.state
  cannot wiki limits full = record {
    left = full.left;
    cause = elim full.cause [
      | inl short ↦ inl (subst (λ (m : MostHeld). m.journal < 2) limits short)
      | inr high ↦ inr (higher max_job wiki.state.jobs.next _ (length wiki.state.jobs.fans * length wiki.state.history.pages) high (pages-ahead wiki.state))
    ];
  }

  -- ---- saves

  module _ (old : WikiSeen K) (opening : HasOpened old (limits_with_journal journal)) where
    made-first : (edits : List EditAsked) (moments : List ℕ) → made_of old edits moments ≡ first_saves journal old.state edits moments
    made-first edits moments =
        ap (λ (m : MostHeld). saves_made m old.state (length old.journal) edits moments) opening.limits
        ∙ ap (λ (j : List Event). saves_made (limits_with_journal journal) old.state (length j) edits moments) opening.journal

    module _ (new : WikiSeen K) (edits : List EditAsked) (left later : Option (List ℕ)) (saved : HasSaved old new edits left later) where
      abbrev first : SavesMade
      first = first_saves journal old.state edits saved.moments

      as-first : made_of old edits saved.moments ≡ first
      as-first = made-first edits saved.moments

      none-refused : first.refused ≡ None
      none-refused = subst (λ (m : SavesMade). m.refused ≡ None) as-first saved.none_refused

      state-is : new.state ≡ first.after
      state-is = saved.after ∙ ap (λ (m : SavesMade). m.after) as-first

      journal-is : new.journal ≡ first.events
      journal-is =
          saved.made.journal
          ∙ (ap (λ (j : List Event). j ++ (made_of old edits saved.moments).events) opening.journal ∙ ap (λ (m : SavesMade). m.events) as-first)

      limits-are : new.start.limits ≡ limits_with_journal journal
      limits-are = ap (λ (s : Start). s.limits) saved.made.start ∙ opening.limits

      verdict-is : (edit : EditAsked) → verdict_now new edit ≡ verdict_in (limits_with_journal journal) first.after (length first.events) edit
      verdict-is edit =
          ap (λ (m : MostHeld). verdict_in m new.state (length new.journal) edit) limits-are
          ∙ (ap (λ (s : State). verdict_in (limits_with_journal journal) s (length new.journal) edit) state-is
          ∙ ap (λ (j : List Event). verdict_in (limits_with_journal journal) first.after (length j) edit) journal-is)

      cannot-behind : CanBeFull new → CannotDrainBehind journal old.state edits
      cannot-behind full = record {
        moments = saved.moments;
        saved = none-refused;
        cannot = subst (CannotDrain journal) state-is (cannot new limits-are full);
      }

    refused-for-room : (new : WikiSeen K) (pages number : ℕ) (left : Option (List ℕ)) (why : SaveRefusal) → pages ≤ 10000 → IsRefusedAt old new (generated pages number) left why → command.Full ≡ end_of_refusal why
        → IsRefusedForRoom journal old.state (generated pages number)
    refused-for-room new pages number left why few at is =
        let named = refusal-named why is in
        let edits = generated pages number in
        let next = subst (λ (r : Option Refusal). IfSome r (λ found. (edit : EditAsked) × (slice_get edits at.count ≡ Some edit) × (verdict_now new edit ≡ refuse found))) named.1 at.cause in
        let verdict = sym (verdict-is new (take at.count edits) left at.later at.saved next.0) ∙ next.2 in record {
          count = at.count;
          moments = at.saved.moments;
          edit = next.0;
          refusal = named.0;
          next = next.1;
          saved = none-refused new (take at.count edits) left at.later at.saved;
          verdict = verdict;
          room = edit-refused (limits_with_journal journal) (first new (take at.count edits) left at.later at.saved).after (length (first new (take at.count edits) left at.later at.saved).events) pages number at.count next.0 named.0 few next.1
              verdict;
        }

-- ---- works

-- not more pages than are generated at most
abbrev IsFew : Work → Type 0
IsFew asks.Jobs = Unit {0}
IsFew asks.Check = Unit {0}
IsFew (asks.Generate pages number) = pages ≤ 10000

few-asked : (c : Command) (count number : ℕ) (asked : Work) → work_of c count number ≡ Some asked → count ≤ 10000 → IsFew asked
few-asked Script count number asked is few = absurd (let e : None ≡ Some asked = is in cc)
few-asked Serve count number asked is few = absurd (let e : None ≡ Some asked = is in cc)
few-asked Report count number asked is few = absurd (let e : None ≡ Some asked = is in cc)
few-asked Replica count number asked is few = absurd (let e : None ≡ Some asked = is in cc)
few-asked Jobs count number asked is few = let same : asks.Jobs ≡ asked = (let e : Some asks.Jobs ≡ Some asked = is in cc) in subst IsFew same tt
few-asked Check count number asked is few = let same : asks.Check ≡ asked = (let e : Some asks.Check ≡ Some asked = is in cc) in subst IsFew same tt
few-asked Generate count number asked is few =
    let same : asks.Generate count number ≡ asked = (let e : Some (asks.Generate count number) ≡ Some asked = is in cc) in subst IsFew same few

module _ {K : Type 0} (is_whole : K → Bool) (faults : K → ℕ) (journal : ℕ) (old : WikiSeen K) (opening : HasOpened old (limits_with_journal journal)) where
  generated-full : (count number : ℕ) (new : WikiSeen K) (left later before after : Option (List ℕ)) (end : CommandEnd) → count ≤ 10000
      → IsGenerated is_whole faults (generated count number) old new left later before after end → end ≡ command.Full → HasNoRoom (asks.Generate count number) journal old.state
  generated-full count number new left later before after end few (made.settled middle saved is) full =
      inr (cannot-behind journal old opening middle (generated count number) left later saved (is.full full))
  generated-full count number new left later before after end few (made.refused why at is keeps fault) full =
      inl (refused-for-room journal old opening new count number left why few at (sym full ∙ is))

  work-full : (asked : Work) (new : WikiSeen K) (left later before after : Option (List ℕ)) (end : CommandEnd) → IsFew asked
      → IsWorked is_whole faults asked old new left later before after end → end ≡ command.Full → HasNoRoom asked journal old.state
  work-full asks.Check new left later before after end few is full = is.1.not_full full
  work-full asks.Jobs new left later before after end few is full = cannot journal old opening.limits (is.full full)
  work-full (asks.Generate count number) new left later before after end few is full = generated-full count number new left later before after end few is full

-- ---- the commands

-- the state of the tables that the vault tells
opened-by : {K : Type 0} (told : K → Option StoreTables) (keeper : K) (state : State) (tables : Option StoreTables) → IfSome tables (λ t. told keeper ≡ Some t)
    → IfSome (told keeper) (λ t. (first_broken t ≡ None) × (state ≡ opened t)) → IfSome tables (λ t. state ≡ opened t)
opened-by told keeper state None had is = tt
opened-by told keeper state (Some t) had is = (subst (λ (o : Option StoreTables). IfSome o (λ t. (first_broken t ≡ None) × (state ≡ opened t))) had is).1

module _ {K : Type 0} {told : K → Option StoreTables} {faults : K → ℕ} {is_whole : K → Bool} {journal : ℕ} {keeper : K} {before after : Outside} {finish : Finish K} where
  over-not-ten : IsOver told faults is_whole journal keeper before after finish → finish.status ≡ 10 → ⊥
  over-not-ten (script.not_loaded o) ten = no-cause-ten o.why (sym o.status_is ∙ ten)
  over-not-ten (script.ran o) ten = no-end-ten o.how (sym o.status_is ∙ ten)

module _ {K : Type 0} {told : K → Option StoreTables} {faults : K → ℕ} {is_whole : K → Bool} {journal : ℕ} {kept : VaultStore} {opens later : ℕ} {before after : Outside} {finish : Finish K} where
  scripted-not-ten : IsScripted told faults is_whole journal kept opens later before after finish → finish.status ≡ 10 → ⊥
  scripted-not-ten (script.no_memory is none) ten = omega (arith, is, ten)
  scripted-not-ten (script.not_opened is rose none) ten = omega (arith, is, ten)
  scripted-not-ten (script.over_a_store keeper had same over) ten = over-not-ten over ten

module _ {K : Type 0} (told : K → Option StoreTables) (faults : K → ℕ) (is_whole : K → Bool) (journal : ℕ) (kept : VaultStore) (before after : Outside) where
  on-store : (asked : Work) → IsFew asked → (keeper left : K) (end : Result CommandEnd LoadCause) → IsOpened told faults is_whole kept keeper
      → IsWorkedOn told faults is_whole asked journal keeper left before.moments after.moments before.taken after.taken end → status_of_work end ≡ 10
      → (state : State) × IfSome kept.tables (λ tables. state ≡ opened tables) × HasNoRoom asked journal state
  on-store asked few keeper left end had (worked.not_opened why is o) ten = absurd (no-cause-ten why (ap status_of_work (sym is) ∙ ten))
  on-store asked few keeper left end had (worked.done how is o) ten =
      let full = command-is-full how (ap status_of_work (sym is) ∙ ten) in (
        o.first.state,
        opened-by told keeper o.first.state kept.tables had.tables o.state,
        work-full is_whole faults journal o.first o.opened_is asked o.last before.moments after.moments before.taken after.taken how few o.worked full,
      )

  worked-full : (opens later : ℕ) (finish : Finish K) (asked : Work) → IsFew asked → IsWorkedAt told faults is_whole asked journal kept opens later before after finish → finish.status ≡ 10
      → (state : State) × IfSome kept.tables (λ tables. state ≡ opened tables) × HasNoRoom asked journal state
  worked-full opens later finish asked few (work.no_memory is none) ten = absurd (omega (arith, is, ten))
  worked-full opens later finish asked few (work.not_opened is rose none) ten = absurd (omega (arith, is, ten))
  worked-full opens later finish asked few (work.over_a_store keeper had same over) ten = on-store asked few keeper over.left over.end had over.worked (sym over.status_is ∙ ten)

module _ {K : Type 0} {text : List ℕ} {before after : Outside} {finish : Finish K} where
  shown-not-ten : IsShown text before after finish → finish.status ≡ 10 → ⊥
  shown-not-ten shown ten = elim shown.written [ inl whole ↦ omega (arith, whole.0, ten) | inr cut ↦ omega (arith, cut.0, ten) ]

-- a replica makes room for nothing
no-replica-ten : (how : ReplicaEnd) → status_of_replica how ≡ 10 → ⊥
no-replica-ten replica.Done is = omega (arith, is)
no-replica-ten replica.Memory is = omega (arith, is)
no-replica-ten replica.ReadFault is = omega (arith, is)
no-replica-ten replica.WriteFault is = omega (arith, is)
no-replica-ten replica.DoorFault is = omega (arith, is)
no-replica-ten replica.Bound is = omega (arith, is)
no-replica-ten (replica.BadFeed number) is = omega (arith, is)

-- serving makes room for nothing
module _ {L : Type 0} (door later : DoorSeen L) {address : List ℕ} {most : ℕ} {before after : Option (List ℕ)} where
  serving-not-full : {how : CommandEnd} → HasServedAt address most door.told later.told door.faults later.faults before after how → how ≡ command.Full → ⊥
  serving-not-full (served.served count given all same written) is = let e : command.Done ≡ command.Full = is in cc
  serving-not-full (served.broken rose part) is = let e : command.DoorFault ≡ command.Full = is in cc
  serving-not-full (served.unwritten part) is = let e : command.WriteFault ≡ command.Full = is in cc
  serving-not-full (served.no_memory part) is = let e : command.Memory ≡ command.Full = is in cc

  feeding-not-full : {from : State} {events : List Event} {how : CommandEnd} → HasFedAt address most door.told later.told door.faults later.faults before after from events how → how ≡ command.Full → ⊥
  feeding-not-full (feeding.fed count given all same written) is = let e : command.Done ≡ command.Full = is in cc
  feeding-not-full (feeding.broken rose text) is = let e : command.DoorFault ≡ command.Full = is in cc
  feeding-not-full feeding.unwritten is = let e : command.WriteFault ≡ command.Full = is in cc
  feeding-not-full feeding.no_memory is = let e : command.Memory ≡ command.Full = is in cc

  so-not-full : {feed : Bool} {from : State} {events : List Event} {how : CommandEnd} → HasServedSo feed address most door.told later.told door.faults later.faults before after from events how → how ≡ command.Full → ⊥
  so-not-full (feeding.with_lines plain done) is = serving-not-full done is
  so-not-full (feeding.with_feed asked done) is = feeding-not-full done is

module _ {K L : Type 0} (told : K → Option StoreTables) (faults : K → ℕ) (is_whole : K → Bool) (feed : Bool) (address : List ℕ) (most journal : ℕ) (door door_later : DoorSeen L) (before after : Outside) where
  served-on-not-ten : (keeper left : K) (end : Result CommandEnd LoadCause)
      → IsServedOn told faults is_whole feed address most journal keeper left door.told door_later.told door.faults door_later.faults before.taken after.taken end → status_of_work end ≡ 10 → ⊥
  served-on-not-ten keeper left end (worked.not_loaded why is same_door same_faults o) ten = no-cause-ten why (ap status_of_work (sym is) ∙ ten)
  served-on-not-ten keeper left end (worked.served_over how is o) ten = so-not-full door door_later o.served (command-is-full how (ap status_of_work (sym is) ∙ ten))

  served-not-ten : (kept : VaultStore) (opens later : ℕ) (finish : Finish K) → IsServedAt told faults is_whole feed address most journal kept opens later door door_later before after finish → finish.status ≡ 10 → ⊥
  served-not-ten kept opens later finish (work.no_memory_to_open is none same) ten = omega (arith, is, ten)
  served-not-ten kept opens later finish (work.unopened is rose none same) ten = omega (arith, is, ten)
  served-not-ten kept opens later finish (work.over_the_store keeper had same over) ten = served-on-not-ten keeper over.left over.end over.served (sym over.status_is ∙ ten)

module _ {K L : Type 0} (told : K → Option StoreTables) (faults : K → ℕ) (is_whole : K → Bool) (opens later : ℕ) (door door_later : DoorSeen L) (before after : Outside) (finish : Finish K) where
  carried-full : (wanted : Wanted) (kept : VaultStore) → wanted.pages ≤ 10000 → IsCarriedOut told faults is_whole wanted kept opens later door door_later before after finish
      → finish.status ≡ 10 → FindsNoRoom wanted kept
  carried-full wanted kept few (finished.scripted is done same) ten = absurd (scripted-not-ten done ten)
  carried-full wanted kept few (finished.served is done) ten = absurd (served-not-ten told faults is_whole wanted.feed wanted.listen wanted.max_connections wanted.journal_limit door door_later before after kept opens later finish done ten)
  carried-full wanted kept few (finished.reported is done same) ten = absurd (report-not 10 refl done ten)
  carried-full wanted kept few (finished.followed is same done) ten = absurd (no-replica-ten done.end (sym done.status_is ∙ ten))
  carried-full wanted kept few (finished.worked asked is done same) ten =
      let none = worked-full told faults is_whole wanted.journal_limit kept before after opens later finish asked (few-asked wanted.command wanted.pages wanted.number asked is few) done ten in
      record { state = none.0; asked = asked; asked_is = is; opened_is = none.1; no_room = none.2 }

  pub finished-full : (wanted : Wanted) (vault : VaultTold) → IsFinished told faults is_whole (runs wanted) vault opens later door door_later before after finish
      → finish.status ≡ 10 → FindsNoRoom wanted (store_named vault wanted.store)
  finished-full wanted vault (finished.no_memory is same same_door none) ten = absurd (omega (arith, is, ten))
  finished-full wanted vault (finished.not_taken not is same same_door none) ten = absurd (omega (arith, is, ten))
  finished-full wanted vault (finished.shown text asks_for same same_door shown) ten = absurd (shown-not-ten shown ten)
  finished-full wanted vault (finished.carried_out other is within done) ten =
      let same : other ≡ wanted = (let equal : wanted ≡ other = (let e : runs wanted ≡ runs other = is in cc) in sym equal) in
      subst (λ (w : Wanted). FindsNoRoom w (store_named vault w.store)) same (carried-full other (store_named vault other.store) within.1 done ten)
