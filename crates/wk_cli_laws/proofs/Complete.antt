-- Which ends need a fault.
use Rattle.std.proofs.Common.{◌≡◌, ◌≢◌, ◌≤◌, ℕ, ◌+◌, ◌⊎◌, Bool, true, List, [], ◌∷◌, Option, Some, None, Result, Ok, Err, IfSome, is_some, refl, sym, ap, ◌∙◌, subst, inl, inr, arith}
use Rattle.wk_base.specs.Faults.{Rose}
use Rattle.wk_table_rules.specs.GoodStore.{first_broken}
use Rattle.wk_table_rules.specs.Rows.{StoreTables}
use Rattle.wk_page_rules.specs.Verdict.{EditAsked}
use Rattle.wk_wiki_rules.specs.Events.{Event}
use Rattle.wk_wiki_rules.specs.States.{State}
use Rattle.wk_answer_rules.specs.Values.{ApiReply}
use Rattle.wk_revs.specs.declared.verdict.SaveRefusal.{SaveRefusal}
use Rattle.wk_revs.specs.declared.verdict.SaveRefusal.TheVariants as refusal
use Rattle.wk_core.specs.Loads.{bad_store_of}
use Rattle.wk_core.specs.Seen.{WikiSeen}
use Rattle.wk_core.specs.declared.outcomes.LoadCause.{LoadCause}
use Rattle.wk_core.specs.declared.outcomes.LoadCause.TheVariants as cause
use Rattle.wk_commands.specs.Checked.{IsCompared}
use Rattle.wk_commands.specs.Drained.{IsDrained}
use Rattle.wk_commands.specs.Generated.{IsGenerated, end_of_refusal}
use Rattle.wk_commands.specs.Generated as made
use Rattle.wk_commands.specs.Fed.{HasFedAt, HasServedSo}
use Rattle.wk_commands.specs.Fed as feeding
use Rattle.wk_commands.specs.Followed.{HasFollowed}
use Rattle.wk_commands.specs.Followed as following
use Rattle.wk_commands.specs.declared.replicas.ReplicaEnd.{ReplicaEnd}
use Rattle.wk_commands.specs.Served.{HasServedAt}
use Rattle.wk_commands.specs.Served as served
use Rattle.wk_commands.specs.Worked.{IsServedOn, IsWorked, IsWorkedOn}
use Rattle.wk_commands.specs.Worked as worked
use Rattle.wk_commands.specs.declared.ends.CommandEnd.{CommandEnd}
use Rattle.wk_commands.specs.declared.ends.CommandEnd.TheVariants as command
use Rattle.wk_commands.specs.declared.works.Work.{Work}
use Rattle.wk_commands.specs.declared.works.Work.TheVariants as asks
use Rattle.wk_report_rules.specs.declared.Report.{Report as Which}
use Rattle.wk_reports.specs.Over.{IsReportedOver, status_of_report}
use Rattle.wk_reports.specs.declared.written.ReportEnd.{ReportEnd}
use Rattle.wk_reports.specs.declared.written.ReportEnd.TheVariants as report
use Rattle.wk_script_runs.specs.Ends.{keeper_left}
use Rattle.wk_script_runs.specs.Outside.{Outside}
use Rattle.wk_script_runs.specs.Served.{StoreFaults, no_replies, passed_over, risen}
use Rattle.wk_script.specs.Report.{IsRunTo, bad_of}
use Rattle.wk_script.specs.declared.script.ScriptEnd.{ScriptEnd}
use Rattle.wk_script.specs.declared.script.ScriptEnd.TheVariants as end
use Rattle.wk_words.specs.Verdicts.{Wanted, refused, runs, shows_help, shows_version}
use Rattle.wk_words.specs.declared.commands.Command.{Command}
use Rattle.wk_words.specs.declared.commands.Command.TheVariants.{Script, Serve, Jobs, Check, Generate, Report, Replica}
use Rattle.wk_cli.specs.Statuses.{status_of_cause, status_of_command, status_of_end, status_of_replica, status_of_work}
use Rattle.wk_cli.specs.Scripted.{IsOpened, IsOver, IsScripted, VaultStore}
use Rattle.wk_cli.specs.Scripted as script
use Rattle.wk_cli.specs.Works.{DoorSeen, IsServedAt, IsWorkedAt}
use Rattle.wk_cli.specs.Works as work
use Rattle.wk_cli.specs.Followed.{IsFollowedBy}
use Rattle.wk_cli.specs.Reported.{IsReportedAt}
use Rattle.wk_cli.specs.Reported as reports
use Rattle.wk_cli.specs.Finished.{IsCarriedOut, IsFinished, VaultTold, store_named, work_of}
use Rattle.wk_cli.specs.Finished as finished
use Rattle.wk_cli.specs.declared.ends.Finish.{Finish}
use Rattle.wk_cli_laws.specs.Complete.{EndsWithoutFault, HasNoFault}

-- ---- counts

-- a count that stands at 0 hasn't risen
not-risen : (before now : ℕ) → now ≡ 0 → Rose before now → ⊥
not-risen before now is rose = omega (arith, is, rose)

not-risen-by : (before n now : ℕ) → now ≡ 0 → risen before (n + 1) ≤ now → ⊥
not-risen-by before n now is rose = omega (arith, is, rose)

-- of any replies none at least tell of a fault of the store
no-faults : (replies : List ApiReply) → StoreFaults replies 0
no-faults [] = no_replies
no-faults (reply ∷ replies) = passed_over (no-faults replies)

-- ---- statuses

-- each command may end for want of memory
memory-ends : (asked : Command) → EndsWithoutFault asked 1
memory-ends Script = refl
memory-ends Serve = refl
memory-ends Jobs = refl
memory-ends Check = refl
memory-ends Generate = refl
memory-ends Report = refl
memory-ends Replica = refl

at-status : (asked : Command) (status other : ℕ) → status ≡ other → EndsWithoutFault asked other → EndsWithoutFault asked status
at-status asked status other is ends = subst (EndsWithoutFault asked) (sym is) ends

-- the command that asks for a work
abbrev command_of : Work → Command
command_of asks.Jobs = Jobs
command_of asks.Check = Check
command_of (asks.Generate pages number) = Generate

named : (c : Command) (pages number : ℕ) (asked : Work) → work_of c pages number ≡ Some asked → command_of asked ≡ c
named Script pages number asked is = absurd (let e : None ≡ Some asked = is in cc)
named Serve pages number asked is = absurd (let e : None ≡ Some asked = is in cc)
named Report pages number asked is = absurd (let e : None ≡ Some asked = is in cc)
named Replica pages number asked is = absurd (let e : None ≡ Some asked = is in cc)
named Jobs pages number asked is = let same : asks.Jobs ≡ asked = (let e : Some asks.Jobs ≡ Some asked = is in cc) in ap command_of (sym same)
named Check pages number asked is = let same : asks.Check ≡ asked = (let e : Some asks.Check ≡ Some asked = is in cc) in ap command_of (sym same)
named Generate pages number asked is =
    let same : asks.Generate pages number ≡ asked = (let e : Some (asks.Generate pages number) ≡ Some asked = is in cc) in ap command_of (sym same)

-- ---- stores

module _ {K : Type 0} (faults : K → ℕ) where
  held-of : (store : Option K) (left : K) → store ≡ Some left → IfSome store (λ k. faults k ≡ 0) → faults left ≡ 0
  held-of store left is held = subst (λ (o : Option K). IfSome o (λ k. faults k ≡ 0)) is held

  held-by : (store : Option K) (left : K) → store ≡ Some left → faults left ≡ 0 → IfSome store (λ k. faults k ≡ 0)
  held-by store left is held = subst (λ (o : Option K). IfSome o (λ k. faults k ≡ 0)) (sym is) held

  held-none : (store : Option K) → store ≡ None → IfSome store (λ k. faults k ≡ 0)
  held-none store is = subst (λ (o : Option K). IfSome o (λ k. faults k ≡ 0)) (sym is) tt

module _ {K : Type 0} (told : K → Option StoreTables) (faults : K → ℕ) where
  -- a store of good tables isn't opened for want of memory alone
  load-ends : (keeper left : K) (tables : StoreTables) (why : LoadCause) → told keeper ≡ Some tables → first_broken tables ≡ None
      → IfSome (bad_store_of why) (λ row. IfSome (told keeper) (λ t. first_broken t ≡ Some row))
      → (why ≡ cause.StoreFault → Rose (faults keeper) (faults left)) → faults left ≡ 0 → status_of_cause why ≡ 1
  load-ends keeper left tables cause.Memory told_is good broken fault held = refl
  load-ends keeper left tables cause.StoreFault told_is good broken fault held = absurd (not-risen (faults keeper) (faults left) held (fault refl))
  load-ends keeper left tables (cause.BadStore bad) told_is good broken fault held =
      let row : first_broken tables ≡ Some bad = subst (λ (o : Option StoreTables). IfSome o (λ t. first_broken t ≡ Some bad)) told_is broken in
      absurd (let e : None ≡ Some bad = sym good ∙ row in cc)

-- ---- scripts

module _ {K : Type 0} (told : K → Option StoreTables) (faults : K → ℕ) (before after : Outside) where
  run-ends : (wiki : WikiSeen K) (how : ScriptEnd) (points : List ℕ) (handed : Result (WikiSeen K) K) (status : ℕ)
      → IsRunTo told faults wiki before after how points handed → faults (keeper_left handed) ≡ 0 → bad_of how ≡ None
      → status ≢ 3 → status ≢ 4 → status ≡ status_of_end how → EndsWithoutFault Script status
  run-ends wiki end.Done points handed status run held good read written is = at-status Script status 0 is refl
  run-ends wiki end.Memory points handed status run held good read written is = at-status Script status 1 is refl
  run-ends wiki end.ReadFault points handed status run held good read written is = absurd (read is)
  run-ends wiki end.WriteFault points handed status run held good read written is = absurd (written is)
  run-ends wiki end.StoreFault points handed status run held good read written is =
      absurd (not-risen-by (faults wiki.keeper) 0 (faults (keeper_left handed)) held (run.run.answered.failed 0 (no-faults run.run.replies)))
  run-ends wiki (end.BadStore bad) points handed status run held good read written is = absurd (let e : Some bad ≡ None = good in cc)
  run-ends wiki end.Bound points handed status run held good read written is = at-status Script status 9 is refl

  -- the count of a whole store stays, however the run ends
  run-whole : (wiki : WikiSeen K) (how : ScriptEnd) (points : List ℕ) (handed : Result (WikiSeen K) K)
      → IsRunTo told faults wiki before after how points handed → wiki.start.whole ≡ true → faults (keeper_left handed) ≡ faults wiki.keeper
  run-whole wiki end.Done points handed run whole = run.answered.whole whole
  run-whole wiki end.Memory points handed run whole = run.run.answered.whole whole
  run-whole wiki end.ReadFault points handed run whole = run.run.answered.whole whole
  run-whole wiki end.WriteFault points handed run whole = run.run.answered.whole whole
  run-whole wiki end.StoreFault points handed run whole = run.run.answered.whole whole
  run-whole wiki (end.BadStore bad) points handed run whole = run.run.answered.whole whole
  run-whole wiki end.Bound points handed run whole = run.run.answered.whole whole

-- ---- works

compared-ends : (state : State) (text : List ℕ) (before after : Option (List ℕ)) (how : CommandEnd) (status : ℕ)
    → IsCompared state text before after how → status ≢ 4 → status ≡ status_of_command how → EndsWithoutFault Check status
compared-ends state text before after command.Done status done written is = at-status Check status 0 is refl
compared-ends state text before after command.Memory status done written is = at-status Check status 1 is refl
compared-ends state text before after command.Differs status done written is = at-status Check status 8 is refl
compared-ends state text before after command.WriteFault status done written is = absurd (written is)
compared-ends state text before after command.StoreFault status done written is = absurd (done.no_fault refl)
compared-ends state text before after command.Full status done written is = absurd (done.not_full refl)
compared-ends state text before after command.DoorFault status done written is = absurd (done.no_door refl)

-- a count that isn't 0 doesn't stand at 0
not-counted : (now : ℕ) → now ≡ 0 → 1 ≤ now → ⊥
not-counted now is some = omega (arith, is, some)

module _ {K : Type 0} {is_whole : K → Bool} {faults : K → ℕ} where
  drained-ends : (old new : WikiSeen K) (before after : Option (List ℕ)) (how : CommandEnd) (status : ℕ)
      → IsDrained is_whole faults old new before after how → faults new.keeper ≡ 0 → status ≢ 4 → status ≡ status_of_command how → EndsWithoutFault Jobs status
  drained-ends old new before after command.Done status done held written is = at-status Jobs status 0 is refl
  drained-ends old new before after command.Memory status done held written is = at-status Jobs status 1 is refl
  drained-ends old new before after command.Full status done held written is = at-status Jobs status 10 is refl
  drained-ends old new before after command.WriteFault status done held written is = absurd (written is)
  drained-ends old new before after command.StoreFault status done held written is = absurd (not-counted (faults new.keeper) held (done.fault refl))
  drained-ends old new before after command.Differs status done held written is = absurd (done.compares_nothing refl)
  drained-ends old new before after command.DoorFault status done held written is = absurd (done.no_door refl)

-- a refusal of a save that ends as a fault of the store is one
refused-by-fault : (why : SaveRefusal) → command.StoreFault ≡ end_of_refusal why → why ≡ refusal.StoreFault
refused-by-fault refusal.StoreFault is = refl
refused-by-fault refusal.Memory is = absurd (let e : command.StoreFault ≡ command.Memory = is in cc)
refused-by-fault refusal.InvalidTitle is = absurd (let e : command.StoreFault ≡ command.Full = is in cc)
refused-by-fault refusal.ContentTooBig is = absurd (let e : command.StoreFault ≡ command.Full = is in cc)
refused-by-fault refusal.ArticleExists is = absurd (let e : command.StoreFault ≡ command.Full = is in cc)
refused-by-fault refusal.MissingTitle is = absurd (let e : command.StoreFault ≡ command.Full = is in cc)
refused-by-fault (refusal.EditConflict current) is = absurd (let e : command.StoreFault ≡ command.Full = is in cc)
refused-by-fault (refusal.WikiFull limit) is = absurd (let e : command.StoreFault ≡ command.Full = is in cc)
refused-by-fault refusal.JournalFull is = absurd (let e : command.StoreFault ≡ command.Full = is in cc)

-- no refusal of a save ends as a fault of a door
refused-by-door : (why : SaveRefusal) → command.DoorFault ≡ end_of_refusal why → ⊥
refused-by-door refusal.StoreFault is = let e : command.DoorFault ≡ command.StoreFault = is in cc
refused-by-door refusal.Memory is = let e : command.DoorFault ≡ command.Memory = is in cc
refused-by-door refusal.InvalidTitle is = let e : command.DoorFault ≡ command.Full = is in cc
refused-by-door refusal.ContentTooBig is = let e : command.DoorFault ≡ command.Full = is in cc
refused-by-door refusal.ArticleExists is = let e : command.DoorFault ≡ command.Full = is in cc
refused-by-door refusal.MissingTitle is = let e : command.DoorFault ≡ command.Full = is in cc
refused-by-door (refusal.EditConflict current) is = let e : command.DoorFault ≡ command.Full = is in cc
refused-by-door (refusal.WikiFull limit) is = let e : command.DoorFault ≡ command.Full = is in cc
refused-by-door refusal.JournalFull is = let e : command.DoorFault ≡ command.Full = is in cc

module _ {K : Type 0} {is_whole : K → Bool} {faults : K → ℕ} {edits : List EditAsked} {left later before after : Option (List ℕ)} where
  generated-fault : (old new : WikiSeen K) → IsGenerated is_whole faults edits old new left later before after command.StoreFault → faults new.keeper ≡ 0 → ⊥
  generated-fault old new (made.settled middle saved done) held = not-counted (faults new.keeper) held (done.fault refl)
  generated-fault old new (made.refused why at is kept fault) held = not-risen (faults old.keeper) (faults new.keeper) held (fault (refused-by-fault why is))

  generated-door : (old new : WikiSeen K) → IsGenerated is_whole faults edits old new left later before after command.DoorFault → ⊥
  generated-door old new (made.settled middle saved done) = done.no_door refl
  generated-door old new (made.refused why at is kept fault) = refused-by-door why is

  generated-ends : (old new : WikiSeen K) (how : CommandEnd) (status : ℕ)
      → IsGenerated is_whole faults edits old new left later before after how → faults new.keeper ≡ 0 → status ≢ 4 → status ≡ status_of_command how → EndsWithoutFault Generate status
  generated-ends old new command.Done status done held written is = at-status Generate status 0 is refl
  generated-ends old new command.Memory status done held written is = at-status Generate status 1 is refl
  generated-ends old new command.Differs status done held written is = at-status Generate status 8 is refl
  generated-ends old new command.Full status done held written is = at-status Generate status 10 is refl
  generated-ends old new command.WriteFault status done held written is = absurd (written is)
  generated-ends old new command.StoreFault status done held written is = absurd (generated-fault old new done held)
  generated-ends old new command.DoorFault status done held written is = absurd (generated-door old new done)

module _ {K : Type 0} (is_whole : K → Bool) (faults : K → ℕ) (left later before after : Option (List ℕ)) where
  done-ends : (asked : Work) (old new : WikiSeen K) (how : CommandEnd) (status : ℕ)
      → IsWorked is_whole faults asked old new left later before after how → faults new.keeper ≡ 0 → status ≢ 4 → status ≡ status_of_command how
      → EndsWithoutFault (command_of asked) status
  done-ends asks.Check old new how status done held written is = compared-ends old.state _ before after how status done.1 written is
  done-ends asks.Jobs old new how status done held written is = drained-ends old new before after how status done held written is
  done-ends (asks.Generate pages number) old new how status done held written is = generated-ends old new how status done held written is

-- ---- serving

module _ {L : Type 0} (door later : DoorSeen L) {address : List ℕ} {most : ℕ} {before after : Option (List ℕ)} where
  served-ends : {how : CommandEnd} (status : ℕ) → HasServedAt address most door.told later.told door.faults later.faults before after how → (Rose door.faults later.faults → ⊥) → status ≢ 4 → status ≡ status_of_command how
      → EndsWithoutFault Serve status
  served-ends status (served.served count given all same text) not_risen written is = at-status Serve status 0 is refl
  served-ends status (served.broken rose part) not_risen written is = absurd (not_risen rose)
  served-ends status (served.unwritten part) not_risen written is = absurd (written is)
  served-ends status (served.no_memory part) not_risen written is = at-status Serve status 1 is refl

  fed-ends : {from : State} {events : List Event} {how : CommandEnd} (status : ℕ) → HasFedAt address most door.told later.told door.faults later.faults before after from events how → (Rose door.faults later.faults → ⊥) → status ≢ 4
      → status ≡ status_of_command how → EndsWithoutFault Serve status
  fed-ends status (feeding.fed count given all same text) not_risen written is = at-status Serve status 0 is refl
  fed-ends status (feeding.broken rose text) not_risen written is = absurd (not_risen rose)
  fed-ends status feeding.unwritten not_risen written is = absurd (written is)
  fed-ends status feeding.no_memory not_risen written is = at-status Serve status 1 is refl

  so-ends : {feed : Bool} {from : State} {events : List Event} {how : CommandEnd} (status : ℕ) → HasServedSo feed address most door.told later.told door.faults later.faults before after from events how → (Rose door.faults later.faults → ⊥) → status ≢ 4
      → status ≡ status_of_command how → EndsWithoutFault Serve status
  so-ends status (feeding.with_lines plain done) not_risen written is = served-ends status done not_risen written is
  so-ends status (feeding.with_feed asked done) not_risen written is = fed-ends status done not_risen written is

-- ---- replicas

module _ {L : Type 0} (door later : DoorSeen L) {address : List ℕ} {most : ℕ} {rest left before after : Option (List ℕ)} where
  followed-ends : {how : ReplicaEnd} (status : ℕ) → HasFollowed address most door.told later.told door.faults later.faults rest left before after how → (Rose door.faults later.faults → ⊥) → status ≢ 3 → status ≢ 4
      → status ≡ status_of_replica how → EndsWithoutFault Replica status
  followed-ends status (following.followed events count given all same ended tells text) not_risen read written is = at-status Replica status 0 is refl
  followed-ends status (following.bad_feed number bad none) not_risen read written is = at-status Replica status 11 is refl
  followed-ends status (following.unread none) not_risen read written is = absurd (read is)
  followed-ends status (following.unwritten events ended tells part) not_risen read written is = absurd (written is)
  followed-ends status (following.broken rose none) not_risen read written is = absurd (not_risen rose)
  followed-ends status (following.too_long much none) not_risen read written is = at-status Replica status 9 is refl
  followed-ends status (following.no_memory none) not_risen read written is = at-status Replica status 1 is refl

-- ---- reports

cause-of-report : (why : LoadCause) → status_of_report (Err why) ≡ status_of_cause why
cause-of-report cause.Memory = refl
cause-of-report cause.StoreFault = refl
cause-of-report (cause.BadStore bad) = refl

-- ---- the commands

module _ {K L : Type 0} (told : K → Option StoreTables) (faults : K → ℕ) (is_whole : K → Bool) (journal : ℕ) (kept : VaultStore) (opens later : ℕ) (door door_later : DoorSeen L)
    (before after : Outside) (finish : Finish K) where
  -- nothing failed, by the counts and by the status
  record Fine : Type 0 where
    pub tables : StoreTables
    pub told_is : kept.tables ≡ Some tables
    pub good : first_broken tables ≡ None
    pub no_open_fault : Rose opens later → ⊥
    pub no_read_fault : finish.status ≢ 3
    pub no_write_fault : finish.status ≢ 4
    pub no_door_fault : Rose door.faults door_later.faults → ⊥
    pub no_store_fault : IfSome finish.store (λ left. faults left ≡ 0)

  fine-of : (reads reads_later writes writes_later : ℕ) → (finish.status ≡ 3 → Rose reads reads_later) → (finish.status ≡ 4 → Rose writes writes_later)
      → HasNoFault faults kept opens later reads reads_later writes writes_later door door_later finish → Fine
  fine-of reads reads_later writes writes_later read written none = record {
    tables = none.outside.tables;
    told_is = none.outside.told_is;
    good = none.outside.good;
    no_open_fault = none.outside.no_open_fault;
    no_read_fault = λ is. none.outside.no_read_fault (read is);
    no_write_fault = λ is. none.outside.no_write_fault (written is);
    no_door_fault = none.outside.no_door_fault;
    no_store_fault = none.no_store_fault;
  }

  -- the tables that the store of the vault tells
  told-of : (keeper : K) → IsOpened told faults is_whole kept keeper → (fine : Fine) → told keeper ≡ Some fine.tables
  told-of keeper had fine = subst (λ (o : Option StoreTables). IfSome o (λ t. told keeper ≡ Some t)) fine.told_is had.tables

  over-ends : (keeper : K) → IsOpened told faults is_whole kept keeper → IsOver told faults is_whole journal keeper before after finish
      → Fine → EndsWithoutFault Script finish.status
  over-ends keeper had (script.not_loaded o) fine =
      let held = held-of faults finish.store o.left o.store_is fine.no_store_fault in
      at-status Script finish.status 1 (o.status_is ∙ load-ends told faults keeper o.left fine.tables o.why (told-of keeper had fine) fine.good o.broken o.fault held) refl
  over-ends keeper had (script.ran o) fine =
      let held = held-of faults finish.store (keeper_left o.handed) o.store_is fine.no_store_fault in
      run-ends told faults before after o.wiki o.how finish.points.items o.handed finish.status o.run held (o.not_bad (ap is_some (told-of keeper had fine)))
      fine.no_read_fault fine.no_write_fault o.status_is

  scripted-ends : IsScripted told faults is_whole journal kept opens later before after finish → Fine → EndsWithoutFault Script finish.status
  scripted-ends (script.no_memory is none) fine = at-status Script finish.status 1 is refl
  scripted-ends (script.not_opened is rose none) fine = absurd (fine.no_open_fault rose)
  scripted-ends (script.over_a_store keeper had same over) fine = over-ends keeper had over fine

  over-whole : (keeper : K) → IsOpened told faults is_whole kept keeper → IsOver told faults is_whole journal keeper before after finish
      → kept.whole ≡ true → IfSome finish.store (λ left. faults left ≡ 0)
  over-whole keeper had (script.not_loaded o) whole = held-by faults finish.store o.left o.store_is (o.whole (had.whole whole) ∙ had.no_fault)
  over-whole keeper had (script.ran o) whole =
      held-by faults finish.store (keeper_left o.handed) o.store_is
      (run-whole told faults before after o.wiki o.how finish.points.items o.handed o.run (o.whole ∙ had.whole whole) ∙ (o.no_fault ∙ had.no_fault))

  scripted-whole : IsScripted told faults is_whole journal kept opens later before after finish → kept.whole ≡ true → IfSome finish.store (λ left. faults left ≡ 0)
  scripted-whole (script.no_memory is none) whole = held-none faults finish.store none.no_store
  scripted-whole (script.not_opened is rose none) whole = held-none faults finish.store none.no_store
  scripted-whole (script.over_a_store keeper had same over) whole = over-whole keeper had over whole

  module _ (asked : Work) where
    worked-ends : (keeper left : K) (end : Result CommandEnd LoadCause) → IsOpened told faults is_whole kept keeper
        → IsWorkedOn told faults is_whole asked journal keeper left before.moments after.moments before.taken after.taken end
        → finish.status ≡ status_of_work end → finish.store ≡ Some left
        → Fine → EndsWithoutFault (command_of asked) finish.status
    worked-ends keeper left end had (worked.not_opened why is o) status_is store_is fine =
        let held = held-of faults finish.store left store_is fine.no_store_fault in
        let status : finish.status ≡ status_of_cause why = status_is ∙ ap status_of_work is in
        at-status (command_of asked) finish.status 1
        (status ∙ load-ends told faults keeper left fine.tables why (told-of keeper had fine) fine.good o.broken o.fault held) (memory-ends (command_of asked))
    worked-ends keeper left end had (worked.done how is o) status_is store_is fine =
        let held = held-of faults finish.store left store_is fine.no_store_fault in
        let status : finish.status ≡ status_of_command how = status_is ∙ ap status_of_work is in
        done-ends is_whole faults before.moments after.moments before.taken after.taken asked o.first o.last how finish.status o.worked (sym (ap faults o.keeper_is) ∙ held)
        fine.no_write_fault status

    work-ends : IsWorkedAt told faults is_whole asked journal kept opens later before after finish → Fine → EndsWithoutFault (command_of asked) finish.status
    work-ends (work.no_memory is none) fine = at-status (command_of asked) finish.status 1 is (memory-ends (command_of asked))
    work-ends (work.not_opened is rose none) fine = absurd (fine.no_open_fault rose)
    work-ends (work.over_a_store keeper had same over) fine = worked-ends keeper over.left over.end had over.worked over.status_is over.store_is fine

    -- the count of a whole store stays
    worked-whole : (keeper left : K) (end : Result CommandEnd LoadCause) → IsOpened told faults is_whole kept keeper
        → IsWorkedOn told faults is_whole asked journal keeper left before.moments after.moments before.taken after.taken end → kept.whole ≡ true → faults left ≡ 0
    worked-whole keeper left end had (worked.not_opened why is o) whole = o.whole (had.whole whole) ∙ had.no_fault
    worked-whole keeper left end had (worked.done how is o) whole = o.whole_count (had.whole whole) ∙ had.no_fault

    work-whole : IsWorkedAt told faults is_whole asked journal kept opens later before after finish → kept.whole ≡ true → IfSome finish.store (λ left. faults left ≡ 0)
    work-whole (work.no_memory is none) whole = held-none faults finish.store none.no_store
    work-whole (work.not_opened is rose none) whole = held-none faults finish.store none.no_store
    work-whole (work.over_a_store keeper had same over) whole = held-by faults finish.store over.left over.store_is (worked-whole keeper over.left over.end had over.worked whole)

  module _ (which : Which) (most : ℕ) where
    report-ends : (keeper left : K) (end : Result ReportEnd LoadCause) → IsOpened told faults is_whole kept keeper → IsReportedOver told faults is_whole which most keeper left before.taken after.taken end
        → finish.status ≡ status_of_report end → finish.store ≡ Some left → Fine → EndsWithoutFault Report finish.status
    report-ends keeper left (Ok report.Done) had o status_is store_is fine = at-status Report finish.status 0 status_is refl
    report-ends keeper left (Ok report.Memory) had o status_is store_is fine = at-status Report finish.status 1 status_is refl
    report-ends keeper left (Ok report.WriteFault) had o status_is store_is fine = absurd (fine.no_write_fault status_is)
    report-ends keeper left (Err why) had o status_is store_is fine =
        let held = held-of faults finish.store left store_is fine.no_store_fault in
        at-status Report finish.status 1
        (status_is ∙ (cause-of-report why ∙ load-ends told faults keeper left fine.tables why (told-of keeper had fine) fine.good o.broken o.fault held)) refl

    reported-ends : IsReportedAt told faults is_whole which most kept opens later before after finish → Fine → EndsWithoutFault Report finish.status
    reported-ends (reports.no_memory is none) fine = at-status Report finish.status 1 is refl
    reported-ends (reports.not_opened is rose none) fine = absurd (fine.no_open_fault rose)
    reported-ends (reports.over_a_store keeper had same over) fine = report-ends keeper over.left over.end had over.reported over.status_is over.store_is fine

    report-whole : (keeper left : K) (end : Result ReportEnd LoadCause) → IsOpened told faults is_whole kept keeper → IsReportedOver told faults is_whole which most keeper left before.taken after.taken end → kept.whole ≡ true → faults left ≡ 0
    report-whole keeper left (Ok how) had o whole = o.keeper_goes_on.whole (had.whole whole) ∙ had.no_fault
    report-whole keeper left (Err why) had o whole = o.whole (had.whole whole) ∙ had.no_fault

    reported-whole : IsReportedAt told faults is_whole which most kept opens later before after finish → kept.whole ≡ true → IfSome finish.store (λ left. faults left ≡ 0)
    reported-whole (reports.no_memory is none) whole = held-none faults finish.store none.no_store
    reported-whole (reports.not_opened is rose none) whole = held-none faults finish.store none.no_store
    reported-whole (reports.over_a_store keeper had same over) whole = held-by faults finish.store over.left over.store_is (report-whole keeper over.left over.end had over.reported whole)

  -- no store is opened for a replica
  module _ (address : List ℕ) (most : ℕ) where
    replica-ends : IsFollowedBy address most door door_later before after finish → Fine → EndsWithoutFault Replica finish.status
    replica-ends done fine = followed-ends door door_later finish.status done.followed fine.no_door_fault fine.no_read_fault fine.no_write_fault done.status_is

    replica-whole : IsFollowedBy address most door door_later before after finish → IfSome finish.store (λ left. faults left ≡ 0)
    replica-whole done = held-none faults finish.store done.no_store

  module _ (feed : Bool) (address : List ℕ) (most : ℕ) where
    serving-ends : (keeper left : K) (end : Result CommandEnd LoadCause) → IsOpened told faults is_whole kept keeper
        → IsServedOn told faults is_whole feed address most journal keeper left door.told door_later.told door.faults door_later.faults before.taken after.taken end
        → finish.status ≡ status_of_work end → finish.store ≡ Some left → Fine → EndsWithoutFault Serve finish.status
    serving-ends keeper left end had (worked.not_loaded why is same_door same_faults o) status_is store_is fine =
        let held = held-of faults finish.store left store_is fine.no_store_fault in
        let status : finish.status ≡ status_of_cause why = status_is ∙ ap status_of_work is in
        at-status Serve finish.status 1
        (status ∙ load-ends told faults keeper left fine.tables why (told-of keeper had fine) fine.good o.broken o.fault held) (memory-ends Serve)
    serving-ends keeper left end had (worked.served_over how is o) status_is store_is fine =
        so-ends door door_later finish.status o.served fine.no_door_fault fine.no_write_fault (status_is ∙ ap status_of_work is)

    serve-ends : IsServedAt told faults is_whole feed address most journal kept opens later door door_later before after finish → Fine → EndsWithoutFault Serve finish.status
    serve-ends (work.no_memory_to_open is none same) fine = at-status Serve finish.status 1 is (memory-ends Serve)
    serve-ends (work.unopened is rose none same) fine = absurd (fine.no_open_fault rose)
    serve-ends (work.over_the_store keeper had same over) fine = serving-ends keeper over.left over.end had over.served over.status_is over.store_is fine

    served-whole : (keeper left : K) (end : Result CommandEnd LoadCause) → IsOpened told faults is_whole kept keeper
        → IsServedOn told faults is_whole feed address most journal keeper left door.told door_later.told door.faults door_later.faults before.taken after.taken end → kept.whole ≡ true → faults left ≡ 0
    served-whole keeper left end had (worked.not_loaded why is same_door same_faults o) whole = o.whole (had.whole whole) ∙ had.no_fault
    served-whole keeper left end had (worked.served_over how is o) whole = o.whole_count (had.whole whole) ∙ had.no_fault

    serve-whole : IsServedAt told faults is_whole feed address most journal kept opens later door door_later before after finish → kept.whole ≡ true → IfSome finish.store (λ left. faults left ≡ 0)
    serve-whole (work.no_memory_to_open is none same) whole = held-none faults finish.store none.no_store
    serve-whole (work.unopened is rose none same) whole = held-none faults finish.store none.no_store
    serve-whole (work.over_the_store keeper had same over) whole = held-by faults finish.store over.left over.store_is (served-whole keeper over.left over.end had over.served whole)

module _ {K L : Type 0} (told : K → Option StoreTables) (faults : K → ℕ) (is_whole : K → Bool) (opens later : ℕ) (door door_later : DoorSeen L) (before after : Outside) (finish : Finish K) where
  carried-ends : (wanted : Wanted) (kept : VaultStore) → IsCarriedOut told faults is_whole wanted kept opens later door door_later before after finish
      → Fine told faults is_whole wanted.journal_limit kept opens later door door_later before after finish → EndsWithoutFault wanted.command finish.status
  carried-ends wanted kept (finished.scripted is done same) fine =
      subst (λ (c : Command). EndsWithoutFault c finish.status) (sym is)
      (scripted-ends told faults is_whole wanted.journal_limit kept opens later door door_later before after finish done fine)
  carried-ends wanted kept (finished.worked asked is done same) fine =
      subst (λ (c : Command). EndsWithoutFault c finish.status) (named wanted.command wanted.pages wanted.number asked is)
      (work-ends told faults is_whole wanted.journal_limit kept opens later door door_later before after finish asked done fine)
  carried-ends wanted kept (finished.reported is done same) fine =
      subst (λ (c : Command). EndsWithoutFault c finish.status) (sym is)
      (reported-ends told faults is_whole wanted.journal_limit kept opens later door door_later before after finish wanted.report wanted.most done fine)
  carried-ends wanted kept (finished.served is done) fine =
      subst (λ (c : Command). EndsWithoutFault c finish.status) (sym is)
      (serve-ends told faults is_whole wanted.journal_limit kept opens later door door_later before after finish wanted.feed wanted.listen wanted.max_connections done fine)
  carried-ends wanted kept (finished.followed is same done) fine =
      subst (λ (c : Command). EndsWithoutFault c finish.status) (sym is)
      (replica-ends told faults is_whole wanted.journal_limit kept opens later door door_later before after finish wanted.listen wanted.max_connections done fine)

  carried-whole : (wanted : Wanted) (kept : VaultStore) → IsCarriedOut told faults is_whole wanted kept opens later door door_later before after finish
      → kept.whole ≡ true → IfSome finish.store (λ left. faults left ≡ 0)
  carried-whole wanted kept (finished.scripted is done same) whole =
      scripted-whole told faults is_whole wanted.journal_limit kept opens later door door_later before after finish done whole
  carried-whole wanted kept (finished.worked asked is done same) whole =
      work-whole told faults is_whole wanted.journal_limit kept opens later door door_later before after finish asked done whole
  carried-whole wanted kept (finished.reported is done same) whole =
      reported-whole told faults is_whole wanted.journal_limit kept opens later door door_later before after finish wanted.report wanted.most done whole
  carried-whole wanted kept (finished.served is done) whole =
      serve-whole told faults is_whole wanted.journal_limit kept opens later door door_later before after finish wanted.feed wanted.listen wanted.max_connections done whole
  carried-whole wanted kept (finished.followed is same done) whole =
      replica-whole told faults is_whole wanted.journal_limit kept opens later door door_later before after finish wanted.listen wanted.max_connections done

  same-wanted : (wanted other : Wanted) → runs wanted ≡ runs other → other ≡ wanted
  same-wanted wanted other is = let same : wanted ≡ other = cc in sym same

  not-refused : (wanted : Wanted) → runs wanted ≡ refused → ⊥
  not-refused wanted is = cc

  not-shown : (wanted : Wanted) → (runs wanted ≡ shows_help) ⊎ (runs wanted ≡ shows_version) → ⊥
  not-shown wanted (inl is) = cc
  not-shown wanted (inr is) = cc

  pub finished-ends : (wanted : Wanted) (vault : VaultTold) (reads reads_later writes writes_later : ℕ)
      → IsFinished told faults is_whole (runs wanted) vault opens later door door_later before after finish
      → (finish.status ≡ 3 → Rose reads reads_later) → (finish.status ≡ 4 → Rose writes writes_later)
      → HasNoFault faults (store_named vault wanted.store) opens later reads reads_later writes writes_later door door_later finish → EndsWithoutFault wanted.command finish.status
  finished-ends wanted vault reads reads_later writes writes_later (finished.no_memory is same same_door none) read written fine = at-status wanted.command finish.status 1 is (memory-ends wanted.command)
  finished-ends wanted vault reads reads_later writes writes_later (finished.not_taken not is same same_door none) read written fine = absurd (not-refused wanted not)
  finished-ends wanted vault reads reads_later writes writes_later (finished.shown text asks same same_door shown) read written fine = absurd (not-shown wanted asks)
  finished-ends wanted vault reads reads_later writes writes_later (finished.carried_out other is within done) read written fine =
      carried-ends wanted (store_named vault wanted.store)
      (subst (λ (w : Wanted). IsCarriedOut told faults is_whole w (store_named vault w.store) opens later door door_later before after finish) (same-wanted wanted other is) done)
      (fine-of told faults is_whole wanted.journal_limit (store_named vault wanted.store) opens later door door_later before after finish reads reads_later writes writes_later read written fine)

  pub finished-whole : (wanted : Wanted) (vault : VaultTold) → IsFinished told faults is_whole (runs wanted) vault opens later door door_later before after finish
      → vault.whole wanted.store ≡ true → IfSome finish.store (λ left. faults left ≡ 0)
  finished-whole wanted vault (finished.no_memory is same same_door none) whole = held-none faults finish.store none.no_store
  finished-whole wanted vault (finished.not_taken not is same same_door none) whole = absurd (not-refused wanted not)
  finished-whole wanted vault (finished.shown text asks same same_door shown) whole = absurd (not-shown wanted asks)
  finished-whole wanted vault (finished.carried_out other is within done) whole =
      carried-whole wanted (store_named vault wanted.store)
      (subst (λ (w : Wanted). IsCarriedOut told faults is_whole w (store_named vault w.store) opens later door door_later before after finish) (same-wanted wanted other is) done) whole
