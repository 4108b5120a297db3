-- What follows from how the program ended.
use Rattle.std.proofs.Common.{◌≡◌, ◌≢◌, ◌==◌, ℕ, Bool, true, false, List, [], ◌∷◌, Option, Result, refl, sym, ap, ◌∙◌, subst, inl, inr, arith}
use Rattle.wk_table_rules.specs.Rows.{StoreTables}
use Rattle.wk_script_runs.specs.Outside.{Outside}
use Rattle.wk_cli.specs.Scripted.{IsOver, IsScripted, VaultStore, no_memory, not_loaded, not_opened, over_a_store, ran}
use Rattle.wk_page_rules.specs.Verdict.{EditAsked}
use Rattle.wk_core.specs.Seen.{WikiSeen}
use Rattle.wk_core.specs.declared.outcomes.LoadCause.{LoadCause}
use Rattle.wk_revs.specs.declared.verdict.SaveRefusal.{SaveRefusal}
use Rattle.wk_revs.specs.declared.verdict.SaveRefusal.TheVariants as refusal
use Rattle.wk_commands.specs.Generated.{IsGenerated, end_of_refusal}
use Rattle.wk_commands.specs.Generated as made
use Rattle.wk_commands.specs.Fed.{HasFedAt, HasServedSo}
use Rattle.wk_commands.specs.Fed as feeding
use Rattle.wk_commands.specs.Served.{HasServedAt}
use Rattle.wk_commands.specs.Served as serving
use Rattle.wk_commands.specs.Worked.{IsServedOn, IsWorked, IsWorkedOn}
use Rattle.wk_commands.specs.Worked as worked
use Rattle.wk_commands.specs.declared.ends.CommandEnd.{CommandEnd}
use Rattle.wk_commands.specs.declared.ends.CommandEnd.TheVariants.{Done, DoorFault, Memory, WriteFault}
use Rattle.wk_commands.specs.declared.works.Work.{Work}
use Rattle.wk_commands.specs.declared.works.Work.TheVariants.{Check, Jobs, Generate}
use Rattle.wk_words.specs.Verdicts.{Verdict, Wanted, is_refused}
use Rattle.wk_cli.specs.Finished.{IsCarriedOut, IsShown}
use Rattle.wk_cli.specs.Finished as carried
use Rattle.std.specs.List.{list_any}
use Rattle.wk_base.specs.Faults.{Rose}
use Rattle.wk_wiki_rules.specs.Events.{Event}
use Rattle.wk_wiki_rules.specs.States.{State}
use Rattle.wk_report_rules.specs.declared.Report.{Report}
use Rattle.wk_commands.specs.Followed.{HasFollowed}
use Rattle.wk_commands.specs.Followed as following
use Rattle.wk_commands.specs.declared.replicas.ReplicaEnd.{ReplicaEnd}
use Rattle.wk_commands.specs.declared.replicas.ReplicaEnd.TheVariants as replica
use Rattle.wk_cli.specs.Followed.{IsFollowedBy}
use Rattle.wk_cli.specs.Reported.{IsReportedAt}
use Rattle.wk_cli.specs.Reported as told_of
use Rattle.wk_door.specs.Told.{DoorTold}
use Rattle.wk_cli.specs.Statuses.{status_of_work}
use Rattle.wk_cli.specs.Works.{DoorSeen, IsServedAt, IsWorkedAt}
use Rattle.wk_cli.specs.Works as work
use Rattle.wk_cli.specs.declared.ends.Finish.{Finish}
use Rattle.wk_cli.proofs.Statuses.{IsKnown, command-is-done, command-is-door-fault, known-cause, known-end, known-replica, known-report, known-work, no-cause-six, no-cause-two, no-end-six, no-end-two, no-replica-two, no-report-at, not-listed, no-work-three, no-work-two}

module _ {K : Type 0} {told : K → Option StoreTables} {faults : K → ℕ} {is_whole : K → Bool} {journal : ℕ} {keeper : K} {before after : Outside} {finish : Finish K} where
  over-known : IsOver told faults is_whole journal keeper before after finish → IsKnown finish.status
  over-known (not_loaded o) = known-cause finish.status o.why o.status_is
  over-known (ran o) = known-end finish.status o.how o.status_is

  over-not-two : IsOver told faults is_whole journal keeper before after finish → finish.status ≡ 2 → ⊥
  over-not-two (not_loaded o) is = no-cause-two o.why (sym o.status_is ∙ is)
  over-not-two (ran o) is = no-end-two o.how (sym o.status_is ∙ is)

  over-not-six : IsOver told faults is_whole journal keeper before after finish → finish.status ≡ 6 → ⊥
  over-not-six (not_loaded o) is = no-cause-six o.why (sym o.status_is ∙ is)
  over-not-six (ran o) is = no-end-six o.how (sym o.status_is ∙ is)

module _ {K : Type 0} {told : K → Option StoreTables} {faults : K → ℕ} {is_whole : K → Bool} {journal : ℕ} {kept : VaultStore} {opens later : ℕ} {before after : Outside} {finish : Finish K} where
  pub script-known : IsScripted told faults is_whole journal kept opens later before after finish → IsKnown finish.status
  script-known (no_memory is none) = subst IsKnown (sym is) refl
  script-known (not_opened is rose none) = subst IsKnown (sym is) refl
  script-known (over_a_store keeper had same over) = over-known over

  pub script-not-two : IsScripted told faults is_whole journal kept opens later before after finish → finish.status ≡ 2 → ⊥
  script-not-two (no_memory is none) two = omega (arith, is, two)
  script-not-two (not_opened is rose none) two = omega (arith, is, two)
  script-not-two (over_a_store keeper had same over) two = over-not-two over two

  -- no door is asked
  pub script-not-six : IsScripted told faults is_whole journal kept opens later before after finish → finish.status ≡ 6 → ⊥
  script-not-six (no_memory is none) six = omega (arith, is, six)
  script-not-six (not_opened is rose none) six = omega (arith, is, six)
  script-not-six (over_a_store keeper had same over) six = over-not-six over six

  -- at status 0 no call of the vault failed
  pub script-opens : IsScripted told faults is_whole journal kept opens later before after finish → finish.status ≡ 0 → later ≡ opens
  script-opens (no_memory is none) done = absurd (omega (arith, is, done))
  script-opens (not_opened is rose none) done = absurd (omega (arith, is, done))
  script-opens (over_a_store keeper had same over) done = same

refusal-no-door : (why : SaveRefusal) → DoorFault ≡ end_of_refusal why → ⊥
refusal-no-door refusal.InvalidTitle e = cc
refusal-no-door refusal.ContentTooBig e = cc
refusal-no-door refusal.ArticleExists e = cc
refusal-no-door refusal.MissingTitle e = cc
refusal-no-door (refusal.EditConflict current) e = cc
refusal-no-door (refusal.WikiFull limit) e = cc
refusal-no-door refusal.JournalFull e = cc
refusal-no-door refusal.Memory e = cc
refusal-no-door refusal.StoreFault e = cc

module _ {K : Type 0} (is_whole : K → Bool) (faults : K → ℕ) (old new : WikiSeen K) (left later before after : Option (List ℕ)) (end : CommandEnd) where
  generated-no-door : (edits : List EditAsked) → IsGenerated is_whole faults edits old new left later before after end → end ≢ DoorFault
  generated-no-door edits (made.settled middle saved is) = is.no_door
  generated-no-door edits (made.refused why at is keeps fault) = λ door. refusal-no-door why (sym door ∙ is)

  -- no command but `serve` asks a door
  no-door-asked : (asked : Work) → IsWorked is_whole faults asked old new left later before after end → end ≢ DoorFault
  no-door-asked Check is = is.1.no_door
  no-door-asked Jobs is = is.no_door
  no-door-asked (Generate pages number) is = generated-no-door _ is

module _ {K : Type 0} (told : K → Option StoreTables) (faults : K → ℕ) (is_whole : K → Bool) (asked : Work) (journal : ℕ) (keeper left : K) (moments later before after : Option (List ℕ)) (end : Result CommandEnd LoadCause) where
  no-work-six : IsWorkedOn told faults is_whole asked journal keeper left moments later before after end → status_of_work end ≡ 6 → ⊥
  no-work-six (worked.not_opened why is none) six = no-cause-six why (ap status_of_work (sym is) ∙ six)
  no-work-six (worked.done how is over) six = no-door-asked is_whole faults over.first over.last moments later before after how asked over.worked (command-is-door-fault how (ap status_of_work (sym is) ∙ six))

module _ {K : Type 0} {told : K → Option StoreTables} {faults : K → ℕ} {is_whole : K → Bool} {asked : Work} {journal : ℕ} {kept : VaultStore} {opens later : ℕ} {before after : Outside} {finish : Finish K} where
  pub work-known : IsWorkedAt told faults is_whole asked journal kept opens later before after finish → IsKnown finish.status
  work-known (work.no_memory is none) = subst IsKnown (sym is) refl
  work-known (work.not_opened is rose none) = subst IsKnown (sym is) refl
  work-known (work.over_a_store keeper had same over) = known-work finish.status over.end over.status_is

  pub work-not-two : IsWorkedAt told faults is_whole asked journal kept opens later before after finish → finish.status ≡ 2 → ⊥
  work-not-two (work.no_memory is none) two = omega (arith, is, two)
  work-not-two (work.not_opened is rose none) two = omega (arith, is, two)
  work-not-two (work.over_a_store keeper had same over) two = no-work-two over.end (sym over.status_is ∙ two)

  -- nothing is read
  pub work-not-three : IsWorkedAt told faults is_whole asked journal kept opens later before after finish → finish.status ≡ 3 → ⊥
  work-not-three (work.no_memory is none) three = omega (arith, is, three)
  work-not-three (work.not_opened is rose none) three = omega (arith, is, three)
  work-not-three (work.over_a_store keeper had same over) three = no-work-three over.end (sym over.status_is ∙ three)

  -- no door is asked
  pub work-not-six : IsWorkedAt told faults is_whole asked journal kept opens later before after finish → finish.status ≡ 6 → ⊥
  work-not-six (work.no_memory is none) six = omega (arith, is, six)
  work-not-six (work.not_opened is rose none) six = omega (arith, is, six)
  work-not-six (work.over_a_store keeper had same over) six =
      no-work-six told faults is_whole asked journal keeper over.left before.moments after.moments before.taken after.taken over.end over.worked (sym over.status_is ∙ six)

  pub work-opens : IsWorkedAt told faults is_whole asked journal kept opens later before after finish → finish.status ≡ 0 → later ≡ opens
  work-opens (work.no_memory is none) done = absurd (omega (arith, is, done))
  work-opens (work.not_opened is rose none) done = absurd (omega (arith, is, done))
  work-opens (work.over_a_store keeper had same over) done = same

module _ {L : Type 0} {address : List ℕ} {most : ℕ} {door later : Option (DoorTold L)} {door_faults door_faults_later : ℕ} {before after : Option (List ℕ)} where
  at-door-fault : {end : CommandEnd} → HasServedAt address most door later door_faults door_faults_later before after end → end ≡ DoorFault → Rose door_faults door_faults_later
  at-door-fault (serving.broken rose part) is = rose
  at-door-fault (serving.served count given all same written) is = absurd (let e : Done ≡ DoorFault = is in cc)
  at-door-fault (serving.unwritten part) is = absurd (let e : WriteFault ≡ DoorFault = is in cc)
  at-door-fault (serving.no_memory part) is = absurd (let e : Memory ≡ DoorFault = is in cc)

  at-done : {end : CommandEnd} → HasServedAt address most door later door_faults door_faults_later before after end → end ≡ Done → door_faults_later ≡ door_faults
  at-done (serving.served count given all same written) is = same
  at-done (serving.broken rose part) is = absurd (let e : DoorFault ≡ Done = is in cc)
  at-done (serving.unwritten part) is = absurd (let e : WriteFault ≡ Done = is in cc)
  at-done (serving.no_memory part) is = absurd (let e : Memory ≡ Done = is in cc)

-- the same with a feed
module _ {L : Type 0} {address : List ℕ} {most : ℕ} {door later : Option (DoorTold L)} {door_faults door_faults_later : ℕ} {before after : Option (List ℕ)} {from : State} {events : List Event} where
  fed-at-door-fault : {end : CommandEnd} → HasFedAt address most door later door_faults door_faults_later before after from events end → end ≡ DoorFault → Rose door_faults door_faults_later
  fed-at-door-fault (feeding.broken rose written) is = rose
  fed-at-door-fault (feeding.fed count given all same written) is = absurd (let e : Done ≡ DoorFault = is in cc)
  fed-at-door-fault feeding.unwritten is = absurd (let e : WriteFault ≡ DoorFault = is in cc)
  fed-at-door-fault feeding.no_memory is = absurd (let e : Memory ≡ DoorFault = is in cc)

  fed-at-done : {end : CommandEnd} → HasFedAt address most door later door_faults door_faults_later before after from events end → end ≡ Done → door_faults_later ≡ door_faults
  fed-at-done (feeding.fed count given all same written) is = same
  fed-at-done (feeding.broken rose written) is = absurd (let e : DoorFault ≡ Done = is in cc)
  fed-at-done feeding.unwritten is = absurd (let e : WriteFault ≡ Done = is in cc)
  fed-at-done feeding.no_memory is = absurd (let e : Memory ≡ Done = is in cc)

  so-at-door-fault : {feed : Bool} {end : CommandEnd} → HasServedSo feed address most door later door_faults door_faults_later before after from events end → end ≡ DoorFault → Rose door_faults door_faults_later
  so-at-door-fault (feeding.with_lines plain served) is = at-door-fault served is
  so-at-door-fault (feeding.with_feed asked served) is = fed-at-door-fault served is

  so-at-done : {feed : Bool} {end : CommandEnd} → HasServedSo feed address most door later door_faults door_faults_later before after from events end → end ≡ Done → door_faults_later ≡ door_faults
  so-at-done (feeding.with_lines plain served) is = at-done served is
  so-at-done (feeding.with_feed asked served) is = fed-at-done served is

module _ {K L : Type 0} {told : K → Option StoreTables} {faults : K → ℕ} {is_whole : K → Bool} {feed : Bool} {address : List ℕ} {most journal : ℕ} {keeper left : K} {door later : Option (DoorTold L)} {door_faults door_faults_later : ℕ}
    {before after : Option (List ℕ)} where
  pub served-rose : {end : Result CommandEnd LoadCause} → IsServedOn told faults is_whole feed address most journal keeper left door later door_faults door_faults_later before after end → status_of_work end ≡ 6 → Rose door_faults door_faults_later
  served-rose (worked.not_loaded why is same_door same none) six = absurd (no-cause-six why (ap status_of_work (sym is) ∙ six))
  served-rose (worked.served_over how is over) six = so-at-door-fault over.served (command-is-door-fault how (ap status_of_work (sym is) ∙ six))

  pub served-same : {end : Result CommandEnd LoadCause} → IsServedOn told faults is_whole feed address most journal keeper left door later door_faults door_faults_later before after end → status_of_work end ≡ 0 → door_faults_later ≡ door_faults
  served-same (worked.not_loaded why is same_door same none) nil = same
  served-same (worked.served_over how is over) nil = so-at-done over.served (command-is-done how (ap status_of_work (sym is) ∙ nil))

module _ {K L : Type 0} {told : K → Option StoreTables} {faults : K → ℕ} {is_whole : K → Bool} {feed : Bool} {address : List ℕ} {most journal : ℕ} {kept : VaultStore} {opens later : ℕ} {door door_later : DoorSeen L} {before after : Outside}
    {finish : Finish K} where
  pub serve-known : IsServedAt told faults is_whole feed address most journal kept opens later door door_later before after finish → IsKnown finish.status
  serve-known (work.no_memory_to_open is none same) = subst IsKnown (sym is) refl
  serve-known (work.unopened is rose none same) = subst IsKnown (sym is) refl
  serve-known (work.over_the_store keeper had same over) = known-work finish.status over.end over.status_is

  pub serve-not-two : IsServedAt told faults is_whole feed address most journal kept opens later door door_later before after finish → finish.status ≡ 2 → ⊥
  serve-not-two (work.no_memory_to_open is none same) two = omega (arith, is, two)
  serve-not-two (work.unopened is rose none same) two = omega (arith, is, two)
  serve-not-two (work.over_the_store keeper had same over) two = no-work-two over.end (sym over.status_is ∙ two)

  pub serve-not-three : IsServedAt told faults is_whole feed address most journal kept opens later door door_later before after finish → finish.status ≡ 3 → ⊥
  serve-not-three (work.no_memory_to_open is none same) three = omega (arith, is, three)
  serve-not-three (work.unopened is rose none same) three = omega (arith, is, three)
  serve-not-three (work.over_the_store keeper had same over) three = no-work-three over.end (sym over.status_is ∙ three)

  pub serve-opens : IsServedAt told faults is_whole feed address most journal kept opens later door door_later before after finish → finish.status ≡ 0 → later ≡ opens
  serve-opens (work.no_memory_to_open is none same) nil = absurd (omega (arith, is, nil))
  serve-opens (work.unopened is rose none same) nil = absurd (omega (arith, is, nil))
  serve-opens (work.over_the_store keeper had same over) nil = same

module _ {K : Type 0} {told : K → Option StoreTables} {faults : K → ℕ} {is_whole : K → Bool} {which : Report} {most : ℕ} {kept : VaultStore} {opens later : ℕ} {before after : Outside} {finish : Finish K} where
  pub report-known : IsReportedAt told faults is_whole which most kept opens later before after finish → IsKnown finish.status
  report-known (told_of.no_memory is none) = subst IsKnown (sym is) refl
  report-known (told_of.not_opened is rose none) = subst IsKnown (sym is) refl
  report-known (told_of.over_a_store keeper had same over) = known-report finish.status over.end over.status_is

  -- at none but those of a report
  pub report-not : (status : ℕ) → list_any (λ s. status == s) (0 ∷ 1 ∷ 4 ∷ 5 ∷ 7 ∷ []) ≡ false → IsReportedAt told faults is_whole which most kept opens later before after finish → finish.status ≡ status → ⊥
  report-not status other (told_of.no_memory is none) at = not-listed 1 status other (sym is ∙ at) refl
  report-not status other (told_of.not_opened is rose none) at = not-listed 5 status other (sym is ∙ at) refl
  report-not status other (told_of.over_a_store keeper had same over) at = no-report-at status over.end other (sym over.status_is ∙ at)

  pub report-opens : IsReportedAt told faults is_whole which most kept opens later before after finish → finish.status ≡ 0 → later ≡ opens
  report-opens (told_of.no_memory is none) nil = absurd (omega (arith, is, nil))
  report-opens (told_of.not_opened is rose none) nil = absurd (omega (arith, is, nil))
  report-opens (told_of.over_a_store keeper had same over) nil = same

-- of a replica
module _ {L : Type 0} {address : List ℕ} {most : ℕ} {door later : Option (DoorTold L)} {door_faults door_faults_later : ℕ} {rest left before after : Option (List ℕ)} where
  pub followed-rose : {end : ReplicaEnd} → HasFollowed address most door later door_faults door_faults_later rest left before after end → end ≡ replica.DoorFault → Rose door_faults door_faults_later
  followed-rose (following.broken rose none) is = rose
  followed-rose (following.followed events count given all same ended tells written) is = absurd (let e : replica.Done ≡ replica.DoorFault = is in cc)
  followed-rose (following.bad_feed number bad none) is = absurd (let e : replica.BadFeed number ≡ replica.DoorFault = is in cc)
  followed-rose (following.unread none) is = absurd (let e : replica.ReadFault ≡ replica.DoorFault = is in cc)
  followed-rose (following.unwritten events ended tells part) is = absurd (let e : replica.WriteFault ≡ replica.DoorFault = is in cc)
  followed-rose (following.too_long much none) is = absurd (let e : replica.Bound ≡ replica.DoorFault = is in cc)
  followed-rose (following.no_memory none) is = absurd (let e : replica.Memory ≡ replica.DoorFault = is in cc)

  pub followed-same : {end : ReplicaEnd} → HasFollowed address most door later door_faults door_faults_later rest left before after end → end ≡ replica.Done → door_faults_later ≡ door_faults
  followed-same (following.followed events count given all same ended tells written) is = same
  followed-same (following.broken rose none) is = absurd (let e : replica.DoorFault ≡ replica.Done = is in cc)
  followed-same (following.bad_feed number bad none) is = absurd (let e : replica.BadFeed number ≡ replica.Done = is in cc)
  followed-same (following.unread none) is = absurd (let e : replica.ReadFault ≡ replica.Done = is in cc)
  followed-same (following.unwritten events ended tells part) is = absurd (let e : replica.WriteFault ≡ replica.Done = is in cc)
  followed-same (following.too_long much none) is = absurd (let e : replica.Bound ≡ replica.Done = is in cc)
  followed-same (following.no_memory none) is = absurd (let e : replica.Memory ≡ replica.Done = is in cc)

module _ {K L : Type 0} {address : List ℕ} {most : ℕ} {door door_later : DoorSeen L} {before after : Outside} {finish : Finish K} where
  replica-known : IsFollowedBy address most door door_later before after finish → IsKnown finish.status
  replica-known done = known-replica finish.status done.end done.status_is

  replica-not-two : IsFollowedBy address most door door_later before after finish → finish.status ≡ 2 → ⊥
  replica-not-two done two = no-replica-two done.end (sym done.status_is ∙ two)

module _ {K L : Type 0} {told : K → Option StoreTables} {faults : K → ℕ} {is_whole : K → Bool} {wanted : Wanted} {kept : VaultStore} {opens later : ℕ} {door door_later : DoorSeen L} {before after : Outside} {finish : Finish K} where
  pub carried-known : IsCarriedOut told faults is_whole wanted kept opens later door door_later before after finish → IsKnown finish.status
  carried-known (carried.scripted is done same) = script-known done
  carried-known (carried.worked asked is done same) = work-known done
  carried-known (carried.served is done) = serve-known done
  carried-known (carried.reported is done same) = report-known done
  carried-known (carried.followed is same done) = replica-known done

  pub carried-not-two : IsCarriedOut told faults is_whole wanted kept opens later door door_later before after finish → finish.status ≡ 2 → ⊥
  carried-not-two (carried.scripted is done same) two = script-not-two done two
  carried-not-two (carried.worked asked is done same) two = work-not-two done two
  carried-not-two (carried.served is done) two = serve-not-two done two
  carried-not-two (carried.reported is done same) two = report-not 2 refl done two
  carried-not-two (carried.followed is same done) two = replica-not-two done two

  pub carried-opens : IsCarriedOut told faults is_whole wanted kept opens later door door_later before after finish → finish.status ≡ 0 → later ≡ opens
  carried-opens (carried.scripted is done same) nil = script-opens done nil
  carried-opens (carried.worked asked is done same) nil = work-opens done nil
  carried-opens (carried.served is done) nil = serve-opens done nil
  carried-opens (carried.reported is done same) nil = report-opens done nil
  carried-opens (carried.followed is same done) nil = same

module _ {K : Type 0} {text : List ℕ} {before after : Outside} {finish : Finish K} where
  pub shown-known : IsShown text before after finish → IsKnown finish.status
  shown-known shown = elim shown.written [ inl whole ↦ subst IsKnown (sym whole.0) refl | inr cut ↦ subst IsKnown (sym cut.0) refl ]

  pub shown-not-two : IsShown text before after finish → finish.status ≡ 2 → ⊥
  shown-not-two shown two = elim shown.written [ inl whole ↦ omega (arith, whole.0, two) | inr cut ↦ omega (arith, cut.0, two) ]

  pub shown-not-six : IsShown text before after finish → finish.status ≡ 6 → ⊥
  shown-not-six shown six = elim shown.written [ inl whole ↦ omega (arith, whole.0, six) | inr cut ↦ omega (arith, cut.0, six) ]

  pub shown-not-three : IsShown text before after finish → finish.status ≡ 3 → ⊥
  shown-not-three shown three = elim shown.written [ inl whole ↦ omega (arith, whole.0, three) | inr cut ↦ omega (arith, cut.0, three) ]

-- words that ask for something, help or the version aren't refused
pub not-refused : (v : Verdict) (other : Verdict) → v ≡ other → is_refused other ≡ false → is_refused v ≡ true → ⊥
not-refused v other is kept refused = let e : false ≡ true = sym kept ∙ (ap is_refused (sym is) ∙ refused) in cc
