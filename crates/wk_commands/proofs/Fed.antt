-- What serving with a feed has written.
use Rattle.std.proofs.Common.{◌≡◌, ◌≢◌, ◌≤◌, ℕ, true, List, ◌++◌, Option, None, Some, Result, Ok, Err, IfOk, length, map, refl, sym, ap, ◌∙◌, subst, inl, inr, arith}
use Rattle.std.proofs.lemmas.Bool.{false≢true}
use Rattle.std.proofs.KnownBytes.{Appends-trans}
use Rattle.std.specs.Io.KnownBytes.{Appends}
use Rattle.std.specs.Prelude.{IfErr, OnOk}
use Rattle.wk_base.specs.Faults.{Rose}
use Rattle.wk_wiki_rules.specs.Events.{Event}
use Rattle.wk_wiki_rules.specs.States.{State}
use Rattle.wk_feed_rules.specs.Feeds.{event_line, start_lines}
use Rattle.wk_feeder.specs.Bytes.{event_bytes, feed_bytes}
use Rattle.wk_feeder.specs.declared.start.FeedRefusal.{FeedRefusal}
use Rattle.wk_feeder.specs.declared.start.FeedRefusal.TheVariants as refusal
use Rattle.wk_feeder.proofs.Tables.{bytes-append}
use Rattle.wk_door.specs.Entrances.{IsEntered, IsOver, after_giving}
use Rattle.wk_door.specs.Told.{DoorTold, counts_of, listening}
use Rattle.wk_door.specs.declared.entrance.Shut.{Shut}
use Rattle.wk_door.specs.declared.entrance.Shut.TheVariants.{Broken, Empty}
use Rattle.wk_door.specs.declared.entrance.Taken.{Taken}
use Rattle.wk_serving.specs.Serves.{HasServedFed}
use Rattle.wk_commands.specs.Fed.{HasBegunFed, HasFedAt, IsUnfed, broken, end_of_feeding, end_of_shut, fed, no_memory, unwritten}
use Rattle.wk_commands.specs.Served.{GivesAtMost, HasGiven, gave}
use Rattle.wk_commands.specs.declared.ends.CommandEnd.{CommandEnd}
use Rattle.wk_commands.specs.declared.ends.CommandEnd.TheVariants as command
use Rattle.wk_commands.proofs.Served.{none-given}

module _ {L : Type 0} (address : List ℕ) (most : ℕ) (told middle later : Option (DoorTold L)) (faults faults_middle faults_later : ℕ) (before between after : Option (List ℕ)) (from : State) (events : List Event)
    (begun : HasBegunFed address from told middle faults faults_middle before between) where
  abbrev Ends : CommandEnd → Type 0
  Ends = HasFedAt address most told later faults faults_later before after from events

  given-so : (count : ℕ) → count ≤ most → counts_of later ≡ after_giving (counts_of middle) count → HasGiven address most told later count
  given-so count within given = record { within = within; counts = subst (λ (d : Option (DoorTold L)). counts_of later ≡ after_giving (counts_of d) count) begun.listens given }

  all-written : Appends between after (event_bytes events) → Appends before after (feed_bytes (start_lines from ++ map event_line events))
  all-written sent =
      subst (Appends before after) (sym (bytes-append (start_lines from) (map event_line events)))
      (Appends-trans before between after (feed_bytes (start_lines from)) (event_bytes events) begun.written sent)

  by-shut : (shut : Option Shut) (count : ℕ) → IsEntered (counts_of middle) (counts_of later) faults_middle faults_later most count shut → IsOver most count shut
      → Appends between after (event_bytes events) → Ends (end_of_shut shut)
  by-shut None count entered over sent =
      let fits = entered.within in
      let all : count ≡ most = elim over [ inl none ↦ absurd (false≢true none) | inr full ↦ omega (arith, fits, full) ] in
      fed count (given-so count fits entered.given) (inl all) (entered.going refl ∙ begun.no_fault) (all-written sent)
  by-shut (Some Empty) count entered over sent =
      let none = entered.emptied refl in
      fed count (given-so count entered.within entered.given) (inr none.1) (none.0 ∙ begun.no_fault) (all-written sent)
  by-shut (Some Broken) count entered over sent = broken (subst (λ f. Rose f faults_later) begun.no_fault (entered.broken refl)) (inr (all-written sent))

  pub fed-by : {E : Type 0} (sent : Result ℕ FeedRefusal) (taken : Result Taken E) → HasServedFed (counts_of middle) (counts_of later) faults_middle faults_later most taken sent
      → IfOk sent (λ n. (n ≡ length events) × Appends between after (event_bytes events)) → Ends (end_of_feeding sent taken)
  fed-by (Ok n) (Ok taken) done sent = by-shut taken.shut taken.count done.0 (done.1 refl) sent.1
  fed-by (Ok n) (Err memory) done sent = no_memory
  fed-by (Err refusal.WriteFault) taken done sent = unwritten
  fed-by (Err refusal.Memory) taken done sent = no_memory

  -- whatever the end
  pub links-fed : {E N F : Type 0} (taken : Result Taken E) (sent : Result N F) → HasServedFed (counts_of middle) (counts_of later) faults_middle faults_later most taken sent → GivesAtMost address most told later
  links-fed (Ok taken) sent done = gave taken.count (given-so taken.count done.0.within done.0.given)
  links-fed (Err memory) sent done = gave 0 (given-so 0 (omega arith) (done.0 ∙ sym (none-given (counts_of middle))))

  pub count-fed : {E N F : Type 0} (taken : Result Taken E) (sent : Result N F) → HasServedFed (counts_of middle) (counts_of later) faults_middle faults_later most taken sent → faults ≤ faults_later
  count-fed (Ok taken) sent done = let now = done.0.never_falls in let first = begun.no_fault in omega (arith, now, first)
  count-fed (Err memory) sent done = let now = done.1 in let first = begun.no_fault in omega (arith, now, first)

-- ---- before the first link

module _ {L : Type 0} (address : List ℕ) (told later : Option (DoorTold L)) (faults faults_later : ℕ) (before after : Option (List ℕ)) where
  pub fed-begun : (from : State) (end : Result (Unit {0}) CommandEnd) → later ≡ listening told address → faults_later ≡ faults → OnOk end (Appends before after (feed_bytes (start_lines from)))
      → OnOk end (HasBegunFed address from told later faults faults_later before after)
  fed-begun from (Ok done) listens same sent = record { listens = listens; no_fault = same; written = sent }
  fed-begun from (Err end) listens same sent = tt

  pub fed-ended : (end : Result (Unit {0}) CommandEnd) → IfErr end IsUnfed → IfErr end (λ how. (most : ℕ) (from : State) (events : List Event) → HasFedAt address most told later faults faults_later before after from events how)
  fed-ended (Ok done) unfed = tt
  fed-ended (Err command.WriteFault) unfed = λ most from events. unwritten
  fed-ended (Err command.Memory) unfed = λ most from events. no_memory
  fed-ended (Err command.Done) unfed = absurd unfed
  fed-ended (Err command.DoorFault) unfed = absurd unfed
  fed-ended (Err command.Differs) unfed = absurd unfed
  fed-ended (Err command.Full) unfed = absurd unfed
  fed-ended (Err command.StoreFault) unfed = absurd unfed

-- ---- writes that failed

pub sent-same : {E : Type 0} (sent : Result ℕ FeedRefusal) (taken : Result Taken E) → end_of_feeding sent taken ≢ command.WriteFault → sent ≢ Err refusal.WriteFault
sent-same (Ok n) taken not = λ is. let e : ◌≡◌ {A = Result ℕ FeedRefusal} (Ok n) (Err refusal.WriteFault) = is in cc
sent-same (Err refusal.WriteFault) taken not = λ _. not refl
sent-same (Err refusal.Memory) taken not = λ is. let e : ◌≡◌ {A = Result ℕ FeedRefusal} (Err refusal.Memory) (Err refusal.WriteFault) = is in cc

no-shut : (shut : Option Shut) → end_of_shut shut ≡ command.WriteFault → ⊥
no-shut None is = let e : command.Done ≡ command.WriteFault = is in cc
no-shut (Some Empty) is = let e : command.Done ≡ command.WriteFault = is in cc
no-shut (Some Broken) is = let e : command.DoorFault ≡ command.WriteFault = is in cc

pub sent-rose : {E : Type 0} (sent : Result ℕ FeedRefusal) (taken : Result Taken E) → end_of_feeding sent taken ≡ command.WriteFault → sent ≡ Err refusal.WriteFault
sent-rose (Ok n) (Ok taken) is = absurd (no-shut taken.shut is)
sent-rose (Ok n) (Err memory) is = absurd (let e : command.Memory ≡ command.WriteFault = is in cc)
sent-rose (Err refusal.WriteFault) taken is = refl
sent-rose (Err refusal.Memory) taken is = absurd (let e : command.Memory ≡ command.WriteFault = is in cc)
