-- How following a feed ends.
use Rattle.std.proofs.Common.{◌≡◌, ◌⊎◌, ◌≤◌, ℕ, true, List, Option, None, Some, Result, Ok, Err, refl, sym, ap, ◌∙◌, subst, inl, inr, arith}
use Rattle.std.proofs.lemmas.Bool.{false≢true}
use Rattle.std.specs.Io.KnownBytes.{IsAtEnd}
use Rattle.wk_base.specs.Faults.{Rose}
use Rattle.wk_replica_serving.specs.Feeds.{EndsBefore, EndsFeed, TellsEvents}
use Rattle.wk_replica_serving.specs.Served.{HasServedReads}
use Rattle.wk_replica_serving.specs.declared.ends.FeedEnd.{FeedEnd}
use Rattle.wk_replica_serving.specs.declared.ends.FeedEnd.TheVariants as feed
use Rattle.wk_door.specs.Entrances.{IsEntered, IsOver, after_giving, is_emptied}
use Rattle.wk_door.specs.Told.{DoorTold, counts_of, listening}
use Rattle.wk_door.specs.declared.entrance.Shut.{Shut}
use Rattle.wk_door.specs.declared.entrance.Shut.TheVariants.{Broken, Empty}
use Rattle.wk_door.specs.declared.entrance.Taken.{Taken}
use Rattle.wk_commands.specs.Followed.{EndsAsText, EndsFollowing, EndsServed, EndsShut, HasFollowed, bad_feed, broken, end_of_feed, followed, no_memory, too_long, unread, unwritten}
use Rattle.wk_commands.specs.Served.{GivesAtMost, HasGiven, gave}
use Rattle.wk_commands.specs.Texts.{replica_line}
use Rattle.wk_commands.specs.declared.replicas.ReplicaEnd.{ReplicaEnd}
use Rattle.wk_commands.specs.declared.replicas.ReplicaEnd.TheVariants as replica
use Rattle.wk_commands.proofs.Served.{none-given}

module _ {L : Type 0} (address : List ℕ) (most : ℕ) (told middle later : Option (DoorTold L)) (faults faults_middle faults_later : ℕ) (rest left before after : Option (List ℕ))
    (listens : middle ≡ listening told address) (still : faults_middle ≡ faults) where
  abbrev Ends : ReplicaEnd → Type 0
  Ends = HasFollowed address most told later faults faults_later rest left before after

  given-so : (count : ℕ) → count ≤ most → counts_of later ≡ after_giving (counts_of middle) count → HasGiven address most told later count
  given-so count within given = record { within = within; counts = subst (λ (d : Option (DoorTold L)). counts_of later ≡ after_giving (counts_of d) count) listens given }

  by-text : (events count : ℕ) → HasGiven address most told later count → (count ≡ most) ⊎ (is_emptied (counts_of later) ≡ true) → faults_later ≡ faults → IsAtEnd left → TellsEvents rest left events
      → (end : ReplicaEnd) → EndsAsText (replica_line events) end before after → Ends end
  by-text events count given all same ended tells replica.Done line = followed events count given all same ended tells line
  by-text events count given all same ended tells replica.WriteFault line = unwritten events ended tells line
  by-text events count given all same ended tells replica.Memory line = no_memory line
  by-text events count given all same ended tells (replica.BadFeed number) line = absurd line
  by-text events count given all same ended tells replica.ReadFault line = absurd line
  by-text events count given all same ended tells replica.DoorFault line = absurd line
  by-text events count given all same ended tells replica.Bound line = absurd line

  by-shut : (shut : Option Shut) (count events : ℕ) → IsEntered (counts_of middle) (counts_of later) faults_middle faults_later most count shut → IsOver most count shut → IsAtEnd left → TellsEvents rest left events
      → (end : ReplicaEnd) → EndsShut shut events end before after → Ends end
  by-shut None count events entered over ended tells end ends =
      let fits = entered.within in
      let all : count ≡ most = elim over [ inl none ↦ absurd (false≢true none) | inr full ↦ omega (arith, fits, full) ] in
      by-text events count (given-so count fits entered.given) (inl all) (entered.going refl ∙ still) ended tells end ends
  by-shut (Some Empty) count events entered over ended tells end ends =
      let none = entered.emptied refl in
      by-text events count (given-so count entered.within entered.given) (inr none.1) (none.0 ∙ still) ended tells end ends
  by-shut (Some Broken) count events entered over ended tells end ends =
      subst Ends (sym ends.0) (broken (subst (λ f. Rose f faults_later) still (entered.broken refl)) ends.1)

  by-taken : {E : Type 0} (taken : Result Taken E) (events : ℕ) → HasServedReads (counts_of middle) (counts_of later) faults_middle faults_later most taken feed.Ended → IsAtEnd left → TellsEvents rest left events
      → (end : ReplicaEnd) → EndsServed taken events end before after → Ends end
  by-taken (Ok taken) events done ended tells end ends = by-shut taken.shut taken.count events done.0 (done.1 refl) ended tells end ends
  by-taken (Err memory) events done ended tells end ends = subst Ends (sym ends.0) (no_memory ends.1)

  pub followed-by : {E : Type 0} (how : FeedEnd) (taken : Result Taken E) (events : ℕ) (end : ReplicaEnd) → HasServedReads (counts_of middle) (counts_of later) faults_middle faults_later most taken how
      → EndsFeed rest left events how → EndsFollowing how taken events end before after → Ends end
  followed-by feed.Ended taken events end done fed ends = by-taken taken events done fed.0 fed.1 end ends
  followed-by (feed.Bad number) taken events end done fed ends = subst Ends (sym ends.0) (bad_feed number (inl fed) ends.1)
  followed-by feed.ReadFault taken events end done fed ends = subst Ends (sym ends.0) (unread ends.1)
  followed-by feed.Bound taken events end done fed ends = subst Ends (sym ends.0) (too_long fed ends.1)
  followed-by feed.Memory taken events end done fed ends = subst Ends (sym ends.0) (no_memory ends.1)

  -- whatever the end
  pub links-read : {E : Type 0} (how : FeedEnd) (taken : Result Taken E) → HasServedReads (counts_of middle) (counts_of later) faults_middle faults_later most taken how → GivesAtMost address most told later
  links-read how (Ok taken) done = gave taken.count (given-so taken.count done.0.within done.0.given)
  links-read how (Err memory) done = gave 0 (given-so 0 (omega arith) (done.0 ∙ sym (none-given (counts_of middle))))

  pub count-read : {E : Type 0} (how : FeedEnd) (taken : Result Taken E) → HasServedReads (counts_of middle) (counts_of later) faults_middle faults_later most taken how → faults ≤ faults_later
  count-read how (Ok taken) done = let now = done.0.never_falls in omega (arith, now, still)
  count-read how (Err memory) done = let now = done.1 in omega (arith, now, still)

-- ---- before the door listens

module _ {L : Type 0} (address : List ℕ) (most : ℕ) (told : Option (DoorTold L)) (faults : ℕ) (rest left before : Option (List ℕ)) where
  pub begun-not : (how : FeedEnd) → EndsBefore rest left how → HasFollowed address most told told faults faults rest left before before (end_of_feed how)
  begun-not feed.Ended ends = absurd ends
  begun-not (feed.Bad number) ends = bad_feed number ends refl
  begun-not feed.ReadFault ends = unread refl
  begun-not feed.Bound ends = too_long ends refl
  begun-not feed.Memory ends = no_memory refl

-- ---- reads that failed

-- an end of the feed that is the command's
pub feed-is-fault : (how : FeedEnd) → end_of_feed how ≡ replica.ReadFault → how ≡ feed.ReadFault
feed-is-fault feed.Ended is = absurd (let e : replica.Done ≡ replica.ReadFault = is in cc)
feed-is-fault (feed.Bad number) is = absurd (let e : replica.BadFeed number ≡ replica.ReadFault = is in cc)
feed-is-fault feed.ReadFault is = refl
feed-is-fault feed.Bound is = absurd (let e : replica.Bound ≡ replica.ReadFault = is in cc)
feed-is-fault feed.Memory is = absurd (let e : replica.Memory ≡ replica.ReadFault = is in cc)

-- no end of the feed is a write that failed
pub feed-not-written : (how : FeedEnd) → end_of_feed how ≡ replica.WriteFault → ⊥
feed-not-written feed.Ended is = let e : replica.Done ≡ replica.WriteFault = is in cc
feed-not-written (feed.Bad number) is = let e : replica.BadFeed number ≡ replica.WriteFault = is in cc
feed-not-written feed.ReadFault is = let e : replica.ReadFault ≡ replica.WriteFault = is in cc
feed-not-written feed.Bound is = let e : replica.Bound ≡ replica.WriteFault = is in cc
feed-not-written feed.Memory is = let e : replica.Memory ≡ replica.WriteFault = is in cc

module _ (before after : Option (List ℕ)) (end : ReplicaEnd) (is : end ≡ replica.ReadFault) where
  not-by-text : (text : List ℕ) → EndsAsText text end before after → ⊥
  not-by-text text ends = subst (λ (e : ReplicaEnd). EndsAsText text e before after) is ends

  not-by-shut : (shut : Option Shut) (events : ℕ) → EndsShut shut events end before after → ⊥
  not-by-shut None events ends = not-by-text (replica_line events) ends
  not-by-shut (Some Empty) events ends = not-by-text (replica_line events) ends
  not-by-shut (Some Broken) events ends = let e : replica.DoorFault ≡ replica.ReadFault = sym ends.0 ∙ is in cc

  not-by-taken : {E : Type 0} (taken : Result Taken E) (events : ℕ) → EndsServed taken events end before after → ⊥
  not-by-taken (Ok taken) events ends = not-by-shut taken.shut events ends
  not-by-taken (Err memory) events ends = let e : replica.Memory ≡ replica.ReadFault = sym ends.0 ∙ is in cc

  -- a read failed for the feed
  pub read-rose : {E : Type 0} (how : FeedEnd) (taken : Result Taken E) (events : ℕ) → EndsFollowing how taken events end before after → how ≡ feed.ReadFault
  read-rose feed.Ended taken events ends = absurd (not-by-taken taken events ends)
  read-rose (feed.Bad number) taken events ends = absurd (let e : replica.BadFeed number ≡ replica.ReadFault = sym ends.0 ∙ is in cc)
  read-rose feed.ReadFault taken events ends = refl
  read-rose feed.Bound taken events ends = absurd (let e : replica.Bound ≡ replica.ReadFault = sym ends.0 ∙ is in cc)
  read-rose feed.Memory taken events ends = absurd (let e : replica.Memory ≡ replica.ReadFault = sym ends.0 ∙ is in cc)

module _ (before after : Option (List ℕ)) (end : ReplicaEnd) (is : end ≡ replica.Done) where
  -- the feed was taken to its end
  pub read-done : {E : Type 0} (how : FeedEnd) (taken : Result Taken E) (events : ℕ) → EndsFollowing how taken events end before after → how ≡ feed.Ended
  read-done feed.Ended taken events ends = refl
  read-done (feed.Bad number) taken events ends = absurd (let e : replica.BadFeed number ≡ replica.Done = sym ends.0 ∙ is in cc)
  read-done feed.ReadFault taken events ends = absurd (let e : replica.ReadFault ≡ replica.Done = sym ends.0 ∙ is in cc)
  read-done feed.Bound taken events ends = absurd (let e : replica.Bound ≡ replica.Done = sym ends.0 ∙ is in cc)
  read-done feed.Memory taken events ends = absurd (let e : replica.Memory ≡ replica.Done = sym ends.0 ∙ is in cc)

-- before the start it can't be
pub feed-not-done : (rest left : Option (List ℕ)) (how : FeedEnd) → EndsBefore rest left how → end_of_feed how ≡ replica.Done → ⊥
feed-not-done rest left feed.Ended ends is = ends
feed-not-done rest left (feed.Bad number) ends is = let e : replica.BadFeed number ≡ replica.Done = is in cc
feed-not-done rest left feed.ReadFault ends is = let e : replica.ReadFault ≡ replica.Done = is in cc
feed-not-done rest left feed.Bound ends is = let e : replica.Bound ≡ replica.Done = is in cc
feed-not-done rest left feed.Memory ends is = let e : replica.Memory ≡ replica.Done = is in cc
