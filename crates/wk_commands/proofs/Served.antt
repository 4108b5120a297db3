-- What serving has written, and what it leaves of the wiki.
use Rattle.std.proofs.Common.{◌≡◌, ◌≢◌, ◌⊎◌, ◌≤◌, ℕ, ◌+◌, ◌-◌, true, List, [], ◌∷◌, ◌++◌, length, take, drop, Option, None, Some, Result, Ok, Err, refl, sym, ap, ap₂, ◌∙◌, subst, inl, inr, arith, append-nil}
use Rattle.std.proofs.lemmas.Bool.{false≢true}
use Rattle.std.proofs.lemmas.List.{take-append-drop}
use Rattle.std.specs.Prelude.{IfErr, OnOk}
use Rattle.std.proofs.KnownBytes.{Appends-nil, Appends-trans}
use mathlib.Core.List.{IsPrefix}
use Rattle.wk_base.specs.Faults.{Rose}
use Rattle.wk_base.specs.Writing.{AppendsPrefix}
use Rattle.wk_wiki_rules.specs.States.{State}
use Rattle.wk_wiki_rules.specs.Lives.{replay}
use Rattle.wk_wiki_laws.specs.Saves.{Continues, saves}
use Rattle.wk_wiki_rules.specs.Starts.{Start}
use Rattle.wk_life_laws.specs.Runs.{IsRun}
use Rattle.wk_life_laws.proofs.RunFacts.{run_replayed}
use Rattle.wk_core.specs.Loads.{HasOpened}
use Rattle.wk_core.specs.Seen.{WikiSeen}
use Rattle.wk_door.specs.Entrances.{IsEntered, IsOver, after_giving, is_emptied}
use Rattle.wk_door.specs.Told.{DoorCounts, DoorTold, counts_of, listening}
use Rattle.wk_door.specs.declared.entrance.Shut.{Shut}
use Rattle.wk_door.specs.declared.entrance.Shut.TheVariants.{Broken, Empty}
use Rattle.wk_door.specs.declared.entrance.Taken.{Taken}
use Rattle.wk_serving.specs.Returns.{ComesBack}
use Rattle.wk_serving.specs.Serves.{HasServed}
use Rattle.wk_commands.specs.Lived.{HasLivedOn}
use Rattle.wk_commands.specs.Served.{EndsAsLine, EndsServing, EndsTaken, GivesAtMost, HasBegun, HasGiven, HasServedAt, HasWrittenPart, IsServedFrom, WritesLine, before_links, behind_links, broken, gave, no_memory, not_listening, served, unwritten}
use Rattle.wk_commands.specs.Texts.{listening_line, served_line}
use Rattle.wk_commands.specs.declared.ends.CommandEnd.{CommandEnd}
use Rattle.wk_commands.specs.declared.ends.CommandEnd.TheVariants.{Done, Differs, DoorFault, Full, Memory, StoreFault, WriteFault}
use Rattle.wk_commands.proofs.Lives.{sound-on}

-- ---- nothing of a line

nothing-yet : (before : Option (List ℕ)) (text : List ℕ) → AppendsPrefix before before text
nothing-yet before text = (0, omega arith, Appends-nil before)

-- ---- before the first link

module _ {L : Type 0} (address : List ℕ) (told later : Option (DoorTold L)) (faults faults_later : ℕ) where
  -- the door couldn't listen
  pub not-listening : (before : Option (List ℕ)) (most : ℕ) → later ≡ told → Rose faults faults_later → HasServedAt address most told later faults faults_later before before DoorFault
  not-listening before most same rose = broken rose (before_links (inl same) (nothing-yet before (listening_line address)))

  -- the first line wasn't written whole
  not-begun : (before after : Option (List ℕ)) (most : ℕ) (end : CommandEnd) → later ≡ listening told address → end ≢ Done → EndsAsLine (listening_line address) end before after → HasServedAt address most told later faults faults_later before after end
  not-begun before after most Done listens not line = absurd (not refl)
  not-begun before after most WriteFault listens not line = unwritten (before_links (inr listens) line)
  not-begun before after most Memory listens not line = no_memory (before_links (inr listens) (subst (λ (a : Option (List ℕ)). AppendsPrefix before a (listening_line address)) (sym line) (nothing-yet before (listening_line address))))
  not-begun before after most Differs listens not line = absurd line
  not-begun before after most Full listens not line = absurd line
  not-begun before after most StoreFault listens not line = absurd line
  not-begun before after most DoorFault listens not line = absurd line

  pub begun-by : (before after : Option (List ℕ)) (end : Result (Unit {0}) CommandEnd) → later ≡ listening told address → faults_later ≡ faults → WritesLine (listening_line address) end before after
      → OnOk end (HasBegun address told later faults faults_later before after)
  begun-by before after (Ok done) listens same line = record { listens = listens; no_fault = same; written = line }
  begun-by before after (Err end) listens same line = tt

  pub ended-by : (before after : Option (List ℕ)) (end : Result (Unit {0}) CommandEnd) → later ≡ listening told address → WritesLine (listening_line address) end before after
      → IfErr end (λ how. (most : ℕ) → HasServedAt address most told later faults faults_later before after how)
  ended-by before after (Ok done) listens line = tt
  ended-by before after (Err end) listens line = λ most. not-begun before after most end listens line.0 line.1

-- no link more
pub none-given : (counts : Option DoorCounts) → after_giving counts 0 ≡ counts
none-given None = refl
none-given (Some (address, (given, left))) =
    let more : given + 0 ≡ given = omega arith in
    let less : left - 0 ≡ left = omega arith in
    ap₂ (λ (g l : ℕ). Some (address, (g, l))) more less

-- ---- behind the last link

-- how serving ends with its last line
pub end-of-line : (line : List ℕ) (before after : Option (List ℕ)) (end : CommandEnd) → WritesLine line (Err end) before after → EndsAsLine line end before after
end-of-line line before after end written = written.1

module _ {L : Type 0} (address : List ℕ) (most : ℕ) (told middle later : Option (DoorTold L)) (faults faults_middle faults_later : ℕ) (before between after : Option (List ℕ))
    (begun : HasBegun address told middle faults faults_middle before between) where
  -- no more was written
  no-more : (line : List ℕ) → after ≡ between → AppendsPrefix between after line
  no-more line is = subst (λ (a : Option (List ℕ)). AppendsPrefix between a line) (sym is) (nothing-yet between line)

  -- the first line, and a prefix of the last one
  part : (count : ℕ) → HasGiven address most told later count → AppendsPrefix between after (served_line count) → HasWrittenPart address most told later before after
  part count given line = behind_links count between given begun.written line

  given-of : (count : ℕ) → counts_of later ≡ after_giving (counts_of middle) count → counts_of later ≡ after_giving (counts_of (listening told address)) count
  given-of count given = subst (λ (d : Option (DoorTold L)). counts_of later ≡ after_giving (counts_of d) count) begun.listens given

  given-so : (count : ℕ) → count ≤ most → counts_of later ≡ after_giving (counts_of middle) count → HasGiven address most told later count
  given-so count within given = record { within = within; counts = given-of count given }

  none-so : counts_of later ≡ counts_of middle → HasGiven address most told later 0
  none-so same = given-so 0 (omega arith) (same ∙ sym (none-given (counts_of middle)))

  to-the-end : (count : ℕ) (end : CommandEnd) → HasGiven address most told later count → (count ≡ most) ⊎ (is_emptied (counts_of later) ≡ true) → faults_later ≡ faults_middle
      → EndsAsLine (served_line count) end between after → HasServedAt address most told later faults faults_later before after end
  to-the-end count Done given all same line = served count given all (same ∙ begun.no_fault) (Appends-trans before between after (listening_line address) (served_line count) begun.written line)
  to-the-end count WriteFault given all same line = unwritten (part count given line)
  to-the-end count Memory given all same line = no_memory (part count given (no-more (served_line count) line))
  to-the-end count Differs given all same line = absurd line
  to-the-end count Full given all same line = absurd line
  to-the-end count StoreFault given all same line = absurd line
  to-the-end count DoorFault given all same line = absurd line

  as-taken : (shut : Option Shut) (count : ℕ) (end : CommandEnd) → IsEntered (counts_of middle) (counts_of later) faults_middle faults_later most count shut → IsOver most count shut
      → EndsTaken shut count end between after → HasServedAt address most told later faults faults_later before after end
  as-taken None count end entered over ends =
      let fits = entered.within in
      let all : count ≡ most = elim over [ inl none ↦ absurd (false≢true none) | inr full ↦ omega (arith, fits, full) ] in
      to-the-end count end (given-so count fits entered.given) (inl all) (entered.going refl) ends
  as-taken (Some Empty) count end entered over ends =
      let none = entered.emptied refl in
      to-the-end count end (given-so count entered.within entered.given) (inr none.1) none.0 ends
  as-taken (Some Broken) count end entered over ends =
      subst (HasServedAt address most told later faults faults_later before after) (sym ends.0)
      (broken (subst (λ f. Rose f faults_later) begun.no_fault (entered.broken refl)) (part count (given-so count entered.within entered.given) (no-more (served_line count) ends.1)))

  pub served-by : {E : Type 0} (taken : Result Taken E) (end : CommandEnd) → HasServed (counts_of middle) (counts_of later) faults_middle faults_later most taken → EndsServing taken end between after
      → HasServedAt address most told later faults faults_later before after end
  served-by (Ok taken) end done ends = as-taken taken.shut taken.count end done.0 done.1 ends
  served-by (Err none) end done ends =
      subst (HasServedAt address most told later faults faults_later before after) (sym ends.0)
      (no_memory (part 0 (none-so done.0) (no-more (served_line 0) ends.1)))

  -- whatever the end
  pub links-given : {E : Type 0} (taken : Result Taken E) → HasServed (counts_of middle) (counts_of later) faults_middle faults_later most taken → GivesAtMost address most told later
  links-given (Ok taken) done = gave taken.count (given-so taken.count done.0.within done.0.given)
  links-given (Err none) done = gave 0 (none-so done.0)

-- before the first link, the door listens at the address, or it is as it was
pub none-taken : {L : Type 0} (address : List ℕ) (most : ℕ) (told later : Option (DoorTold L)) → (later ≡ listening told address) ⊎ (later ≡ told) → GivesAtMost address most told later
none-taken address most told later is = elim is [
  | inl listens ↦ gave 0 (record { within = omega arith; counts = ap counts_of listens ∙ sym (none-given (counts_of (listening told address))) })
  | inr same ↦ not_listening same
]

-- the count of a door doesn't fall
pub door-never-falls : {E : Type 0} (told later : Option DoorCounts) (faults faults_later most : ℕ) (taken : Result Taken E) → HasServed told later faults faults_later most taken → faults ≤ faults_later
door-never-falls told later faults faults_later most (Ok taken) done = done.0.never_falls
door-never-falls told later faults faults_later most (Err none) done = let same = done.1 in omega (arith, same)

-- ---- ends

pub err-is : (a b : CommandEnd) → ◌≡◌ {A = Result (Unit {0}) CommandEnd} (Err a) (Err b) → a ≡ b
err-is a b is = cc

pub ok-is-not : (a : CommandEnd) → ◌≡◌ {A = Result (Unit {0}) CommandEnd} (Ok tt) (Err a) → ⊥
ok-is-not a is = cc

-- the count rose in the second of two calls, and in the first it stayed
pub rose-later : (before between after : ℕ) → between ≡ before → Rose between after → Rose before after
rose-later before between after same rose = subst (λ n. Rose n after) same rose

-- ---- the wiki

prefix-of : {A : Type 0} (xs ys : List A) → take (length xs) ys ≡ xs → IsPrefix xs ys
prefix-of xs ys first = (drop (length xs) ys, ap (λ l. l ++ drop (length xs) ys) (sym first) ∙ take-append-drop (length xs) ys)

module _ {K : Type 0} (old new : WikiSeen K) (opening : HasOpened old old.start.limits) (run : IsRun old.start old.journal old.state) where
  pub served-from : IsRun new.start new.journal new.state → Continues new.start.state.history (saves new.journal) new.state.history → ComesBack old new → IsServedFrom old new
  served-from later continues back =
      let same : new.start.state ≡ old.state = ap (λ (s : Start). s.state) back.start ∙ opening.start in
      let replayed : replay old.state new.journal ≡ Some new.state = ap (λ s. replay s new.journal) (sym same) ∙ run_replayed new.start new.journal new.state later in
      let lived : HasLivedOn old.state new.state = record { journals = new.journal ∷ []; lives = (new.state, replayed, refl) } in record {
        start = back.start;
        lived = lived;
        replayed = replayed;
        revisions = subst (λ (s : State). IsPrefix s.history.revisions new.state.history.revisions) same (prefix-of new.start.state.history.revisions new.state.history.revisions continues.first);
        sound = sound-on old opening new.state run lived;
      }

  -- nothing was served
  pub not-served : IsServedFrom old old
  not-served = record {
    start = refl;
    lived = record { journals = []; lives = refl };
    replayed = ap (replay old.state) opening.journal;
    revisions = ([], append-nil old.state.history.revisions);
    sound = λ sound. sound;
  }
