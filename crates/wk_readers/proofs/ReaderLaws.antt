-- What a reader keeps, and what is answered of it.
use Rattle.std.proofs.Common.{◌≡◌, ◌⊎◌, ℕ, ◌+◌, ◌≤◌, ◌<◌, Bool, true, false, List, [], ◌∷◌, length, Contains, Option, Some, None, inl, inr, refl, sym, ap, ◌∙◌, subst, arith}
use Rattle.std.specs.Prelude.{All, Result, Ok, Err, OnErr, OnOk}
use Rattle.std.specs.Option.{option_map_or}
use mathlib.Core.List.{IsPrefix}
use Rattle.wk_text_rules.specs.Titles.{PageTitle}
use Rattle.wk_view_rules.specs.Worlds.{IsSeen, Read, fits_kind}
use Rattle.wk_wiki_rules.specs.States.{State, world_of}
use Rattle.wk_wiki_rules.specs.Events.{Event}
use Rattle.wk_wiki_rules.specs.Passes.{IsKeptRead, IsReadAt, max_uses}
use Rattle.wk_wiki_rules.specs.Staleness.{first_stale}
use Rattle.wk_wiki_rules.specs.Starts.{Start}
use Rattle.wk_life_laws.specs.Runs.{IsRun}
use Rattle.wk_life_laws.proofs.RunFacts.{run_present}
use Rattle.wk_core.specs.declared.outcomes.PageRead.{PageRead}
use Rattle.wk_core.specs.declared.outcomes.ReadRefusal.{ReadRefusal}
use Rattle.wk_expand.specs.Drafts.{DraftShown}
use Rattle.wk_turn.specs.Told.{Begun, IsOf, Story}
use Rattle.wk_turn.proofs.Lists.{prefix_length}
use Rattle.wk_shared.specs.Calls.{IsFree, seen_by}
use Rattle.wk_cache.specs.Entries.{CacheShown, entry_kept, entry_of, is_of, kept_with, marked, marked_with, to_front, without}
use Rattle.wk_cache.specs.declared.kept.Kept.{Kept}
use Rattle.wk_cache.proofs.Lists.{found-among, found-passes, front-among, front-found, marked-among, put-among}
use Rattle.wk_read_laws.proofs.PageLaws.{kept-current, kept-longer}
use Rattle.wk_shared.specs.Looks.{HasLooked, HasRead, IsPresentRead, is_idle, reading_of}
use Rattle.wk_shared.proofs.LookLaws.{read-both, read-none}
use Rattle.wk_shared.specs.Sought.{kept_read}
use Rattle.wk_readers.specs.Worked.{HasWorked}
use Rattle.wk_readers.specs.Readers.{AreRight, IsIdleAt, KnowsIdle, ReaderSeen}
use Rattle.wk_readers.specs.declared.reader.Checked.TheVariants.{Current}
use Rattle.wk_readers.specs.Reads.{IsAnswered, IsCheck, IsDraftedAnew, IsLate, IsPageRead, IsServed, KeepsCount, KeepsOrAdds, OnlyKeeps, answer_of_kept, fresh_entry}

abbrev Pass : Type 0
Pass = Story Start Event

same-start : (pass : Pass) (a b : Start) → pass.start ≡ Some a → pass.start ≡ Some b → a ≡ b
same-start pass a b one two = let e : Some a ≡ Some b = sym one ∙ two in cc

-- ---- whether a job is to be done

knows-idle : (shared : Begun Start) (new : Pass) (state : State) (idle : Bool) → IsOf shared new → IsRun shared.start new.seen state → idle ≡ is_idle state → KnowsIdle new idle
knows-idle shared new state true of run is = λ start begun.
    subst (λ (s : Start). IsIdleAt s new) (same-start new shared.start start of.1 begun)
    (record { state = state; stands = run_present shared.start new.seen state run; idle = sym is })
knows-idle shared new state false of run is = tt

-- a look has told
pub knows-looked : (shared : Begun Start) (pass new : Pass) (state : State) (idle : Bool) → HasLooked shared pass new state → idle ≡ is_idle state → KnowsIdle new idle
knows-looked shared pass new state idle looked is = knows-idle shared new state idle looked.read.turn looked.run is

-- ---- each entry is right

pub right-later : (old new : Pass) (entries : List Kept) → IsPrefix old.seen new.seen → new.start ≡ old.start → AreRight old entries → AreRight new entries
right-later old new entries begins same right = λ start kept is among.
    kept-longer start old.seen new.seen old.own new.own (entry_kept kept) begins (right start kept (sym same ∙ is) among)

pub right-read : (shared : Begun Start) (old new : Pass) (entries : List Kept) → IsOf shared old → HasRead shared old new → AreRight old entries → AreRight new entries
right-read shared old new entries of read right = right-later old new entries read.seen (read.turn.1 ∙ sym of.1) right

pub right-worked : (shared : Begun Start) (old new : Pass) (entries : List Kept) → IsOf shared old → HasWorked shared old new → AreRight old entries → AreRight new entries
right-worked shared old new entries of worked right = right-later old new entries worked.seen (worked.turn.1 ∙ sym of.1) right

pub right-front : (pass : Pass) (page : PageTitle) (entries : List Kept) → AreRight pass entries → AreRight pass (to_front page entries)
right-front pass page entries right = λ start kept is among. right start kept is (front-among page entries kept among)

module _ (page : PageTitle) (entries : List Kept) (e : Kept) (found : entry_of page entries ≡ Some e) where
  one-entry : (f : Kept) → entry_of page entries ≡ Some f → f ≡ e
  one-entry f is = let x : Some f ≡ Some e = sym is ∙ found in cc

  pub right-used : (pass : Pass) → e.uses < max_uses → AreRight pass entries → AreRight pass (marked page e.point (e.uses + 1) entries)
  right-used pass few right = λ start kept is among. elim (marked-among page e.point (e.uses + 1) entries kept among) [
    | inl before ↦ right start kept is before
    | inr new ↦
        let was = right start e is (found-among page entries e found).0 in
        let now : IsKeptRead (seen_by start pass) (entry_kept (marked_with e.point (e.uses + 1) e)) = record { own_text = was.own_text; right = was.right; uses = omega (arith, few) } in
        subst (λ (x : Kept). IsKeptRead (seen_by start pass) (entry_kept x)) (ap (marked_with e.point (e.uses + 1)) (sym (one-entry new.0 new.1)) ∙ sym new.2) now
  ]

  module _ (shared : Begun Start) (old new : Pass) (state : State) (of : IsOf shared old) (looked : HasLooked shared old new state) (right : AreRight old entries)
      (formed : All (λ (r : Read). fits_kind r.kind r.answer ≡ true) e.draft.reads) (none : first_stale (world_of state) e.draft.reads ≡ None) where
    kept-now : IsKeptRead (seen_by shared.start new) (entry_kept e)
    kept-now = right-read shared old new entries of looked.read right shared.start e looked.read.turn.1 (found-among page entries e found).0

    pub right-now : IsReadAt (seen_by shared.start new) (reading_of (answer_of_kept e (length new.seen)))
    right-now = kept-current shared.start new.seen new.own state (entry_kept e) looked.run kept-now formed none

    pub right-checked : AreRight new (marked page (length new.seen) 0 entries)
    right-checked = λ start kept is among. elim (marked-among page (length new.seen) 0 entries kept among) [
      | inl before ↦ right-read shared old new entries of looked.read right start kept is before
      | inr fresh ↦
          let now : IsKeptRead (seen_by shared.start new) (entry_kept (marked_with (length new.seen) 0 e)) = record { own_text = kept-now.own_text; right = right-now; uses = omega arith } in
          subst (λ (z : Start × Kept). IsKeptRead (seen_by z.0 new) (entry_kept z.1))
          (λ i. (same-start new shared.start start looked.read.turn.1 is i, (ap (marked_with (length new.seen) 0) (sym (one-entry fresh.0 fresh.1)) ∙ sym fresh.2) i)) now
    ]

    pub checked-answer : IsPresentRead shared new page None (answer_of_kept e (length new.seen))
    checked-answer = record { page_is = (found-among page entries e found).1; given_is = kept-now.own_text; point_is = refl; right = right-now }

pub right-put : (pass : Pass) (most : ℕ) (read : PageRead) (entries : List Kept) → AreRight pass entries
    → ((start : Start) → pass.start ≡ Some start → IsReadAt (seen_by start pass) (reading_of read)) → read.draft.given ≡ None → AreRight pass (kept_with most (fresh_entry read) entries)
right-put pass most read entries right now own = λ start kept is among. elim (put-among most (fresh_entry read) entries kept among) [
  | inl before ↦ right start kept is before
  | inr fresh ↦
      let one : IsKeptRead (seen_by start pass) (entry_kept (fresh_entry read)) = record { own_text = own; right = now start is; uses = omega arith } in
      subst (λ (x : Kept). IsKeptRead (seen_by start pass) (entry_kept x)) (sym fresh) one
]

-- what is answered at the present point is right however the pass's start is told
pub right-present : (shared : Begun Start) (pass : Pass) (page : PageTitle) (given : Option (List ℕ)) (read : PageRead) → IsOf shared pass → IsPresentRead shared pass page given read
    → (start : Start) → pass.start ≡ Some start → IsReadAt (seen_by start pass) (reading_of read)
right-present shared pass page given read of is start begun =
    subst (λ (s : Start). IsReadAt (seen_by s pass) (reading_of read)) (same-start pass shared.start start of.1 begun) is.right

-- ---- the order of entries

marked-by : (page : PageTitle) (point uses : ℕ) (entries : List Kept) (o : Option Kept) → entry_of page entries ≡ o
    → marked page point uses (option_map_or (λ (k : Kept). k ∷ without page entries) o entries) ≡ option_map_or (λ (k : Kept). marked_with point uses k ∷ without page entries) o entries
marked-by page point uses entries None is = ap (λ (o : Option Kept). option_map_or (λ (k : Kept). marked_with point uses k ∷ without page entries) o entries) is
marked-by page point uses entries (Some e) is = let here : is_of page e ≡ true = found-passes page entries e is in rw here refl

pub marked-front : (page : PageTitle) (point uses : ℕ) (entries : List Kept) → marked page point uses (to_front page entries) ≡ marked page point uses entries
marked-front page point uses entries = marked-by page point uses entries (entry_of page entries) refl

-- ---- what a read leaves

pub keeps-same : (one two : List Kept) → two ≡ one → OnlyKeeps one two
keeps-same one two same = λ kept among. subst (λ (l : List Kept). Contains l kept) same among

pub adds-later : (one two three : List Kept) (fresh : Kept) → OnlyKeeps one two → KeepsOrAdds two three fresh → KeepsOrAdds one three fresh
adds-later one two three fresh first later = λ kept among. elim (later kept among) [
  | inl before ↦ inl (first kept before)
  | inr new ↦ inr new
]

-- ---- answers

-- an answer that is right at the point that the pass has seen last is no older than what it had seen before
pub present-answer : (shared : Begun Start) (old new : Pass) (page : PageTitle) (given : Option (List ℕ)) (least : ℕ) (read : PageRead) → IsPrefix old.seen new.seen → least ≤ length new.seen
    → IsPresentRead shared new page given read → IsAnswered shared old new page given least read
present-answer shared old new page given least read begins reached is =
    let longer = prefix_length old.seen new.seen begins in
    let point = is.point_is in
    record {
      page_is = is.page_is;
      given_is = is.given_is;
      right = is.right;
      reached = omega (arith, point, reached);
      fresh = omega (arith, point, longer);
    }

module _ (shared : Begun Start) (page : PageTitle) (least : ℕ) where
  served-answer : (old new : ReaderSeen) (read : PageRead) → IsOf shared old.pass → AreRight old.pass old.entries → IsServed page least old new read → IsAnswered shared old.pass new.pass page None least read
  served-answer old new read of right served =
      let there = found-among page old.entries served.entry served.found in
      let was = right shared.start served.entry of.1 there.0 in
      let same : new.pass ≡ old.pass = ap (λ (r : ReaderSeen). r.pass) served.left in
      let reached = served.reached in
      let fresh = served.fresh in
      let answer : IsAnswered shared old.pass old.pass page None least (answer_of_kept served.entry served.entry.point) = record {
        page_is = there.1;
        given_is = was.own_text;
        right = was.right;
        reached = reached;
        fresh = fresh;
      } in
      let back = sym same in
      let told = sym served.answered in
      subst (λ (z : Pass × PageRead). IsAnswered shared old.pass z.0 page None least z.1) (λ i. (back i, told i)) answer

  pub served-read : (old new : ReaderSeen) (read : PageRead) → IsFree shared old.pass → AreRight old.pass old.entries → IsServed page least old new read → IsPageRead shared page least old new (Ok read)
  served-read old new read is right served = record {
    pass = subst (λ (p : Pass). HasRead shared old.pass p) (sym (ap (λ (r : ReaderSeen). r.pass) served.left)) (read-none shared old.pass is);
    read = served-answer old new read is.turn right served;
    late = tt;
    uses = inl served;
  }

  pub checked-read : (old new : ReaderSeen) (read : PageRead) → HasRead shared old.pass new.pass → IsCheck shared page least old new (Current read) → IsPageRead shared page least old new (Ok read)
  checked-read old new read pass is = elim is.1 [
    | inl checked ↦ record {
      pass = pass;
      read = present-answer shared old.pass new.pass page None least read pass.seen is.0 checked.right;
      late = tt;
      uses = inr (inl checked);
    }
    | inr drafted ↦ record {
      pass = pass;
      read = present-answer shared old.pass new.pass page None least read pass.seen is.0 drafted.right;
      late = tt;
      uses = inr (inr drafted);
    }
  ]

  pub refused-read : (old new : ReaderSeen) (refusal : ReadRefusal) → HasRead shared old.pass new.pass → IsLate least new.pass refusal → OnlyKeeps old.entries new.entries → IsPageRead shared page least old new (Err refusal)
  refused-read old new refusal pass late keeps = record {
    pass = pass;
    read = tt;
    late = late;
    uses = keeps;
  }

  -- a draft behind a look that left what is kept as it was
  pub anew-read : (old mid new : ReaderSeen) (result : Result PageRead ReadRefusal) → HasRead shared old.pass mid.pass → mid.entries ≡ old.entries → least ≤ length mid.pass.seen → HasRead shared mid.pass new.pass
      → IsDraftedAnew shared page mid new result → IsPageRead shared page least old new result
  anew-read old mid new (Ok read) first same reached later is =
      let both = read-both shared old.pass mid.pass new.pass first later in
      let longer = prefix_length mid.pass.seen new.pass.seen later.seen in
      record {
        pass = both;
        read = present-answer shared old.pass new.pass page None least read both.seen (omega (arith, longer, reached)) is.right;
        late = tt;
        uses = inr (inr (record { right = is.right; left = adds-later old.entries mid.entries new.entries (fresh_entry read) (keeps-same old.entries mid.entries same) is.left }));
      }
  anew-read old mid new (Err why) first same reached later is =
      let both = read-both shared old.pass mid.pass new.pass first later in
      refused-read old new why both (subst (IsLate least new.pass) (sym is.0) tt) (keeps-same old.entries new.entries (is.1 ∙ same))

  -- the page's entry goes before all others first
  front-kept : (old new : ReaderSeen) (result : Result PageRead ReadRefusal) → KeepsCount shared page least (record old { entries = to_front page old.entries }) new result → KeepsCount shared page least old new result
  front-kept old new (Ok read) kept = elim kept [
    | inl served ↦ inl (record {
      entry = served.entry;
      found = sym (front-found page old.entries) ∙ served.found;
      few = served.few;
      reached = served.reached;
      fresh = served.fresh;
      answered = served.answered;
      left = served.left ∙ ap (λ (l : List Kept). let r : ReaderSeen = record old { entries = l } in r) (marked-front page served.entry.point (served.entry.uses + 1) old.entries);
    })
    | inr looked ↦ elim looked [
      | inl checked ↦ inr (inl (record {
        entry = checked.entry;
        found = sym (front-found page old.entries) ∙ checked.found;
        answered = checked.answered;
        right = checked.right;
        left = checked.left ∙ marked-front page (length new.pass.seen) 0 old.entries;
      }))
      | inr drafted ↦ inr (inr (record {
        right = drafted.right;
        left = adds-later old.entries (to_front page old.entries) new.entries (fresh_entry read) (front-among page old.entries) drafted.left;
      }))
    ]
  ]
  front-kept old new (Err why) kept = λ k among. front-among page old.entries k (kept k among)

  front-whole : (old new : ReaderSeen) (result : Result PageRead ReadRefusal) → IsPageRead shared page least (record old { entries = to_front page old.entries }) new result → IsPageRead shared page least old new result
  front-whole old new result read = record {
    pass = read.pass;
    read = read.read;
    late = read.late;
    uses = front-kept old new result read.uses;
  }

  pub front-read : (old mid new : ReaderSeen) (result : Result PageRead ReadRefusal) → mid ≡ record old { entries = to_front page old.entries } → IsPageRead shared page least mid new result → IsPageRead shared page least old new result
  front-read old mid new result is read = front-whole old new result (subst (λ (r : ReaderSeen). IsPageRead shared page least r new result) is read)

-- ---- a reader by its parts

abbrev pub shown : Pass → CacheShown → ReaderSeen
shown pass cache = record { pass = pass; most = cache.most; entries = cache.entries }

pub right-none : (pass : Pass) (entries : List Kept) → entries ≡ [] → AreRight pass entries
right-none pass entries none = subst (λ (l : List Kept). AreRight pass l) (sym none) (λ start kept is among. absurd (omega (arith, among.1)))

module _ (pass : Pass) (cache : CacheShown) (now : ReaderSeen) (view : shown pass cache ≡ now) where
  pub turn-inside : (shared : Begun Start) → IsOf shared now.pass → IsOf shared pass
  turn-inside shared of = subst (λ (r : ReaderSeen). IsOf shared r.pass) (sym view) of

  -- the wiki tells as it is given back
  pub knows-left : (shared : Begun Start) → IsOf shared now.pass → (new : Pass) (start : Start) (journal : List Event) (own : List ℕ) (state : State) (idle : Bool) → new ≡ record pass { seen = journal; own = own; held = None }
      → start ≡ shared.start → IsRun start journal state → idle ≡ is_idle state → KnowsIdle new idle
  knows-left shared of new start journal own state idle back same run is =
      let inside = turn-inside shared of in
      knows-idle shared new state idle (ap (λ (p : Pass). p.turn) back ∙ inside.0, ap (λ (p : Pass). p.start) back ∙ inside.1)
      (subst (λ (z : Start × List Event). IsRun z.0 z.1 state) (λ i. (same i, sym (ap (λ (p : Pass). p.seen) back) i)) run) is

  pub free-inside : now.pass.held ≡ None → pass.held ≡ None
  free-inside free = ap (λ (r : ReaderSeen). r.pass.held) view ∙ free

  pub found-inside : (page : PageTitle) (kept : Kept) → entry_of page now.entries ≡ Some kept → entry_of page cache.entries ≡ Some kept
  found-inside page kept found = ap (λ (r : ReaderSeen). entry_of page r.entries) view ∙ found

  pub entries-shown : (new : CacheShown) (f : List Kept → List Kept) → new ≡ record cache { entries = f cache.entries } → shown pass new ≡ record now { entries = f now.entries }
  entries-shown new f is = ap (shown pass) is ∙ ap (λ (r : ReaderSeen). let s : ReaderSeen = record r { entries = f r.entries } in s) view

  pub pass-shown : (new : Pass) (f : Pass → Pass) → new ≡ f pass → shown new cache ≡ record now { pass = f now.pass }
  pass-shown new f is = ap (λ (p : Pass). shown p cache) is ∙ ap (λ (r : ReaderSeen). let s : ReaderSeen = record r { pass = f r.pass } in s) view

  pub entries-kept : cache.entries ≡ now.entries
  entries-kept = ap (λ (r : ReaderSeen). r.entries) view

  pub right-inside : (read : PageRead) → ((start : Start) → now.pass.start ≡ Some start → IsReadAt (seen_by start now.pass) (reading_of read))
      → (start : Start) → pass.start ≡ Some start → IsReadAt (seen_by start pass) (reading_of read)
  right-inside read right = subst (λ (r : ReaderSeen). (start : Start) → r.pass.start ≡ Some start → IsReadAt (seen_by start r.pass) (reading_of read)) (sym view) right

  module _ (right : AreRight pass cache.entries) where
    pub facts-shown : AreRight now.pass now.entries
    facts-shown = subst (λ (r : ReaderSeen). AreRight r.pass r.entries) view right

    -- entries that are kept behind a read, and behind steps of a worker
    pub right-behind : (shared : Begun Start) (new : Pass) → IsOf shared now.pass → HasRead shared pass new → AreRight new cache.entries
    right-behind shared new of read = right-read shared pass new cache.entries (turn-inside shared of) read right

    pub right-steps : (shared : Begun Start) (new : Pass) → IsOf shared now.pass → HasWorked shared pass new → AreRight new cache.entries
    right-steps shared new of worked = right-worked shared pass new cache.entries (turn-inside shared of) worked right

    -- those of which one is served once more
    pub right-served : (page : PageTitle) (kept : Kept) → entry_of page now.entries ≡ Some kept → kept.uses < max_uses → (new : CacheShown) → new ≡ record cache { entries = marked page kept.point (kept.uses + 1) cache.entries } → AreRight pass new.entries
    right-served page kept found few new is = subst (λ (l : List Kept). AreRight pass l) (sym (ap (λ (c : CacheShown). c.entries) is)) (right-used page cache.entries kept (found-inside page kept found) pass few right)

    -- those of which one goes before all others
    pub right-found : (page : PageTitle) (new : CacheShown) → new ≡ record cache { entries = to_front page cache.entries } → AreRight pass new.entries
    right-found page new is = subst (λ (l : List Kept). AreRight pass l) (sym (ap (λ (c : CacheShown). c.entries) is)) (right-front pass page cache.entries right)

    module _ (shared : Begun Start) (of : IsOf shared now.pass) (page : PageTitle) (kept : Kept) (found : entry_of page now.entries ≡ Some kept)
        (new : Pass) (state : State) (looked : HasLooked shared pass new state) (point : ℕ) (at : point ≡ length new.seen)
        (seen : IsSeen kept.draft.reads) (none : first_stale (world_of state) kept.draft.reads ≡ None) (after : CacheShown) (marks : after ≡ record cache { entries = marked page point 0 cache.entries }) where
      marks-are : after.entries ≡ marked page (length new.seen) 0 cache.entries
      marks-are = ap (λ (c : CacheShown). c.entries) marks ∙ ap (λ (p : ℕ). marked page p 0 cache.entries) at

      pub right-marked : AreRight new after.entries
      right-marked = subst (λ (l : List Kept). AreRight new l) (sym marks-are)
          (right-checked page cache.entries kept (found-inside page kept found) shared pass new state (turn-inside shared of) looked right seen.formed none)

      pub current-told : (least : ℕ) → least ≤ point → (read : PageRead) → read ≡ answer_of_kept kept point → IsCheck shared page least now (shown new after) (Current read)
      current-told least reached read is =
          let answered = is ∙ ap (answer_of_kept kept) at in (
            omega (arith, at, reached),
            inl (record {
              entry = kept;
              found = found;
              answered = answered;
              right = subst (IsPresentRead shared new page None) (sym answered)
                  (checked-answer page cache.entries kept (found-inside page kept found) shared pass new state (turn-inside shared of) looked right seen.formed none);
              left = marks-are ∙ ap (λ (r : ReaderSeen). marked page (length new.seen) 0 r.entries) view;
            }),
          )

-- what the wiki kept is answered, and kept by the reader too
module _ (pass : Pass) (cache : CacheShown) (now : ReaderSeen) (view : shown pass cache ≡ now) (shared : Begun Start) (page : PageTitle) (mid : Pass) (point : ℕ) (at : point ≡ length mid.seen)
    (least : ℕ) (reached : least ≤ point) (kept : Kept) (is : IsPresentRead shared mid page None (kept_read kept)) where
  pub taken-told : (new : ReaderSeen) (read : PageRead) → read ≡ kept_read kept → new.pass ≡ mid → KeepsOrAdds cache.entries new.entries (fresh_entry (kept_read kept)) → IsCheck shared page least now new (Current read)
  taken-told new read told same left = (
    (let p = ap (λ (s : Pass). length s.seen) same in omega (arith, at, reached, p)),
    inr (record {
      right = (let back = sym same in let t = sym told in subst (λ (z : Pass × PageRead). IsPresentRead shared z.0 page None z.1) (λ i. (back i, t i)) is);
      left = subst (λ (z : List Kept × PageRead). KeepsOrAdds z.0 new.entries (fresh_entry z.1)) (let e = entries-kept pass cache now view in let t = sym told in λ i. (e i, t i)) left;
    }),
  )

-- ---- the wiki is taken and given back

pub right-entered : (pass new : Pass) (held : Option (List Event)) (entries : List Kept) → new ≡ record pass { held = held } → AreRight pass entries → AreRight new entries
right-entered pass new held entries is right = subst (λ (p : Pass). AreRight p entries) (sym is) right

pub right-left : (pass new : Pass) (seen : List Event) (own : List ℕ) (entries : List Kept) → new ≡ record pass { seen = seen; own = own; held = None } → IsPrefix pass.seen new.seen → AreRight pass entries → AreRight new entries
right-left pass new seen own entries is begins right = right-later pass new entries begins (ap (λ (p : Pass). p.start) is) right

-- ---- an entry that goes before all others

pub front-entry : (page : PageTitle) (cache new : CacheShown) (kept : Kept) → new ≡ record cache { entries = to_front page cache.entries } → entry_of page cache.entries ≡ Some kept → entry_of page new.entries ≡ Some kept
front-entry page cache new kept is found = ap (λ (c : CacheShown). entry_of page c.entries) is ∙ (front-found page cache.entries ∙ found)

-- ---- an answer that is kept

-- what is kept of an answer whose draft is shared
abbrev pub entry_with : DraftShown → PageRead → Kept
entry_with draft read = record { draft = draft; point = read.point; uses = 0; id = read.id }

pub entry-fresh : (draft : DraftShown) (read : PageRead) → draft ≡ read.draft → entry_with draft read ≡ fresh_entry read
entry-fresh draft read same = ap (λ (d : DraftShown). entry_with d read) same

module _ {T E : Type 0} (result : Result T E) (pass : Pass) (cache new : CacheShown) (read : PageRead) (kept : Kept) (is : kept ≡ fresh_entry read)
    (put : OnOk result (new ≡ record cache { entries = kept_with cache.most kept cache.entries })) (same : OnErr result (new ≡ cache)) where
  put-adds : (r : Result T E) → OnOk r (new ≡ record cache { entries = kept_with cache.most kept cache.entries }) → OnErr r (new ≡ cache)
      → (new.entries ≡ cache.entries) ⊎ (new.entries ≡ kept_with cache.most (fresh_entry read) cache.entries)
  put-adds (Ok t) done none = inr (ap (λ (c : CacheShown). c.entries) done ∙ ap (λ (k : Kept). kept_with cache.most k cache.entries) is)
  put-adds (Err e) none done = inl (ap (λ (c : CacheShown). c.entries) done)

  pub kept-right : AreRight pass cache.entries → ((start : Start) → pass.start ≡ Some start → IsReadAt (seen_by start pass) (reading_of read)) → read.draft.given ≡ None → AreRight pass new.entries
  kept-right right now own = elim (put-adds result put same) [
    | inl as_before ↦ subst (λ (l : List Kept). AreRight pass l) (sym as_before) right
    | inr added ↦ subst (λ (l : List Kept). AreRight pass l) (sym added) (right-put pass cache.most read cache.entries right now own)
  ]

  pub kept-adds : KeepsOrAdds cache.entries new.entries (fresh_entry read)
  kept-adds = λ k among. elim (put-adds result put same) [
    | inl as_before ↦ inl (subst (λ (l : List Kept). Contains l k) as_before among)
    | inr added ↦ put-among cache.most (fresh_entry read) cache.entries k (subst (λ (l : List Kept). Contains l k) added among)
  ]
