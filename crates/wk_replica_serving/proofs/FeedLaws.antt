-- What the lines of a feed tell that are taken one after the other.
use Rattle.std.proofs.Common.{◌≡◌, ℕ, ◌+◌, ◌<◌, ◌≤◌, false, List, [], ◌∷◌, ◌++◌, length, map, Option, None, Some, refl, sym, ap, ◌∙◌, subst, arith, append_assoc, length-append, inl, inr}
use Rattle.std.proofs.KnownBytes.{Consumes-trans, Consumes-nil}
use Rattle.std.proofs.lemmas.List.{map-append}
use Rattle.std.specs.Prelude.{◌^◌, IfErr, IfOk, IsUtf8, OnOk, Result, Ok, Err, option_map}
use Rattle.std.specs.Str.Lines.{strip_carriage_return}
use Rattle.wk_text_rules.specs.Lines.{lines, within}
use Rattle.wk_bytes.proofs.LineLaws.{lines-none, lines-whole}
use Rattle.wk_bytes.specs.LineCutter.{lines_to_come}
use Rattle.wk_lines.specs.Reading.{Reading, Reads, ReadsToEnd, StopsReading, lines_left, nothing_read}
use Rattle.wk_lines.specs.declared.stop.Stop.{Stop}
use Rattle.wk_lines.specs.declared.stop.Stop.TheVariants as stop
use Rattle.wk_feed_rules.specs.Lines.{TableRow, lines_in}
use Rattle.wk_feed_rules.specs.Taking.{FeedSoFar, bad_line, fed, loading, running, taken, told}
use Rattle.wk_replica.proofs.FedFacts.{line-bad, line-more}
use Rattle.wk_replica.specs.Replicas.{IsNew, ReplicaSeen, lines_taken, so_far}
use Rattle.wk_replica.specs.declared.refusal.TakeRefusal.{TakeRefusal}
use Rattle.wk_replica.specs.declared.refusal.TakeRefusal.TheVariants.{BadLine, Memory}
use Rattle.wk_replica_serving.specs.Feeds.{EndsBefore, HasBadLine, HasReadMuch, HasTakenFeed, TellsAll, longest_line}
use Rattle.wk_replica_serving.specs.Reads.{GivesLine, IsEarly, IsLine, IsUnread, TakesEarly, end_of_refusal, end_of_stop}
use Rattle.wk_replica_serving.specs.declared.ends.FeedEnd.{FeedEnd}
use Rattle.wk_replica_serving.specs.declared.ends.FeedEnd.TheVariants as feed_end
use Rattle.wk_replica_serving.proofs.LineLaws.{lines-done, lines-first}

-- ---- the reader

-- no line comes where the reader stopped
pub unread : (old new : Reading) (rest later : Option (List ℕ)) (why : Stop) → StopsReading old new rest later why → IsUnread old new rest later (end_of_stop why)
unread old new rest later stop.Memory stops = tt
unread old new rest later stop.ReadFault stops = tt
unread old new rest later stop.WriteFault stops = tt
unread old new rest later stop.Bound stops = stops

pub fault-of : (why : Stop) → end_of_stop why ≡ feed_end.ReadFault → why ≡ stop.ReadFault
fault-of stop.Memory is = absurd (let e : feed_end.Memory ≡ feed_end.ReadFault = is in cc)
fault-of stop.ReadFault is = refl
fault-of stop.WriteFault is = absurd (let e : feed_end.Memory ≡ feed_end.ReadFault = is in cc)
fault-of stop.Bound is = absurd (let e : feed_end.Bound ≡ feed_end.ReadFault = is in cc)

-- the bytes of the line that was read
pub gives-line : {A E : Type 0} (items : A → List ℕ) (old new : Reading) (rest later : Option (List ℕ)) (given : List (Option (List ℕ))) (result : Result (Option A) E)
    → IfOk result (λ line. IsLine given (option_map items line)) → Reads old new rest later given → lines_left new < lines_left old
    → IfOk result (λ line. GivesLine old new rest later (option_map items line))
gives-line items old new rest later given (Ok (Some line)) is reads less = (subst (λ g. Reads old new rest later g) is reads, less)
gives-line items old new rest later given (Ok None) is reads less = absurd is
gives-line items old new rest later given (Err why) is reads less = tt

pub unread-line : {A : Type 0} (old new : Reading) (rest later : Option (List ℕ)) (result : Result A FeedEnd) → IfErr result (λ why. why ≡ feed_end.Memory)
    → IfErr result (IsUnread old new rest later)
unread-line old new rest later (Ok line) is = tt
unread-line old new rest later (Err why) is = subst (IsUnread old new rest later) (sym is) tt

-- where memory was wanting no read failed
pub unfailed-line : {A : Type 0} (result : Result A FeedEnd) → IfErr result (λ why. why ≡ feed_end.Memory) → result ≡ Err feed_end.ReadFault → ⊥
unfailed-line (Ok line) is fault = absurd (let off : Ok line ≡ Err feed_end.ReadFault = fault in cc)
unfailed-line (Err why) is fault =
    let same : why ≡ feed_end.ReadFault = cc in
    let off : feed_end.Memory ≡ feed_end.ReadFault = sym is ∙ same in
    absurd cc

-- the input isn't at its end where no line comes for another cause
pub not-ended : (old new : Reading) (rest later : Option (List ℕ)) (why : FeedEnd) → IsUnread old new rest later why → why ≡ feed_end.Ended → ⊥
not-ended old new rest later why unread is = subst (IsUnread old new rest later) is unread

-- the line that is given, however it is passed on
pub line-given : {A : Type 0} (items : A → List ℕ) (old new : Reading) (rest later : Option (List ℕ)) (given : Option A) (line : A) (passed : List ℕ)
    → GivesLine old new rest later (option_map items given) → given ≡ Some line → passed ≡ items line
    → Reads old new rest later (Some passed ∷ []) × (lines_left new < lines_left old)
line-given items old new rest later given line passed gives is same =
    subst (λ l. Reads old new rest later (Some l ∷ []) × (lines_left new < lines_left old)) (sym same)
    (subst (λ g. GivesLine old new rest later (option_map items g)) is gives)

-- what holds anyway
pub on-ok : {A E P : Type 0} (result : Result A E) → P → OnOk result P
on-ok (Ok value) so = so
on-ok (Err why) so = tt

-- ---- lines one after the other

total-on : (a b : ℕ) (one two : List ℕ) → a ≡ length one → b ≡ a + length two → b ≡ length (one ++ two)
total-on a b one two first second = omega (arith, length-append one two, first, second)

module _ (rest before later : Option (List ℕ)) (r q : Reading) (tells : FeedSoFar) (number : ℕ) (h : HasTakenFeed rest before r tells number) where
  -- what comes of all that was read, where a line was read behind the lines that are done
  come-on : (line : List ℕ) (reads : Reads r q before later (Some line ∷ [])) (more : List ℕ)
      → lines longest_line ((h.read ++ reads.read) ++ more) ≡ map Some (h.done ++ line ∷ []) ++ lines_to_come q.cutter more
  come-on line reads more =
      ap (lines longest_line) (append_assoc h.read reads.read more) ∙ h.come (reads.read ++ more)
      ∙ ap (λ l. map Some h.done ++ l) (reads.come more)
      ∙ sym (append_assoc (map Some h.done) (Some line ∷ []) (lines_to_come q.cutter more))
      ∙ ap (λ l. l ++ lines_to_come q.cutter more) (sym (map-append Some h.done (line ∷ [])))

  -- a line that is taken
  pub takes-on : (line : List ℕ) (next : FeedSoFar) (n : ℕ) → Reads r q before later (Some line ∷ []) → taken tells line ≡ Some next → n ≡ number + 1
      → HasTakenFeed rest later q next n
  takes-on line next n reads takes counted = record {
    read = h.read ++ reads.read;
    consumed = Consumes-trans rest before later h.read reads.read h.consumed reads.consumed;
    counted = total-on r.total q.total h.read reads.read h.counted reads.counted;
    most = reads.most ∙ h.most;
    done = h.done ++ line ∷ [];
    come = come-on line reads;
    number_is = omega (arith, counted, h.number_is, length-append h.done (line ∷ []));
    tell = line-more h.done line tells next h.tell takes;
  }

  -- no more is read than a line may have
  few-read : (read : List ℕ) → q.total ≡ r.total + length read → q.total < 2 ^ 40 + 2 ^ 13 → length (h.read ++ read) ≤ longest_line
  few-read read counted few = omega (arith, length-append h.read read, h.counted, counted, few)

  -- a line that is bad
  pub bad-behind : (line : List ℕ) (n : ℕ) → Reads r q before later (Some line ∷ []) → q.total < 2 ^ 40 + 2 ^ 13 → n ≡ number + 1
      → (IsUtf8 line → taken tells line ≡ None) → HasBadLine rest later n
  bad-behind line n reads few counted none =
      let first = lines-first longest_line (h.read ++ reads.read) (h.done ++ line ∷ []) q.cutter.whole q.cutter.rest
      (few-read reads.read reads.counted few)
      (come-on line reads (10 ∷ []) ∙ ap (λ most. map Some (h.done ++ line ∷ []) ++ (q.cutter.whole ++ lines most (q.cutter.rest ++ 10 ∷ []))) (reads.most ∙ h.most)) in
      let are = first.1 ∙ append_assoc h.done (line ∷ []) first.0 in
      record {
        read = h.read ++ reads.read;
        consumed = Consumes-trans rest before later h.read reads.read h.consumed reads.consumed;
        before = h.done;
        line = line;
        behind = first.0;
        are = are;
        number_is = counted ∙ ap (λ n. n + 1) h.number_is;
        so_far = tells;
        tell = h.tell;
        bad = λ text. ap fed are ∙ (line-bad h.done first.0 line tells h.tell (none text) ∙ ap bad_line (sym (counted ∙ ap (λ n. n + 1) h.number_is)));
      }

  -- the input is at its end: the lines that are done are all
  pub all-done : (given : List (Option (List ℕ))) → (ends : ReadsToEnd r q before later given) → q.total < 2 ^ 40 + 2 ^ 13 → lines_in (h.read ++ ends.read) ≡ h.done
  all-done given ends few =
      lines-done longest_line (h.read ++ ends.read) h.done (within r.cutter.most ends.left (strip_carriage_return ends.left))
      (few-read ends.read ends.counted few)
      (ap (lines longest_line) (append_assoc h.read ends.read (10 ∷ [])) ∙ h.come (ends.read ++ 10 ∷ [])
      ∙ ap (λ l. map Some h.done ++ l)
      (ends.joined (10 ∷ []) ∙ lines-whole r.cutter.most ends.left [] ends.unended
      ∙ ap (λ l. within r.cutter.most ends.left (strip_carriage_return ends.left) ∷ l) (lines-none r.cutter.most [] refl)))

  pub tells-all : (given : List (Option (List ℕ))) → ReadsToEnd r q before later given → q.total < 2 ^ 40 + 2 ^ 13 → TellsAll rest later tells
  tells-all given ends few = record {
    read = h.read ++ ends.read;
    consumed = Consumes-trans rest before later h.read ends.read h.consumed ends.consumed;
    tell = ap fed (all-done given ends few) ∙ h.tell;
  }

  -- too much was read
  pub much-read : StopsReading r q before later stop.Bound → HasReadMuch rest later
  much-read stops = record {
    read = h.read ++ stops.read;
    consumed = Consumes-trans rest before later h.read stops.read h.consumed stops.consumed;
    much =
        let bound = stops.bound refl in
        omega (arith, length-append h.read stops.read, h.counted, stops.counted, bound);
  }

-- ---- before the start

-- nothing was taken yet
pub none-taken : (rest : Option (List ℕ)) (r : Reading) (replica : ReplicaSeen) → r ≡ nothing_read longest_line → IsNew replica
    → HasTakenFeed rest rest r (so_far replica) (lines_taken replica)
none-taken rest r replica fresh new =
    let none : so_far replica ≡ loading [] = by-line replica.start.line new.line in
    let zero : lines_taken replica ≡ 0 = by-count replica.start.line new.line in
    record {
      read = [];
      consumed = Consumes-nil rest;
      counted = ap (λ (x : Reading). x.total) fresh;
      most = ap (λ (x : Reading). x.cutter.most) fresh;
      done = [];
      come = λ more. ap (λ (x : Reading). lines_to_come x.cutter more) (sym fresh);
      number_is = zero;
      tell = ap told (sym none);
    }
  where
    by-line : (line : Option ℕ) → line ≡ None
        → (elim line as (λ l. FeedSoFar) [ None ↦ loading replica.rows | Some n ↦ running (record { from = replica.start.wiki.state; events = replica.journal; state = replica.state }) ]) ≡ loading []
    by-line None is = ap loading new.rows
    by-line (Some n) is = absurd (let some : Some n ≡ None = is in cc)

    by-count : (line : Option ℕ) → line ≡ None → (elim line as (λ l. ℕ) [ None ↦ length replica.rows | Some n ↦ n + length replica.journal ]) ≡ 0
    by-count None is = ap (λ (l : List TableRow). length l) new.rows
    by-count (Some n) is = absurd (let some : Some n ≡ None = is in cc)

-- what becomes of the lines where a replica took one
pub took-early : (before later : Option (List ℕ)) (r q : Reading) (old new : ReplicaSeen) (line : List ℕ) (result : Result (Unit {0}) FeedEnd)
    → Reads r q before later (Some line ∷ []) → TakesEarly old line new result
    → OnOk result ((rest : Option (List ℕ)) → HasTakenFeed rest before r (so_far old) (lines_taken old) → HasTakenFeed rest later q (so_far new) (lines_taken new))
took-early before later r q old new line (Ok done) reads takes = λ rest h.
    takes-on rest before later r q (so_far old) (lines_taken old) h line (so_far new) (lines_taken new) reads takes.told takes.goes_on.lines
took-early before later r q old new line (Err why) reads takes = tt

pub going-early : (old new : ReplicaSeen) (line : List ℕ) (result : Result (Unit {0}) FeedEnd) → TakesEarly old line new result → OnOk result (new.stopped ≡ false)
going-early old new line (Ok done) takes = takes.goes_on.going
going-early old new line (Err why) takes = tt

-- or refused it
pub refused-early : (before later : Option (List ℕ)) (r q : Reading) (old new : ReplicaSeen) (line : List ℕ) (result : Result (Unit {0}) FeedEnd)
    → Reads r q before later (Some line ∷ []) → q.total < 2 ^ 40 + 2 ^ 13 → TakesEarly old line new result
    → IfErr result (λ why. (rest : Option (List ℕ)) → HasTakenFeed rest before r (so_far old) (lines_taken old) → EndsBefore rest later why)
refused-early before later r q old new line (Ok done) reads few takes = tt
refused-early before later r q old new line (Err why) reads few (BadLine number, (takes, is)) = λ rest h.
    subst (EndsBefore rest later) (sym is) (inl (bad-behind rest before later r q (so_far old) (lines_taken old) h line number reads few takes.0 takes.1))
refused-early before later r q old new line (Err why) reads few (Memory, (takes, is)) = λ rest h. subst (EndsBefore rest later) (sym is) tt

-- a refusal is no failed read
pub unfailed-early : (old new : ReplicaSeen) (line : List ℕ) (result : Result (Unit {0}) FeedEnd) → TakesEarly old line new result → result ≡ Err feed_end.ReadFault → ⊥
unfailed-early old new line (Ok done) takes fault = absurd (let off : Ok done ≡ Err feed_end.ReadFault = fault in cc)
unfailed-early old new line (Err why) (BadLine number, (takes, is)) fault =
    let same : why ≡ feed_end.ReadFault = cc in
    let off : feed_end.Bad number ≡ feed_end.ReadFault = sym is ∙ same in
    absurd cc
unfailed-early old new line (Err why) (Memory, (takes, is)) fault =
    let same : why ≡ feed_end.ReadFault = cc in
    let off : feed_end.Memory ≡ feed_end.ReadFault = sym is ∙ same in
    absurd cc

-- the input ends before the start
pub ended-early : (rest before later : Option (List ℕ)) (r q : Reading) (replica : ReplicaSeen) (why : FeedEnd) (given : List (Option (List ℕ))) → ReadsToEnd r q before later given
    → q.total < 2 ^ 40 + 2 ^ 13 → replica.start.line ≡ None → IsEarly (lines_taken replica) why
    → HasTakenFeed rest before r (so_far replica) (lines_taken replica) → EndsBefore rest later why
unfolding tells-all
ended-early rest before later r q replica feed_end.Ended given ends few none early h = early
ended-early rest before later r q replica feed_end.ReadFault given ends few none early h = absurd early
ended-early rest before later r q replica feed_end.Bound given ends few none early h = absurd early
ended-early rest before later r q replica feed_end.Memory given ends few none early h = tt
ended-early rest before later r q replica (feed_end.Bad number) given ends few none early h =
    let rows : so_far replica ≡ loading replica.rows = by-line replica.start.line none in
    let all = all-done rest before later r q (so_far replica) (lines_taken replica) h given ends few in
    let tells = tells-all rest before later r q (so_far replica) (lines_taken replica) h given ends few in
    inr (record {
      read = tells.read;
      consumed = tells.consumed;
      ended = ends.ended;
      rows = replica.rows;
      tell = tells.tell ∙ ap told rows;
      number_is = early ∙ ap (λ n. n + 1) (h.number_is ∙ ap (λ (l : List (List ℕ)). length l) (sym all));
    })
  where
    by-line : (line : Option ℕ) → line ≡ None
        → (elim line as (λ l. FeedSoFar) [ None ↦ loading replica.rows | Some n ↦ running (record { from = replica.start.wiki.state; events = replica.journal; state = replica.state }) ]) ≡ loading replica.rows
    by-line None is = refl
    by-line (Some n) is = absurd (let some : Some n ≡ None = is in cc)

pub unread-early : (rest before later : Option (List ℕ)) (r q : Reading) (tells : FeedSoFar) (number : ℕ) (why : FeedEnd) → IsUnread r q before later why
    → HasTakenFeed rest before r tells number → EndsBefore rest later why
unread-early rest before later r q tells number feed_end.Ended none h = none
unread-early rest before later r q tells number (feed_end.Bad n) none h = absurd none
unread-early rest before later r q tells number feed_end.ReadFault none h = tt
unread-early rest before later r q tells number feed_end.Bound none h = much-read rest before later r q tells number h none
unread-early rest before later r q tells number feed_end.Memory none h = tt
