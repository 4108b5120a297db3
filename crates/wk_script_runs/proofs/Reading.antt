-- How far a script's run has come between two lines.
use Rattle.std.proofs.Common.{◌≡◌, ◌≢◌, ℕ, ◌+◌, ◌^◌, ◌<◌, ◌≤◌, List, [], ◌++◌, length, true, false, refl, sym, ◌∙◌, ap, subst, append_assoc, length-append, arith, take_all}
use Rattle.std.proofs.KnownBytes.{Consumes-nil, Consumes-trans}
use Rattle.std.specs.Io.KnownBytes.{Appends, Consumes}
use Rattle.std.specs.Prelude.{Option}
use Rattle.wk_base.specs.Writing.{AppendsPrefix}
use Rattle.wk_bytes.specs.LineCutter.{lines_to_come}
use Rattle.wk_text_rules.specs.Lines.{lines}
use Rattle.wk_table_rules.specs.Rows.{StoreTables}
use Rattle.wk_lines.specs.Reading.{LeavesNoLine, Reading, Reads, ReadsToEnd, StopsReading, nothing_read}
use Rattle.wk_lines.specs.Stop.{IsWriting}
use Rattle.wk_lines.specs.declared.stop.Stop.{Stop}
use Rattle.wk_lines.specs.declared.stop.Stop.TheVariants.{Memory, ReadFault, WriteFault, Bound}
use Rattle.wk_core.specs.Seen.{WikiSeen}
use Rattle.wk_core.specs.declared.outcomes.LoadCause.{LoadCause}
use Rattle.wk_script_rules.specs.WikiScripts.{TicketDraft}
use Rattle.wk_script_rules.specs.Runs.{max_line, replies_text}
use Rattle.wk_script_steps.specs.Reopened.{IsLost}
use Rattle.wk_script_steps.specs.Seen.{Holds}
use Rattle.wk_script_runs.specs.Outside.{Outside}
use Rattle.wk_script_runs.specs.Reads.{AreWholeLines, IsFew}
use Rattle.wk_script_runs.specs.Served.{Writes, WritesInPart}
use Rattle.wk_script_runs.specs.Serving.{WritesFirst}
use Rattle.wk_script_runs.specs.Through.{IsOfInput, IsPartThrough, IsThrough, LosesStore, StopsWithin}
use Rattle.wk_script_runs.proofs.Serving.{nothing-first, nothing-written, part-join, writes-join}

-- What was read, what was answered, and the lines that are still to come, whatever is read yet. No call has failed so far.
pub record HasRead {K : Type 0} (told : K → Option StoreTables) (faults : K → ℕ) (old wiki : WikiSeen K) (drafts : List TicketDraft)
    (before now : Outside) (points : List ℕ) (r : Reading) (reads now_reads writes now_writes : ℕ) : Type 0 where
  pub read : List ℕ
  pub consumed : Consumes before.rest now.rest read
  pub counted : length read ≡ r.total
  pub most : r.cutter.most ≡ max_line
  pub done : List (Option (List ℕ))
  pub come : (more : List ℕ) → lines max_line (read ++ more) ≡ done ++ lines_to_come r.cutter more
  pub written : Writes told faults old wiki [] drafts done before.moments now.moments before.taken now.taken [] points
  pub reads_same : now_reads ≡ reads
  pub writes_same : now_writes ≡ writes

total-on : (read more : List ℕ) (a b : ℕ) → length read ≡ a → b ≡ a + length more → length (read ++ more) ≡ b
total-on read more a b first second = omega (arith, length-append read more, first, second)

few-on : (read more : List ℕ) (a b : ℕ) → length read ≡ a → b ≡ a + length more → b < 2 ^ 40 + 2 ^ 13 → IsFew (read ++ more)
few-on read more a b first second few = omega (arith, length-append read more, first, second, few)

-- so many bytes were read
long-enough : (read more : List ℕ) (a b : ℕ) → length read ≡ a → b ≡ a + length more → 2 ^ 40 ≤ b → 2 ^ 40 ≤ length (read ++ more)
long-enough read more a b first second enough = omega (arith, length-append read more, first, second, enough)

-- the lines that are done begin every list of lines that begins with all lines that are done or were given
begins-all : (done first rest given : List (Option (List ℕ))) (all more : List (Option (List ℕ)))
    → all ≡ done ++ (given ++ more) → given ≡ first ++ rest → all ≡ (done ++ first) ++ (rest ++ more)
begins-all done first rest given all more is split =
    is ∙ ap (λ l. done ++ (l ++ more)) split ∙ ap (λ l. done ++ l) (append_assoc first rest more) ∙ sym (append_assoc done first (rest ++ more))

-- all of a text is a prefix of it
whole-prefix : (taken more : Option (List ℕ)) (text : List ℕ) → Appends taken more text → AppendsPrefix taken more text
whole-prefix taken more text all = (length text, omega arith, subst (Appends taken more) (sym (take_all (length text) text (omega arith))) all)

module _ {K : Type 0} (told : K → Option StoreTables) (faults : K → ℕ) (old wiki : WikiSeen K) (drafts : List TicketDraft) (before now : Outside) (points : List ℕ) where
  -- the lines so far, where nothing more was done
  so-far : (done : List (Option (List ℕ))) → Writes told faults old wiki [] drafts done before.moments now.moments before.taken now.taken [] points
      → WritesInPart told faults old wiki [] drafts done before.moments now.moments before.taken now.taken [] points
  so-far done all = record {
    replies = all.replies;
    served = all.served;
    written = whole-prefix before.taken now.taken (replies_text all.replies) all.written;
    points_are = all.points_are;
  }

  -- lines up to the last newline
  all-whole : (r q : Reading) (a b x y : ℕ) (h : HasRead told faults old wiki drafts before now points r a b x y) (more : List ℕ) → LeavesNoLine r q more
      → AreWholeLines (h.read ++ more) h.done
  all-whole r q a b x y h more leaves = record {
    rest = q.cutter.rest;
    no_newline = leaves.begun;
    split = λ later.
        ap (lines max_line) (append_assoc h.read more later) ∙ h.come (more ++ later)
        ∙ ap (λ l. h.done ++ l) (leaves.come later)
        ∙ ap (λ w. h.done ++ (w ++ lines q.cutter.most (q.cutter.rest ++ later))) leaves.none_whole
        ∙ ap (λ m. h.done ++ lines m (q.cutter.rest ++ later)) (leaves.most ∙ h.most);
  }

  -- the reading stopped
  pub cut-between : (rest : Option (List ℕ)) (r q : Reading) (a b x y : ℕ) (stop : Stop) → HasRead told faults old wiki drafts before now points r a b x y
      → StopsReading r q now.rest rest stop → q.total < 2 ^ 40 + 2 ^ 13
      → StopsWithin told faults old wiki drafts before (record { rest = rest; moments = now.moments; taken = now.taken }) points stop
  unfolding so-far
  cut-between rest r q a b x y stop h read few = record {
    read = h.read ++ read.read;
    part = record {
      done = h.done;
      first = record {
        consumed = Consumes-trans before.rest now.rest rest h.read read.read h.consumed read.consumed;
        few = few-on h.read read.read r.total q.total h.counted read.counted few;
        ended = false;
        at_end = λ is. absurd (cc is);
        whole = λ more. (
          lines_to_come r.cutter (read.read ++ more),
          ap (lines max_line) (append_assoc h.read read.read more) ∙ h.come (read.read ++ more),
        );
      };
      part = so-far h.done h.written;
      all = λ of_input. (all-whole r q a b x y h read.read (read.all_given (other stop of_input)), h.written.written);
    };
    bound = λ is. long-enough h.read read.read r.total q.total h.counted read.counted (read.bound is);
  }
    where
      other : (s : Stop) → IsOfInput s → s ≢ Memory
      other Memory is same = is
      other ReadFault is same = absurd (cc same)
      other WriteFault is same = is
      other Bound is same = absurd (cc same)

  -- no stop of the writing is one of the reading
  not-of-input : (stop : Stop) (P : Type 0) → IsWriting stop → IsOfInput stop → P
  not-of-input Memory P writing of_input = absurd of_input
  not-of-input ReadFault P writing of_input = absurd writing
  not-of-input WriteFault P writing of_input = absurd of_input
  not-of-input Bound P writing of_input = absurd writing

  not-the-bound : (stop : Stop) (P : Type 0) → IsWriting stop → stop ≡ Bound → P
  not-the-bound Memory P writing is = absurd (cc is)
  not-the-bound ReadFault P writing is = absurd writing
  not-the-bound WriteFault P writing is = absurd (cc is)
  not-the-bound Bound P writing is = absurd writing

  module _ (new : WikiSeen K) (after : List TicketDraft) (rest moments taken : Option (List ℕ)) (last_points : List ℕ) where
    -- a line was answered in part, of whose reply no more is told
    part-within : (r q : Reading) (a b x y : ℕ) (line : List (Option (List ℕ))) (of_input : Type 0) (h : HasRead told faults old wiki drafts before now points r a b x y)
        → (read : Reads r q now.rest rest line) → q.total < 2 ^ 40 + 2 ^ 13
        → (first : WritesFirst told faults wiki new drafts after line now.moments moments now.taken taken points last_points) → (of_input → ⊥)
        → IsPartThrough told faults old new after before (record { rest = rest; moments = moments; taken = taken }) last_points (h.read ++ read.read) of_input
    part-within r q a b x y line of_input h read few first never = record {
      done = h.done ++ first.done;
      first = record {
        consumed = Consumes-trans before.rest now.rest rest h.read read.read h.consumed read.consumed;
        few = few-on h.read read.read r.total q.total h.counted read.counted few;
        ended = false;
        at_end = λ is. absurd (cc is);
        whole = λ more. (
          first.begins.0 ++ lines_to_come q.cutter more,
          begins-all h.done first.done first.begins.0 line _ (lines_to_come q.cutter more)
              (ap (lines max_line) (append_assoc h.read read.read more) ∙ h.come (read.read ++ more) ∙ ap (λ l. h.done ++ l) (read.come more))
              first.begins.1,
        );
      };
      part = part-join told faults old wiki new [] drafts after h.done first.done before.moments now.moments moments before.taken now.taken taken [] points last_points
          h.written first.part;
      all = λ is. absurd (never is);
    }

    -- the last line was answered in part
    part-last : (r q : Reading) (a b x y : ℕ) (line : List (Option (List ℕ))) (of_input : Type 0) (h : HasRead told faults old wiki drafts before now points r a b x y)
        → (read : ReadsToEnd r q now.rest rest line) → q.total < 2 ^ 40 + 2 ^ 13
        → (first : WritesFirst told faults wiki new drafts after line now.moments moments now.taken taken points last_points) → (of_input → ⊥)
        → IsPartThrough told faults old new after before (record { rest = rest; moments = moments; taken = taken }) last_points (h.read ++ read.read) of_input
    part-last r q a b x y line of_input h read few first never = record {
      done = h.done ++ first.done;
      first = record {
        consumed = Consumes-trans before.rest now.rest rest h.read read.read h.consumed read.consumed;
        few = few-on h.read read.read r.total q.total h.counted read.counted few;
        ended = true;
        at_end = λ _. read.ended;
        whole = (
          first.begins.0,
          h.come read.read ∙ ap (λ l. h.done ++ l) (sym read.come ∙ first.begins.1) ∙ sym (append_assoc h.done first.done first.begins.0),
        );
      };
      part = part-join told faults old wiki new [] drafts after h.done first.done before.moments now.moments moments before.taken now.taken taken [] points last_points
          h.written first.part;
      all = λ is. absurd (never is);
    }

    pub cut-within : (r q : Reading) (a b x y : ℕ) (line : List (Option (List ℕ))) (stop : Stop) → HasRead told faults old wiki drafts before now points r a b x y
        → Reads r q now.rest rest line → q.total < 2 ^ 40 + 2 ^ 13
        → WritesFirst told faults wiki new drafts after line now.moments moments now.taken taken points last_points → IsWriting stop
        → StopsWithin told faults old new after before (record { rest = rest; moments = moments; taken = taken }) last_points stop
    cut-within r q a b x y line stop h read few first writing = record {
      read = h.read ++ read.read;
      part = part-within r q a b x y line (IsOfInput stop) h read few first (λ is. not-of-input stop ⊥ writing is);
      bound = λ is. not-the-bound stop _ writing is;
    }

    pub cut-last : (r q : Reading) (a b x y : ℕ) (line : List (Option (List ℕ))) (stop : Stop) → HasRead told faults old wiki drafts before now points r a b x y
        → ReadsToEnd r q now.rest rest line → q.total < 2 ^ 40 + 2 ^ 13
        → WritesFirst told faults wiki new drafts after line now.moments moments now.taken taken points last_points → IsWriting stop
        → StopsWithin told faults old new after before (record { rest = rest; moments = moments; taken = taken }) last_points stop
    cut-last r q a b x y line stop h read few first writing = record {
      read = h.read ++ read.read;
      part = part-last r q a b x y line (IsOfInput stop) h read few first (λ is. not-of-input stop ⊥ writing is);
      bound = λ is. not-the-bound stop _ writing is;
    }

    -- a line was read, and is answered
    pub goes-on : (r q : Reading) (a b b' x y y' : ℕ) (line : List (Option (List ℕ))) → HasRead told faults old wiki drafts before now points r a b x y
        → Reads r q now.rest rest line → Writes told faults wiki new drafts after line now.moments moments now.taken taken points last_points → b' ≡ b → y' ≡ y
        → HasRead told faults old new after before (record { rest = rest; moments = moments; taken = taken }) last_points q a b' x y'
    goes-on r q a b b' x y y' line h read all reads writes = record {
      read = h.read ++ read.read;
      consumed = Consumes-trans before.rest now.rest rest h.read read.read h.consumed read.consumed;
      counted = total-on h.read read.read r.total q.total h.counted read.counted;
      most = read.most ∙ h.most;
      done = h.done ++ line;
      come = λ more.
          ap (lines max_line) (append_assoc h.read read.read more) ∙ h.come (read.read ++ more) ∙ ap (λ l. h.done ++ l) (read.come more)
          ∙ sym (append_assoc h.done line (lines_to_come q.cutter more));
      written = writes-join told faults old wiki new [] drafts after h.done line before.moments now.moments moments before.taken now.taken taken [] points last_points
          h.written all;
      reads_same = reads ∙ h.reads_same;
      writes_same = writes ∙ h.writes_same;
    }

    -- the input is at its end, and its last line is answered
    pub whole-through : (r q : Reading) (a b x y : ℕ) (line : List (Option (List ℕ))) → HasRead told faults old wiki drafts before now points r a b x y
        → ReadsToEnd r q now.rest rest line → q.total < 2 ^ 40 + 2 ^ 13
        → Writes told faults wiki new drafts after line now.moments moments now.taken taken points last_points
        → IsThrough told faults old new after before (record { rest = rest; moments = moments; taken = taken }) last_points
    whole-through r q a b x y line h read few all = record {
      read = h.read ++ read.read;
      consumed = Consumes-trans before.rest now.rest rest h.read read.read h.consumed read.consumed;
      few = few-on h.read read.read r.total q.total h.counted read.counted few;
      ended = read.ended;
      writes = subst (λ ls. Writes told faults old new [] after ls before.moments moments before.taken taken [] last_points)
          (ap (λ l. h.done ++ l) read.come ∙ sym (h.come read.read))
          (writes-join told faults old wiki new [] drafts after h.done line before.moments now.moments moments before.taken now.taken taken [] points last_points
          h.written all);
    }

  -- ---- a restart that didn't open the store

  module _ (why : LoadCause) (keeper : K) (lost : IsLost told faults wiki drafts why keeper) (rest moments taken : Option (List ℕ)) (last_points : List ℕ)
      (no_moment : now.moments ≡ moments) (nothing : now.taken ≡ taken) (no_point : last_points ≡ points) where
    none-first : (line : List (Option (List ℕ))) → Holds wiki.state drafts → WritesFirst told faults wiki wiki drafts drafts line now.moments moments now.taken taken points last_points
    none-first line holds =
        subst (λ m. WritesFirst told faults wiki wiki drafts drafts line now.moments m now.taken taken points last_points) no_moment
        (subst (λ t. WritesFirst told faults wiki wiki drafts drafts line now.moments now.moments now.taken t points last_points) nothing
        (subst (λ ps. WritesFirst told faults wiki wiki drafts drafts line now.moments now.moments now.taken now.taken points ps) (sym no_point)
        (nothing-first told faults wiki drafts line now.moments now.taken points holds)))

    pub lost-within : (r q : Reading) (a b x y : ℕ) (line : List (Option (List ℕ))) → HasRead told faults old wiki drafts before now points r a b x y
        → Reads r q now.rest rest line → q.total < 2 ^ 40 + 2 ^ 13
        → LosesStore told faults old keeper before (record { rest = rest; moments = moments; taken = taken }) last_points why
    lost-within r q a b x y line h read few = record {
      read = h.read ++ read.read;
      wiki = wiki;
      drafts = drafts;
      part = part-within wiki drafts rest moments taken last_points r q a b x y line ⊥ h read few (none-first line h.written.served.holds) (λ never. never);
      lost = lost;
    }

    pub lost-last : (r q : Reading) (a b x y : ℕ) (line : List (Option (List ℕ))) → HasRead told faults old wiki drafts before now points r a b x y
        → ReadsToEnd r q now.rest rest line → q.total < 2 ^ 40 + 2 ^ 13
        → LosesStore told faults old keeper before (record { rest = rest; moments = moments; taken = taken }) last_points why
    lost-last r q a b x y line h read few = record {
      read = h.read ++ read.read;
      wiki = wiki;
      drafts = drafts;
      part = part-last wiki drafts rest moments taken last_points r q a b x y line ⊥ h read few (none-first line h.written.served.holds) (λ never. never);
      lost = lost;
    }

-- before the first read
pub none-read : {K : Type 0} (told : K → Option StoreTables) (faults : K → ℕ) (wiki : WikiSeen K) (before : Outside) (reads writes : ℕ) (points : List ℕ) (drafts : List TicketDraft) (r : Reading)
    → Holds wiki.state [] → drafts ≡ [] → points ≡ [] → r ≡ nothing_read max_line → HasRead told faults wiki wiki drafts before before points r reads reads writes writes
none-read told faults wiki before reads writes points drafts r holds no_drafts none fresh = record {
  read = [];
  consumed = Consumes-nil before.rest;
  counted = sym (ap (λ (x : Reading). x.total) fresh);
  most = ap (λ (x : Reading). x.cutter.most) fresh;
  done = [];
  come = λ more. ap (λ (x : Reading). lines_to_come x.cutter more) (sym fresh);
  written =
      subst (λ ds. Writes told faults wiki wiki [] ds [] before.moments before.moments before.taken before.taken [] points) (sym no_drafts)
      (subst (λ ps. Writes told faults wiki wiki [] [] [] before.moments before.moments before.taken before.taken [] ps) (sym none)
      (nothing-written told faults wiki [] before.moments before.taken [] holds));
  reads_same = refl;
  writes_same = refl;
}
