-- One read after others.
use Rattle.std.proofs.Common.{◌≡◌, ℕ, ◌+◌, List, [], ◌++◌, ◌≤◌, ◌↔◌, false, true, length, refl, sym, ◌∙◌, ap, subst, append_assoc, length-append, arith}
use Rattle.std.proofs.KnownBytes.{Consumes-trans}
use Rattle.std.specs.Io.KnownBytes.{Consumes}
use Rattle.std.specs.Prelude.{◌^◌, Bool, Option}
use Rattle.wk_bytes.specs.Line.{line_in}
use Rattle.wk_bytes.specs.LineCutter.{Cutting, HasNoNewline, lines_to_come}
use Rattle.wk_bytes.specs.declared.lines.Line.{Line}
use Rattle.wk_bytes.specs.declared.lines.Line.TheVariants.{More}
use Rattle.wk_text_rules.specs.Lines.{lines}
use Rattle.wk_lines.specs.Reading.{Fills, LeavesNoLine, Reading, Reads, ReadsToEnd, StopsReading, lines_left}
use Rattle.wk_lines.specs.declared.stop.Stop.{Stop}
use Rattle.wk_lines.specs.Stop.{IsReading}
use Rattle.wk_lines.specs.declared.stop.Stop.TheVariants.{Bound}

counted_on : (a b c : ℕ) (read more : List ℕ) → b ≡ a + length read → c ≡ b + length more → c ≡ a + length (read ++ more)
counted_on a b c read more first second = omega (arith, length-append read more, first, second)

reads_on : (a b c : Reading) (x y z : Option (List ℕ)) → Reads a b x y [] → Reads b c y z [] → Reads a c x z []
reads_on a b c x y z first second = record {
  read = first.read ++ second.read;
  most = second.most ∙ first.most;
  consumed = Consumes-trans x y z first.read second.read first.consumed second.consumed;
  counted = counted_on a.total b.total c.total first.read second.read first.counted second.counted;
  come = λ more.
      ap (lines_to_come a.cutter) (append_assoc first.read second.read more) ∙ first.come (second.read ++ more) ∙ second.come more;
}

leaves_on : (a b c : Reading) (read more : List ℕ) → ((later : List ℕ) → lines_to_come a.cutter (read ++ later) ≡ [] ++ lines_to_come b.cutter later)
    → b.cutter.most ≡ a.cutter.most → LeavesNoLine b c more → LeavesNoLine a c (read ++ more)
leaves_on a b c read more first most second = record {
  most = second.most ∙ most;
  come = λ later. ap (lines_to_come a.cutter) (append_assoc read more later) ∙ first (more ++ later) ∙ second.come later;
  none_whole = second.none_whole;
  begun = second.begun;
}

-- nothing was read, and no whole line was there
pub leaves_none : (r : Reading) → r.cutter.whole ≡ [] → HasNoNewline r.cutter.rest → LeavesNoLine r r []
leaves_none r none begun = record { come = λ more. refl; most = refl; none_whole = none; begun = begun }

stops_after : (a b c : Reading) (x y z : Option (List ℕ)) (stop : Stop) → Reads a b x y [] → StopsReading b c y z stop → StopsReading a c x z stop
stops_after a b c x y z stop first second = record {
  read = first.read ++ second.read;
  consumed = Consumes-trans x y z first.read second.read first.consumed second.consumed;
  counted = counted_on a.total b.total c.total first.read second.read first.counted second.counted;
  bound = second.bound;
  is_reading = second.is_reading;
  all_given = λ other. leaves_on a b c first.read second.read first.come first.most (second.all_given other);
}

-- where no line was given, the cutter is as before
none_given : (old new : Cutting) (line : Line) → old ≡ record new { whole = line_in line ++ new.whole } → line ≡ More → old ≡ new
none_given old new line is more = is ∙ ap (λ l. record new { whole = line_in l ++ new.whole }) more

-- a read behind others, after the cutter had no line, gave bytes
pub fills_on : (a : Reading) (k m : Cutting) (t : ℕ) (c : Reading) (x y z : Option (List ℕ)) (line : Line) (ended : Bool) →
    Reads a (record { cutter = k; total = t }) x y [] → k ≡ record m { whole = line_in line ++ m.whole } → line ≡ More →
    Fills (record { cutter = m; total = t }) c y z ended → ended ≡ false →
    Reads a c x z [] × (lines_left c ≤ lines_left (record { cutter = k; total = t }))
fills_on a k m t c x y z line ended reads is more fills goes =
    let same : m ≡ k = sym (none_given k m line is more) in
    let more = subst (λ b. Fills (record { cutter = m; total = t }) c y z b) goes fills in
    let again = subst (λ n. Fills (record { cutter = n; total = t }) c y z false) same more in
    (reads_on a (record { cutter = k; total = t }) c x y z reads again.0, again.2)

-- a read behind others, after the cutter had no line, stopped
pub stops_on : (a : Reading) (k m : Cutting) (t : ℕ) (c : Reading) (x y z : Option (List ℕ)) (line : Line) (stop : Stop) →
    Reads a (record { cutter = k; total = t }) x y [] → k ≡ record m { whole = line_in line ++ m.whole } → line ≡ More →
    StopsReading (record { cutter = m; total = t }) c y z stop → StopsReading a c x z stop
stops_on a k m t c x y z line stop reads is more stops =
    let same : m ≡ k = sym (none_given k m line is more) in
    stops_after a (record { cutter = k; total = t }) c x y z stop reads
    (subst (λ n. StopsReading (record { cutter = n; total = t }) c y z stop) same stops)

-- the rest of a cutter that gave a line is as before
pub rest_of : (old new : Cutting) (line : Line) → old ≡ record new { whole = line_in line ++ new.whole } → HasNoNewline old.rest → HasNoNewline new.rest
rest_of old new line is begun = subst (λ (k : Cutting). HasNoNewline k.rest) is begun

-- where it gave none, it had none
pub none_left : (old new : Cutting) (line : Line) → old ≡ record new { whole = line_in line ++ new.whole } → line ≡ More → ((line ≡ More) ↔ (old.whole ≡ [])) → new.whole ≡ []
none_left old new line is more none = ap (λ (k : Cutting). k.whole) (sym (none_given old new line is more)) ∙ none.0 more

-- the reading stopped before a read gave bytes
pub stops_unread : (r : Reading) (x y : Option (List ℕ)) (stop : Stop) → Consumes x y [] → (stop ≡ Bound → 2 ^ 40 ≤ r.total) → IsReading stop
    → r.cutter.whole ≡ [] → HasNoNewline r.cutter.rest → StopsReading r r x y stop
stops_unread r x y stop consumed bound is_reading none begun = record {
  read = [];
  consumed = consumed;
  counted = omega arith;
  bound = bound;
  is_reading = is_reading;
  all_given = λ _. leaves_none r none begun;
}

-- The input was at its end behind others that gave no line: the last line is what stands in the cutter.
pub ends_on : (a : Reading) (k m n e : Cutting) (t u : ℕ) (x y z : Option (List ℕ)) (line last : Line) (ended : Bool) →
    Reads a (record { cutter = k; total = t }) x y [] → k ≡ record m { whole = line_in line ++ m.whole } → line ≡ More → k.whole ≡ [] →
    HasNoNewline k.rest → Fills (record { cutter = m; total = t }) (record { cutter = n; total = u }) y z ended → ended ≡ true →
    line_in last ≡ lines_to_come n [] → ReadsToEnd a (record { cutter = e; total = u }) x z (line_in last)
ends_on a k m n e t u x y z line last ended reads is more none begun fills ends given =
    let at_end = subst (λ b. Fills (record { cutter = m; total = t }) (record { cutter = n; total = u }) y z b) ends fills in
    let same : n ≡ k = ap (λ (r : Reading). r.cutter) at_end.0 ∙ sym (none_given k m line is more) in
    let total : u ≡ t = ap (λ (r : Reading). r.total) at_end.0 in
    record {
      read = reads.read ++ [];
      left = k.rest;
      consumed = Consumes-trans x y z reads.read [] reads.consumed at_end.1;
      ended = at_end.2;
      counted = omega (arith, length-append reads.read [], reads.counted, total);
      come = given ∙ ap (λ c. lines_to_come c []) same ∙ sym (reads.come []);
      unended = begun;
      joined = λ later.
          ap (lines_to_come a.cutter) (append_assoc reads.read [] later) ∙ reads.come later ∙ ap
          (λ whole. whole ++ lines k.most (k.rest ++ later)) none ∙ ap (λ most. lines most (k.rest ++ later)) reads.most;
    }
