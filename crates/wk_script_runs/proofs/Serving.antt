-- Lines that are answered and written, one after the other.
use Rattle.std.proofs.Common.{◌≡◌, ℕ, ◌+◌, ◌≤◌, Bool, length, take, arith, append_assoc, length-append, lit≤, List, [], ◌∷◌, ◌++◌, Option, None, refl, sym, ap, ◌∙◌, subst}
use Rattle.std.proofs.KnownBytes.{Appends-nil, Appends-trans}
use Rattle.std.proofs.lemmas.List.{append-nil, map-append}
use Rattle.std.proofs.Math.Seq.{take-append-add}
use Rattle.std.specs.Io.KnownBytes.{Appends}
use Rattle.std.specs.Prelude.{is_some, Result}
use Rattle.serde_json.specs.declared.value.Value.{Value}
use Rattle.wk_memory.specs.declared.Memory.{Memory}
use Rattle.wk_base.specs.Writing.{AppendsPrefix}
use Rattle.wk_table_rules.specs.Rows.{StoreTables}
use Rattle.wk_page_rules.specs.Verdict.{MostHeld}
use Rattle.wk_core.specs.Seen.{WikiSeen}
use Rattle.wk_core.specs.Steps.{GoesOn}
use Rattle.wk_wiki_rules.specs.Starts.{Start}
use Rattle.wk_answer_rules.specs.Values.{ApiReply}
use Rattle.wk_script_rules.specs.ScriptLines.{ScriptLine, empty_line, script_line, takes_moment}
use Rattle.wk_script_rules.specs.WikiScripts.{TicketDraft}
use Rattle.wk_script_rules.specs.Steps.{line_step}
use Rattle.wk_script_rules.specs.Runs.{LineRun, as_answered, WikiScriptRun, over, untimed, reply_text, replies_text}
use Rattle.wk_script_runs.specs.Lines.{AnswersLine}
use Rattle.wk_script_runs.specs.Lives.{Lives, no_lines}
use Rattle.wk_script_steps.specs.Seen.{Holds, script_of}
use Rattle.wk_script_steps.specs.Going.{GoesOnOver}
use Rattle.wk_script_runs.specs.Served.{GivesMoments, Served, Writes, WritesInPart, points_of, risen}
use Rattle.wk_script_runs.specs.Serving.{WritesFirst}
use Rattle.wk_script_runs.proofs.Counts.{none-counted, one-counted, risen-on, split-faults}
use Rattle.wk_script_runs.proofs.Lives.{lives-join, of-run}

-- ---- texts and points

pub texts-join : (xs ys : List ApiReply) → replies_text (xs ++ ys) ≡ replies_text xs ++ replies_text ys
texts-join [] ys = refl
texts-join (x ∷ xs) ys = ap (λ later. reply_text x ++ later) (texts-join xs ys) ∙ sym (append_assoc (reply_text x) (replies_text xs) (replies_text ys))

pub points-join : (old mid new : List ℕ) (xs ys : List ApiReply) → mid ≡ old ++ points_of xs → new ≡ mid ++ points_of ys → new ≡ old ++ points_of (xs ++ ys)
points-join old mid new xs ys first second =
    second ∙ ap (λ l. l ++ points_of ys) first ∙ append_assoc old (points_of xs) (points_of ys)
    ∙ ap (λ l. old ++ l) (sym (map-append (λ reply. reply.point) xs ys))

pub moments-join : (a b c : Option (List ℕ)) (ms ns : List ℕ) → GivesMoments a b ms → GivesMoments b c ns → GivesMoments a c (ms ++ ns)
moments-join a b c [] ns same more = subst (λ o. GivesMoments o c ns) (sym same) more
moments-join a b c (m ∷ ms) ns first more = (first.0, first.1, moments-join first.0 b c ms ns first.2 more)

pub prefix-join : (x y z : Option (List ℕ)) (bs cs : List ℕ) → Appends x y bs → AppendsPrefix y z cs → AppendsPrefix x z (bs ++ cs)
prefix-join x y z bs cs first (k, within, second) = (
  length bs + k,
  omega (arith, length-append bs cs),
  subst (Appends x z) (sym (take-append-add bs cs k)) (Appends-trans x y z bs (take k cs) first second),
)

module _ {K : Type 0} (told : K → Option StoreTables) (faults : K → ℕ) where
  -- ---- a wiki that goes on

  pub goes-nowhere : (w : WikiSeen K) → GoesOnOver told faults w w
  goes-nowhere w = record { limits = refl; unsealed = λ none. none; stays_whole = refl; tells = refl; never_falls = omega arith; whole = λ is. refl }

  pub goes-further : (a b c : WikiSeen K) → GoesOnOver told faults a b → GoesOnOver told faults b c → GoesOnOver told faults a c
  goes-further a b c first second = record {
    limits = second.limits ∙ first.limits;
    unsealed = λ none. second.unsealed (first.unsealed none);
    stays_whole = second.stays_whole ∙ first.stays_whole;
    tells = second.tells ∙ first.tells;
    never_falls = let x = first.never_falls in let y = second.never_falls in omega (arith, x, y);
    whole = λ is. second.whole (first.stays_whole ∙ is) ∙ first.whole is;
  }

  pub goes-by-line : (old new : WikiSeen K) → new.start ≡ old.start → GoesOn told faults old new → GoesOnOver told faults old new
  goes-by-line old new start keeper = record {
    limits = ap (λ (s : Start). s.limits) start;
    unsealed = λ none. ap (λ (s : Start). s.sealed) start ∙ none;
    stays_whole = ap (λ (s : Start). s.whole) start;
    tells = keeper.tells;
    never_falls = keeper.never_falls;
    whole = keeper.whole;
  }

  -- ---- lines

  pub none-served : (w : WikiSeen K) (drafts : List TicketDraft) (left : Option (List ℕ)) → Holds w.state drafts → Served told faults w w drafts drafts [] left left []
  none-served w drafts left holds = record {
    moments = [];
    lives = no_lines;
    given = refl;
    holds = holds;
    goes = goes-nowhere w;
    failed = none-counted (faults w.keeper) (faults w.keeper) (omega arith);
  }

  pub line-served : (line : ScriptLine) (old new : WikiSeen K) (drafts after : List TicketDraft) (left later : Option (List ℕ)) (result : Result Value Memory) (raw : Option (List ℕ))
      → (answers : AnswersLine told faults line old new drafts after left later result) → script_line raw ≡ line
      → Served told faults old new drafts after (raw ∷ []) left later (answers.reply ∷ [])
  line-served line old new drafts after left later result raw answers is = record {
    moments = answers.moments;
    lives = of-run (is_some (told old.keeper)) old.start.limits (script_of old drafts) (script_of new after) (raw ∷ []) answers.moments (answers.reply ∷ []) (answers.run raw is);
    given = answers.given;
    holds = answers.holds;
    goes = goes-by-line old new answers.start answers.keeper;
    failed = one-counted (faults old.keeper) (faults new.keeper) answers.reply answers.fault answers.keeper.never_falls;
  }

  passed : (w : WikiSeen K) (drafts : List TicketDraft) → LineRun w.start.limits (script_of w drafts) 0 empty_line None (script_of w drafts)
  unfolding line_step
  passed w drafts = as_answered

  -- a line without bytes
  pub empty-served : (w : WikiSeen K) (drafts : List TicketDraft) (left : Option (List ℕ)) (raw : Option (List ℕ)) → Holds w.state drafts → script_line raw ≡ empty_line
      → Served told faults w w drafts drafts (raw ∷ []) left left []
  empty-served w drafts left raw holds is = record {
    moments = [];
    lives = of-run (is_some (told w.keeper)) w.start.limits (script_of w drafts) (script_of w drafts) (raw ∷ []) [] [] skipped;
    given = refl;
    holds = holds;
    goes = goes-nowhere w;
    failed = none-counted (faults w.keeper) (faults w.keeper) (omega arith);
  }
    where
      skipped : WikiScriptRun w.start.limits (script_of w drafts) (raw ∷ []) [] [] (script_of w drafts)
      skipped = untimed (ap takes_moment is)
          (subst (λ (l : ScriptLine). LineRun w.start.limits (script_of w drafts) 0 l None (script_of w drafts)) (sym is) (passed w drafts)) over

  pub served-join : (a b c : WikiSeen K) (x y z : List TicketDraft) (ls ms : List (Option (List ℕ))) (p q r : Option (List ℕ)) (rs ss : List ApiReply)
      → Served told faults a b x y ls p q rs → Served told faults b c y z ms q r ss → Served told faults a c x z (ls ++ ms) p r (rs ++ ss)
  served-join a b c x y z ls ms p q r rs ss first second = record {
    moments = first.moments ++ second.moments;
    lives = lives-join (is_some (told a.keeper)) a.start.limits (script_of a x) (script_of b y) (script_of c z) ls ms first.moments second.moments rs ss first.lives
        (subst (λ (t : Bool). Lives t a.start.limits (script_of b y) ms second.moments ss (script_of c z)) first.goes.tells
        (subst (λ (most : MostHeld). Lives (is_some (told b.keeper)) most (script_of b y) ms second.moments ss (script_of c z)) first.goes.limits second.lives));
    given = moments-join p q r first.moments second.moments first.given second.given;
    holds = second.holds;
    goes = goes-further a b c first.goes second.goes;
    failed = λ n all.
        let parts = split-faults rs ss n all in
        subst (λ m. risen (faults a.keeper) m ≤ faults c.keeper) (sym parts.4)
        (risen-on (faults a.keeper) (faults b.keeper) (faults c.keeper) parts.0 parts.1 (first.failed parts.0 parts.2) (second.failed parts.1 parts.3));
  }

  -- ---- what is written

  pub nothing-written : (w : WikiSeen K) (drafts : List TicketDraft) (left taken : Option (List ℕ)) (points : List ℕ) → Holds w.state drafts
      → Writes told faults w w drafts drafts [] left left taken taken points points
  nothing-written w drafts left taken points holds = record {
    replies = [];
    served = none-served w drafts left holds;
    written = Appends-nil taken;
    points_are = sym (append-nil points);
  }

  pub nothing-in-part : (w : WikiSeen K) (drafts : List TicketDraft) (left taken : Option (List ℕ)) (points : List ℕ) → Holds w.state drafts
      → WritesInPart told faults w w drafts drafts [] left left taken taken points points
  nothing-in-part w drafts left taken points holds = record {
    replies = [];
    served = none-served w drafts left holds;
    written = (0, lit≤ tt, Appends-nil taken);
    points_are = sym (append-nil points);
  }

  -- nothing of these lines was done
  pub nothing-first : (w : WikiSeen K) (drafts : List TicketDraft) (all : List (Option (List ℕ))) (left taken : Option (List ℕ)) (points : List ℕ) → Holds w.state drafts
      → WritesFirst told faults w w drafts drafts all left left taken taken points points
  nothing-first w drafts all left taken points holds = record { done = []; begins = (all, refl); part = nothing-in-part w drafts left taken points holds }

  -- all of them were answered, and the answers written in part
  pub all-first : (a b : WikiSeen K) (x y : List TicketDraft) (all : List (Option (List ℕ))) (left later taken more_taken : Option (List ℕ)) (points more_points : List ℕ)
      → WritesInPart told faults a b x y all left later taken more_taken points more_points
      → WritesFirst told faults a b x y all left later taken more_taken points more_points
  all-first a b x y all left later taken more_taken points more_points part = record { done = all; begins = ([], sym (append-nil all)); part = part }

  pub writes-join : (a b c : WikiSeen K) (x y z : List TicketDraft) (ls ms : List (Option (List ℕ))) (p q r i j k : Option (List ℕ)) (old mid new : List ℕ)
      → Writes told faults a b x y ls p q i j old mid → Writes told faults b c y z ms q r j k mid new → Writes told faults a c x z (ls ++ ms) p r i k old new
  writes-join a b c x y z ls ms p q r i j k old mid new first second = record {
    replies = first.replies ++ second.replies;
    served = served-join a b c x y z ls ms p q r first.replies second.replies first.served second.served;
    written = subst (Appends i k) (sym (texts-join first.replies second.replies))
        (Appends-trans i j k (replies_text first.replies) (replies_text second.replies) first.written second.written);
    points_are = points-join old mid new first.replies second.replies first.points_are second.points_are;
  }

  pub part-join : (a b c : WikiSeen K) (x y z : List TicketDraft) (ls ms : List (Option (List ℕ))) (p q r i j k : Option (List ℕ)) (old mid new : List ℕ)
      → Writes told faults a b x y ls p q i j old mid → WritesInPart told faults b c y z ms q r j k mid new → WritesInPart told faults a c x z (ls ++ ms) p r i k old new
  part-join a b c x y z ls ms p q r i j k old mid new first second = record {
    replies = first.replies ++ second.replies;
    served = served-join a b c x y z ls ms p q r first.replies second.replies first.served second.served;
    written = subst (AppendsPrefix i k) (sym (texts-join first.replies second.replies))
        (prefix-join i j k (replies_text first.replies) (replies_text second.replies) first.written second.written);
    points_are = points-join old mid new first.replies second.replies first.points_are second.points_are;
  }

  -- one reply
  pub one-written : (a b : WikiSeen K) (x y : List TicketDraft) (line : Option (List ℕ)) (left later taken more_taken : Option (List ℕ)) (reply : ApiReply) (text : List ℕ) (points more_points : List ℕ)
      → Served told faults a b x y (line ∷ []) left later (reply ∷ []) → text ≡ reply_text reply → Appends taken more_taken text
      → more_points ≡ points ++ reply.point ∷ [] → Writes told faults a b x y (line ∷ []) left later taken more_taken points more_points
  one-written a b x y line left later taken more_taken reply text points more_points served is written points_are = record {
    replies = reply ∷ [];
    served = served;
    written = subst (Appends taken more_taken) (is ∙ sym (append-nil (reply_text reply))) written;
    points_are = points_are;
  }

  pub one-in-part : (a b : WikiSeen K) (x y : List TicketDraft) (line : Option (List ℕ)) (left later taken more_taken : Option (List ℕ)) (reply : ApiReply) (text : List ℕ) (points more_points : List ℕ)
      → Served told faults a b x y (line ∷ []) left later (reply ∷ []) → text ≡ reply_text reply → AppendsPrefix taken more_taken text
      → more_points ≡ points ++ reply.point ∷ [] → WritesInPart told faults a b x y (line ∷ []) left later taken more_taken points more_points
  one-in-part a b x y line left later taken more_taken reply text points more_points served is written points_are = record {
    replies = reply ∷ [];
    served = served;
    written = subst (AppendsPrefix taken more_taken) (is ∙ sym (append-nil (reply_text reply))) written;
    points_are = points_are;
  }

-- nothing of a text was written
pub none-of : (taken : Option (List ℕ)) (text : List ℕ) → AppendsPrefix taken taken text
none-of taken text = (0, omega arith, Appends-nil taken)
