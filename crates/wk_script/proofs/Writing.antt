-- One line that is answered, and its answer written.
use Rattle.std.proofs.Common.{◌≡◌, ℕ, List, [], ◌∷◌, ◌++◌, length, Option, refl, sym, ap, ◌∙◌, subst}
use Rattle.std.specs.Io.KnownBytes.{Appends}
use Rattle.std.proofs.KnownBytes.{Appends-nil}
use Rattle.std.proofs.lemmas.List.{append-nil}
use Rattle.std.specs.Prelude.{OnErr, OnOk, Result, Ok, Err}
use Rattle.wk_lines.specs.declared.stop.Stop.{Stop}
use Rattle.wk_script_steps.specs.Seen.{Holds}
use Rattle.serde_json.specs.View.{view}
use Rattle.serde_json.specs.Written.{compact_text}
use Rattle.serde_json.specs.declared.value.Value.{Value}
use Rattle.wk_memory.specs.declared.Memory.{Memory}
use Rattle.wk_base.specs.Writing.{AppendsPrefix}
use Rattle.wk_table_rules.specs.Rows.{StoreTables}
use Rattle.wk_core.specs.Seen.{WikiSeen}
use Rattle.wk_script_rules.specs.ScriptLines.{ScriptLine, empty_line, script_line}
use Rattle.wk_script_rules.specs.WikiScripts.{TicketDraft}
use Rattle.wk_script_rules.specs.Runs.{reply_text}
use Rattle.wk_script_runs.specs.Lines.{AnswersLine}
use Rattle.wk_script_runs.specs.Served.{Writes}
use Rattle.wk_script_runs.specs.Serving.{WritesFirst}
use Rattle.wk_script_runs.proofs.Serving.{all-first, empty-served, line-served, none-of, one-in-part, one-written}

module _ {K : Type 0} (told : K → Option StoreTables) (faults : K → ℕ) (line : ScriptLine) (old new : WikiSeen K) (drafts after : List TicketDraft) (left later : Option (List ℕ)) (raw : Option (List ℕ)) (is : script_line raw ≡ line)
    (taken more : Option (List ℕ)) (points more_points : List ℕ) (point : ℕ) (pushed : more_points ≡ points ++ point ∷ []) (at : point ≡ length new.journal) where
  pushed-for : (n : ℕ) → n ≡ length new.journal → more_points ≡ points ++ n ∷ []
  pushed-for n same = pushed ∙ ap (λ m. points ++ m ∷ []) (at ∙ sym same)

  -- the whole answer was written
  pub line-written : (v : Value) (answers : AnswersLine told faults line old new drafts after left later (Ok v)) → Appends taken more (compact_text (view v) ++ 10 ∷ [])
      → Writes told faults old new drafts after (raw ∷ []) left later taken more points more_points
  line-written v answers written =
      one-written told faults old new drafts after raw left later taken more answers.reply (compact_text (view v) ++ 10 ∷ []) points more_points
      (line-served told faults line old new drafts after left later (Ok v) raw answers is)
      (ap (λ d. compact_text d ++ 10 ∷ []) answers.value) written (pushed-for answers.reply.point answers.point)

  -- a prefix of it
  pub line-in-part : (v : Value) (answers : AnswersLine told faults line old new drafts after left later (Ok v)) → AppendsPrefix taken more (compact_text (view v) ++ 10 ∷ [])
      → WritesFirst told faults old new drafts after (raw ∷ []) left later taken more points more_points
  line-in-part v answers written =
      all-first told faults old new drafts after (raw ∷ []) left later taken more points more_points
      (one-in-part told faults old new drafts after raw left later taken more answers.reply (compact_text (view v) ++ 10 ∷ []) points more_points
      (line-served told faults line old new drafts after left later (Ok v) raw answers is)
      (ap (λ d. compact_text d ++ 10 ∷ []) answers.value) written (pushed-for answers.reply.point answers.point))

  -- memory was wanting for the answer
  pub line-untold : (result : Result Value Memory) (answers : AnswersLine told faults line old new drafts after left later result) → taken ≡ more
      → WritesFirst told faults old new drafts after (raw ∷ []) left later taken more points more_points
  line-untold result answers same =
      all-first told faults old new drafts after (raw ∷ []) left later taken more points more_points
      (one-in-part told faults old new drafts after raw left later taken more answers.reply (reply_text answers.reply) points more_points
      (line-served told faults line old new drafts after left later result raw answers is)
      refl (subst (λ (t : Option (List ℕ)). AppendsPrefix taken t (reply_text answers.reply)) same (none-of taken (reply_text answers.reply)))
      (pushed-for answers.reply.point answers.point))

-- a line without bytes
pub empty-written : {K : Type 0} (told : K → Option StoreTables) (faults : K → ℕ) (wiki : WikiSeen K) (drafts : List TicketDraft) (left taken : Option (List ℕ)) (points : List ℕ) (raw : Option (List ℕ)) → Holds wiki.state drafts → script_line raw ≡ empty_line
    → Writes told faults wiki wiki drafts drafts (raw ∷ []) left left taken taken points points
empty-written told faults wiki drafts left taken points raw holds is = record {
  replies = [];
  served = empty-served told faults wiki drafts left raw holds is;
  written = Appends-nil taken;
  points_are = sym (append-nil points);
}

-- what follows from an answer
pub on-ok : (r : Result (Unit {0}) Stop) (P Q : Type 0) → (P → Q) → OnOk r P → OnOk r Q
on-ok (Ok x) P Q more given = more given
on-ok (Err stop) P Q more given = tt

pub on-err : (r : Result (Unit {0}) Stop) (P Q : Type 0) → (P → Q) → OnErr r P → OnErr r Q
on-err (Ok x) P Q more given = tt
on-err (Err stop) P Q more given = more given
