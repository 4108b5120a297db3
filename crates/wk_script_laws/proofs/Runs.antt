-- Runs one after the other, and runs in which nothing fails.
use Rattle.std.proofs.Common.{◌≡◌, ℕ, List, [], ◌∷◌, ◌++◌, Option, Some, None, refl, sym, ap, ◌∙◌, inl, inr}
use Rattle.std.specs.List.{AllByRecursion}
use Rattle.std.specs.Option.{option_to_list}
use Rattle.std.specs.Prelude.{if◌then◌else◌, ◌⊎◌}
use Rattle.wk_base.specs.Clock.{first_moment, later_moments}
use Rattle.wk_page_rules.specs.Verdict.{MostHeld}
use Rattle.wk_answer_rules.specs.Values.{ApiReply}
use Rattle.wk_script_rules.specs.ScriptLines.{ScriptLine, script_line}
use Rattle.wk_script_rules.specs.WikiScripts.{WikiScript}
use Rattle.wk_script_rules.specs.Steps.{LineStep, line_step}
use Rattle.wk_script_rules.specs.Runs.{HasNoFailure, LineRun, as_answered, api_out_of_memory, api_out_of_memory_after, save_failed, claim_out_of_memory, read_out_of_memory, finish_out_of_memory, finish_failed, fan_out_of_memory, fan_failed, WikiScriptRun, over, timed, unread, untimed, moment_for, moments_after, script_answers}

-- ---- runs join

pub join : (most : MostHeld) (s t u : WikiScript) (lines more_lines : List (Option (List ℕ))) (moments more_moments : List ℕ) (replies more_replies : List ApiReply)
    → WikiScriptRun most s lines moments replies t → WikiScriptRun most t more_lines more_moments more_replies u
    → WikiScriptRun most s (lines ++ more_lines) (moments ++ more_moments) (replies ++ more_replies) u
join most s t u lines more_lines moments more_moments replies more_replies over more = more
join most s t u lines more_lines moments more_moments replies more_replies (timed {reply = None} takes line run) more =
    timed takes line (join most _ _ _ _ _ _ _ _ _ run more)
join most s t u lines more_lines moments more_moments replies more_replies (timed {reply = Some reply} takes line run) more =
    timed takes line (join most _ _ _ _ _ _ _ _ _ run more)
join most s t u lines more_lines moments more_moments replies more_replies (unread is run) more =
    unread is (join most _ _ _ _ _ _ _ _ _ run more)
join most s t u lines more_lines moments more_moments replies more_replies (untimed {reply = None} takes line run) more =
    untimed takes line (join most _ _ _ _ _ _ _ _ _ run more)
join most s t u lines more_lines moments more_moments replies more_replies (untimed {reply = Some reply} takes line run) more =
    untimed takes line (join most _ _ _ _ _ _ _ _ _ run more)

-- ---- a line in which nothing fails

-- a line is answered as the function says
pub record Told (most : MostHeld) (s : WikiScript) (moment : ℕ) (line : ScriptLine) (reply : Option ApiReply) (after : WikiScript) : Type 0 where
  pub reply_is : reply ≡ (line_step most s moment line).reply
  pub after_is : after ≡ (line_step most s moment line).after

line-told : (most : MostHeld) (s : WikiScript) (moment : ℕ) (line : ScriptLine) (t : WikiScript) (reply : Option ApiReply)
    → LineRun most s moment line reply t → AllByRecursion HasNoFailure (option_to_list reply) → Told most s moment line reply t
line-told most s moment line t reply as_answered fine = record { reply_is = refl; after_is = refl }
line-told most s moment line t reply api_out_of_memory fine = absurd (fine.0.memory refl)
line-told most s moment line t reply (api_out_of_memory_after made) fine = absurd (fine.0.memory refl)
line-told most s moment line t reply (save_failed made) fine = absurd (fine.0.store refl)
line-told most s moment line t reply claim_out_of_memory fine = absurd (fine.0.memory refl)
line-told most s moment line t reply (read_out_of_memory out) fine = absurd (fine.0.memory refl)
line-told most s moment line t reply (finish_out_of_memory out) fine = absurd (fine.0.memory refl)
line-told most s moment line t reply (finish_failed out drafted current) fine = absurd (fine.0.store refl)
line-told most s moment line t reply fan_out_of_memory fine = absurd (fine.0.memory refl)
line-told most s moment line t reply (fan_failed stands room) fine = absurd (fine.0.store refl)

-- ---- all lines

first-fine : (reply : Option ApiReply) (replies : List ApiReply) → AllByRecursion HasNoFailure (option_to_list reply ++ replies) → AllByRecursion HasNoFailure (option_to_list reply)
first-fine None replies fine = tt
first-fine (Some reply) replies fine = (fine.0, tt)

later-fine : (reply : Option ApiReply) (replies : List ApiReply) → AllByRecursion HasNoFailure (option_to_list reply ++ replies) → AllByRecursion HasNoFailure replies
later-fine None replies fine = fine
later-fine (Some reply) replies fine = fine.1

-- the replies and what stands behind the lines are the function's
pub record Function (most : MostHeld) (s : WikiScript) (lines : List (Option (List ℕ))) (moments : List ℕ) (replies : List ApiReply) (after : WikiScript) : Type 0 where
  pub replies_are : replies ≡ (script_answers most s lines moments).replies
  pub after_is : after ≡ (script_answers most s lines moments).after

-- one line, answered as the function says, before lines that are
module _ (most : MostHeld) (s t u : WikiScript) (line : Option (List ℕ)) (lines : List (Option (List ℕ))) (moment : ℕ) (moments later : List ℕ) (reply : Option ApiReply) (replies : List ApiReply) where
  onto : moment_for (script_line line) moments ≡ moment → moments_after (script_line line) moments ≡ later
      → Told most s moment (script_line line) reply t → Function most t lines later replies u
      → Function most s (line ∷ lines) moments (option_to_list reply ++ replies) u
  unfolding script_answers
  onto is_moment are_later replied run = record {
    replies_are = λ i. option_to_list (reply-at i) ++ run-at-replies i;
    after_is = run.after_is ∙ (λ i. (script_answers most (after-at i) lines (sym are_later i)).after);
  }
    where
      step : ℕ → LineStep
      step m = line_step most s m (script_line line)

      reply-at : reply ≡ (step (moment_for (script_line line) moments)).reply
      reply-at = replied.reply_is ∙ ap (λ m. (step m).reply) (sym is_moment)

      after-at : t ≡ (step (moment_for (script_line line) moments)).after
      after-at = replied.after_is ∙ ap (λ m. (step m).after) (sym is_moment)

      run-at-replies : replies ≡ (script_answers most (step (moment_for (script_line line) moments)).after lines (moments_after (script_line line) moments)).replies
      run-at-replies = run.replies_are ∙ (λ i. (script_answers most (after-at i) lines (sym are_later i)).replies)

-- the moments that are given are those that were taken, or none was taken
abbrev Fits : List ℕ → List ℕ → Type 0
Fits moments given = (moments ≡ []) ⊎ (given ≡ moments)

-- after a line that took its moment
fits-later : (moment : ℕ) (later : List ℕ) → Fits later (later_moments (moment ∷ later))
fits-later moment [] = inl refl
fits-later moment (next ∷ later) = inr refl

pub is-function : (most : MostHeld) (s t : WikiScript) (lines : List (Option (List ℕ))) (moments given : List ℕ) (replies : List ApiReply)
    → Fits moments given → WikiScriptRun most s lines moments replies t → AllByRecursion HasNoFailure replies → Function most s lines given replies t
unfolding script_answers
is-function most s t lines moments given replies fits over fine = record { replies_are = refl; after_is = refl }
is-function most s u lines moments given replies fits (timed {t = t} {line = line} {lines = more} {moment = moment} {moments = later} {reply = reply} {replies = rest} takes one run) fine =
    let taken : given ≡ moment ∷ later = elim fits [ inl none ↦ absurd (let e : moment ∷ later ≡ [] = none in cc) | inr same ↦ same ] in
    onto most s t u line more moment given (later_moments (moment ∷ later)) reply rest
    (ap (λ g. moment_for (script_line line) g) taken ∙ ap (λ b. if b then moment else 0) takes)
    (ap (λ g. moments_after (script_line line) g) taken ∙ ap (λ b. if b then later_moments (moment ∷ later) else moment ∷ later) takes)
    (line-told most s moment (script_line line) t reply one (first-fine reply rest fine))
    (is-function most t u more later (later_moments (moment ∷ later)) rest (fits-later moment later) run (later-fine reply rest fine))
is-function most s u lines moments given replies fits (unread is run) fine = absurd (fine.0.memory refl)
is-function most s u lines moments given replies fits (untimed {t = t} {line = line} {lines = more} {reply = reply} {replies = rest} takes one run) fine =
    onto most s t u line more 0 given given reply rest
    (ap (λ b. if b then first_moment given else 0) takes) (ap (λ b. if b then later_moments given else given) takes)
    (line-told most s 0 (script_line line) t reply one (first-fine reply rest fine))
    (is-function most t u more moments given rest fits run (later-fine reply rest fine))

pub function-replies : (most : MostHeld) (s t : WikiScript) (lines : List (Option (List ℕ))) (moments : List ℕ) (replies : List ApiReply)
    → WikiScriptRun most s lines moments replies t → AllByRecursion HasNoFailure replies → replies ≡ (script_answers most s lines moments).replies
function-replies most s t lines moments replies run fine = (is-function most s t lines moments moments replies (inr refl) run fine).replies_are

pub function-after : (most : MostHeld) (s t : WikiScript) (lines : List (Option (List ℕ))) (moments : List ℕ) (replies : List ApiReply)
    → WikiScriptRun most s lines moments replies t → AllByRecursion HasNoFailure replies → t ≡ (script_answers most s lines moments).after
function-after most s t lines moments replies run fine = (is-function most s t lines moments moments replies (inr refl) run fine).after_is
