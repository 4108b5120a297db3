-- Runs over the lives of a wiki: where its keeper doesn't tell its tables, a restart may begin with any state (own).
use Rattle.std.specs.Prelude.{◌≡◌, ℕ, Bool, false, List, [], ◌∷◌, ◌++◌, Option}
use Rattle.wk_page_rules.specs.Verdict.{MostHeld}
use Rattle.wk_wiki_rules.specs.States.{State}
use Rattle.wk_answer_rules.specs.Values.{ApiReply, reply_beside}
use Rattle.wk_script_rules.specs.Replies.{restart_entries}
use Rattle.wk_script_rules.specs.ScriptLines.{restart_line, script_line}
use Rattle.wk_script_rules.specs.WikiScripts.{WikiScript, script_from}
use Rattle.wk_script_rules.specs.Runs.{WikiScriptRun}

-- Lines were answered, on these moments of the clock: by runs of the rules, and between them, where no tables are told, by
-- restarts that begin with some state.
pub data Lives (tells : Bool) (most : MostHeld) : WikiScript → List (Option (List ℕ)) → List ℕ → List ApiReply → WikiScript → Type 0 where
  no_lines : {s : WikiScript} → Lives tells most s [] [] [] s
  a_run : {s t u : WikiScript} {lines more_lines : List (Option (List ℕ))} {moments more_moments : List ℕ} {replies more_replies : List ApiReply} →
      WikiScriptRun most s lines moments replies t → Lives tells most t more_lines more_moments more_replies u →
      Lives tells most s (lines ++ more_lines) (moments ++ more_moments) (replies ++ more_replies) u
  an_untold_restart : {s u : WikiScript} {line : Option (List ℕ)} {lines : List (Option (List ℕ))} {moments : List ℕ} {replies : List ApiReply} →
      tells ≡ false → script_line line ≡ restart_line → (state : State) → Lives tells most (script_from state) lines moments replies u →
      Lives tells most s (line ∷ lines) moments (reply_beside (restart_entries state) 0 ∷ replies) u
