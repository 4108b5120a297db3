-- Lives go on, and those of a keeper that tells its tables are one run.
use Rattle.std.proofs.Common.{◌≡◌, ℕ, Bool, true, false, List, [], ◌++◌, Option, sym, subst, append_assoc, ◌∙◌}
use Rattle.std.proofs.lemmas.List.{append-nil}
use Rattle.wk_page_rules.specs.Verdict.{MostHeld}
use Rattle.wk_answer_rules.specs.Values.{ApiReply}
use Rattle.wk_script_rules.specs.WikiScripts.{WikiScript}
use Rattle.wk_script_rules.specs.Runs.{WikiScriptRun, over}
use Rattle.wk_script_laws.proofs.Runs.{join}
use Rattle.wk_script_runs.specs.Lives.{Lives, no_lines, a_run, an_untold_restart}

pub of-run : (tells : Bool) (most : MostHeld) (s t : WikiScript) (lines : List (Option (List ℕ))) (moments : List ℕ) (replies : List ApiReply)
    → WikiScriptRun most s lines moments replies t → Lives tells most s lines moments replies t
of-run tells most s t lines moments replies run =
    subst (λ (ls : List (Option (List ℕ))). Lives tells most s ls moments replies t) (append-nil lines)
    (subst (λ (ms : List ℕ). Lives tells most s (lines ++ []) ms replies t) (append-nil moments)
    (subst (λ (rs : List ApiReply). Lives tells most s (lines ++ []) (moments ++ []) rs t) (append-nil replies) (a_run run no_lines)))

pub lives-join : (tells : Bool) (most : MostHeld) (s t u : WikiScript) (lines more_lines : List (Option (List ℕ))) (moments more_moments : List ℕ) (replies more_replies : List ApiReply)
    → Lives tells most s lines moments replies t → Lives tells most t more_lines more_moments more_replies u
    → Lives tells most s (lines ++ more_lines) (moments ++ more_moments) (replies ++ more_replies) u
lives-join tells most s t u lines more_lines moments more_moments replies more_replies no_lines more = more
lives-join tells most s t u lines more_lines moments more_moments replies more_replies
    (a_run {t = m} {lines = ls} {more_lines = ls2} {moments = ms} {more_moments = ms2} {replies = rs} {more_replies = rs2} run later) more =
    let joined = a_run run (lives-join tells most m t u ls2 more_lines ms2 more_moments rs2 more_replies later more) in
    subst (λ (x : List (Option (List ℕ))). Lives tells most s x ((ms ++ ms2) ++ more_moments) ((rs ++ rs2) ++ more_replies) u) (sym (append_assoc ls ls2 more_lines))
    (subst (λ (x : List ℕ). Lives tells most s (ls ++ (ls2 ++ more_lines)) x ((rs ++ rs2) ++ more_replies) u) (sym (append_assoc ms ms2 more_moments))
    (subst (λ (x : List ApiReply). Lives tells most s (ls ++ (ls2 ++ more_lines)) (ms ++ (ms2 ++ more_moments)) x u) (sym (append_assoc rs rs2 more_replies)) joined))
lives-join tells most s t u lines more_lines moments more_moments replies more_replies (an_untold_restart untold is state later) more =
    an_untold_restart untold is state (lives-join tells most _ t u _ more_lines _ more_moments _ more_replies later more)

pub told-run : (tells : Bool) (most : MostHeld) (s t : WikiScript) (lines : List (Option (List ℕ))) (moments : List ℕ) (replies : List ApiReply)
    → tells ≡ true → Lives tells most s lines moments replies t → WikiScriptRun most s lines moments replies t
told-run tells most s t lines moments replies is no_lines = over
told-run tells most s t lines moments replies is (a_run {t = m} {lines = ls} {more_lines = ls2} {moments = ms} {more_moments = ms2} {replies = rs} {more_replies = rs2} run later) =
    join most s m t ls ls2 ms ms2 rs rs2 run (told-run tells most m t ls2 ms2 rs2 is later)
told-run tells most s t lines moments replies is (an_untold_restart untold line state later) = absurd (let e : true ≡ false = sym is ∙ untold in cc)
