-- Runs that have ended.
use Rattle.std.proofs.Common.{◌≡◌, ℕ, ◌+◌, ◌≤◌, List, [], refl, ◌∙◌, ap, subst, arith}
use Rattle.std.specs.List.{AllByRecursion}
use Rattle.std.specs.Prelude.{Option, Ok, Err, is_some}
use Rattle.wk_text_rules.specs.Lines.{lines}
use Rattle.wk_table_rules.specs.Rows.{StoreTables}
use Rattle.wk_core.specs.Seen.{IsTold, WikiSeen}
use Rattle.wk_wiki_rules.specs.States.{State}
use Rattle.wk_core.specs.declared.outcomes.LoadCause.{LoadCause}
use Rattle.wk_core.specs.declared.outcomes.LoadCause.TheVariants as cause
use Rattle.wk_answer_rules.specs.Values.{ApiReply}
use Rattle.wk_script_rules.specs.WikiScripts.{TicketDraft, WikiScript, all_given_back}
use Rattle.wk_script_rules.specs.Runs.{HasNoFailure, WikiScriptRun, max_line}
use Rattle.wk_script_laws.proofs.Runs.{function-after, function-replies}
use Rattle.wk_script_steps.specs.Reopened.{IsLost}
use Rattle.wk_script_steps.specs.Seen.{script_of}
use Rattle.wk_script_runs.specs.Ends.{Answered, HasLife, IsCutRun, IsTheFunction, IsWholeRun, faults_of}
use Rattle.wk_script_runs.specs.Outside.{Outside}
use Rattle.wk_script_runs.specs.Served.{Served, StoreFaults, points_of, risen}
use Rattle.wk_script_runs.specs.Through.{IsPartThrough, IsThrough}
use Rattle.wk_script_runs.proofs.Counts.{no-failures, no-more-counted, none-of-them, one-more-counted}
use Rattle.wk_script_runs.proofs.Lives.{told-run}

module _ {K : Type 0} (told : K → Option StoreTables) (faults : K → ℕ) (old new : WikiSeen K) (drafts : List TicketDraft) (done : List (Option (List ℕ))) (left later : Option (List ℕ))
    (replies : List ApiReply) (served : Served told faults old new [] drafts done left later replies) (points : List ℕ) (points_are : points ≡ points_of replies) where
  -- the tickets have come in
  pub answered-back : (end : WikiSeen K) → HasLife (all_given_back (script_of new drafts)) end → end.keeper ≡ new.keeper → IsTold told end.state end.keeper
      → Answered told faults old done left later points 0 (Ok end) replies
  answered-back end life keeper tables =
      let same : faults end.keeper ≡ faults new.keeper = ap faults keeper in
      record {
        moments = served.moments;
        last = script_of new drafts;
        lives = served.lives;
        given = served.given;
        points_are = points_are;
        handed_is = life;
        tables = subst (λ (s : State). IsTold told s end.keeper) (ap (λ (s : WikiScript). s.state) life) tables;
        failed = λ n all. let counted = served.failed n all in omega (arith, same, counted);
        never_falls = let rises = served.goes.never_falls in omega (arith, same, rises);
        whole = λ is. same ∙ served.goes.whole is;
        tells = ap (λ k. is_some (told k)) keeper ∙ served.goes.tells;
      }

  counted-on : (why : LoadCause) (keeper : K) → IsLost told faults new drafts why keeper → (n : ℕ) → StoreFaults replies n
      → risen (faults old.keeper) (n + faults_of why) ≤ faults keeper
  counted-on cause.StoreFault keeper lost n all = one-more-counted (faults old.keeper) (faults new.keeper) (faults keeper) n (served.failed n all) (lost.fault refl)
  counted-on (cause.BadStore bad) keeper lost n all = no-more-counted (faults old.keeper) (faults new.keeper) (faults keeper) n (served.failed n all) lost.never_falls
  counted-on cause.Memory keeper lost n all = no-more-counted (faults old.keeper) (faults new.keeper) (faults keeper) n (served.failed n all) lost.never_falls

  -- the store wasn't opened anew
  pub answered-lost : (why : LoadCause) (keeper : K) → IsLost told faults new drafts why keeper
      → Answered told faults old done left later points (faults_of why) (Err keeper) replies
  answered-lost why keeper lost = record {
    moments = served.moments;
    last = script_of new drafts;
    lives = served.lives;
    given = served.given;
    points_are = points_are;
    handed_is = tt;
    tables = lost.tables;
    failed = counted-on why keeper lost;
    never_falls = let rises = served.goes.never_falls in let more = lost.never_falls in omega (arith, rises, more);
    whole = λ is. lost.whole (served.goes.stays_whole ∙ is) ∙ served.goes.whole is;
    tells = lost.tells ∙ served.goes.tells;
  }

-- where memory was there and the keeper whole, it is the function
pub is-the-function : {K : Type 0} (told : K → Option StoreTables) (faults : K → ℕ) (old new : WikiSeen K) (drafts : List TicketDraft) (done : List (Option (List ℕ))) (left later : Option (List ℕ))
    (replies : List ApiReply) (served : Served told faults old new [] drafts done left later replies)
    → IsTheFunction told faults old done served.moments replies (script_of new drafts)
is-the-function told faults old new drafts done left later replies served tells whole room memory = (
  function-replies old.start.limits (script_of old []) (script_of new drafts) done served.moments replies run fine,
  ap all_given_back (function-after old.start.limits (script_of old []) (script_of new drafts) done served.moments replies run fine),
)
  where
    run : WikiScriptRun old.start.limits (script_of old []) done served.moments replies (script_of new drafts)
    run = told-run (is_some (told old.keeper)) old.start.limits (script_of old []) (script_of new drafts) done served.moments replies tells served.lives

    counted : (n : ℕ) → StoreFaults replies n → risen (faults old.keeper) n ≤ faults old.keeper
    counted n all = subst (λ f. risen (faults old.keeper) n ≤ f) (served.goes.whole whole) (served.failed n all)

    fine : AllByRecursion HasNoFailure replies
    fine = no-failures replies memory (none-of-them (faults old.keeper) replies room counted)

module _ {K : Type 0} (told : K → Option StoreTables) (faults : K → ℕ) (old new : WikiSeen K) (drafts : List TicketDraft) (before after : Outside) (points : List ℕ) where
  pub whole-run : (end : WikiSeen K) → IsThrough told faults old new drafts before after points
      → HasLife (all_given_back (script_of new drafts)) end → end.keeper ≡ new.keeper → IsTold told end.state end.keeper → IsWholeRun told faults old before after points (Ok end)
  unfolding answered-back
  whole-run end through life keeper tables =
      let w = through.writes in
      record {
        read = through.read;
        consumed = through.consumed;
        few = through.few;
        ended = through.ended;
        replies = w.replies;
        answered = answered-back told faults old new drafts (lines max_line through.read) before.moments after.moments w.replies w.served points w.points_are end life keeper tables;
        written = w.written;
        function = is-the-function told faults old new drafts (lines max_line through.read) before.moments after.moments w.replies w.served;
      }

  pub cut-back : (end : WikiSeen K) (read : List ℕ) (of_input : Type 0) → IsPartThrough told faults old new drafts before after points read of_input
      → HasLife (all_given_back (script_of new drafts)) end → end.keeper ≡ new.keeper → IsTold told end.state end.keeper → IsCutRun told faults old before after points 0 (Ok end) of_input read
  cut-back end read of_input through life keeper tables =
      let w = through.part in
      record {
        done = through.done;
        first = through.first;
        replies = w.replies;
        answered = answered-back told faults old new drafts through.done before.moments after.moments w.replies w.served points w.points_are end life keeper tables;
        written = w.written;
        all_answered = through.all;
      }

  pub cut-lost : (why : LoadCause) (keeper : K) (read : List ℕ) (of_input : Type 0) → IsPartThrough told faults old new drafts before after points read of_input
      → IsLost told faults new drafts why keeper → IsCutRun told faults old before after points (faults_of why) (Err keeper) of_input read
  cut-lost why keeper read of_input through lost =
      let w = through.part in
      record {
        done = through.done;
        first = through.first;
        replies = w.replies;
        answered = answered-lost told faults old new drafts through.done before.moments after.moments w.replies w.served points w.points_are why keeper lost;
        written = w.written;
        all_answered = through.all;
      }
