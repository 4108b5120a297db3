-- How a script's run went, to its end or until it stopped (own).
use Rattle.std.specs.Prelude.{◌≡◌, ◌≢◌, ℕ, ◌+◌, ◌^◌, ◌≤◌, ◌<◌, true, List, [], Option, Result, Ok, Err, IfSome, is_some}
use Rattle.std.specs.List.{AllByRecursion}
use Rattle.std.specs.Io.KnownBytes.{Appends, Consumes, IsAtEnd}
use Rattle.wk_base.specs.Writing.{AppendsPrefix}
use Rattle.wk_text_rules.specs.Lines.{lines}
use Rattle.wk_table_rules.specs.Rows.{StoreTables}
use Rattle.wk_wiki_rules.specs.Tables.{tables_of}
use Rattle.wk_core.specs.Seen.{WikiSeen}
use Rattle.wk_core.specs.declared.outcomes.LoadCause.{LoadCause}
use Rattle.wk_core.specs.declared.outcomes.LoadCause.TheVariants as cause
use Rattle.wk_answer_rules.specs.ApiErrors.{api_error, nomemory}
use Rattle.wk_answer_rules.specs.Values.{ApiReply}
use Rattle.wk_script_rules.specs.WikiScripts.{WikiScript, all_given_back}
use Rattle.wk_script_rules.specs.Runs.{max_line, replies_text, script_end, wiki_script_replies}
use Rattle.wk_script_steps.specs.Seen.{script_of}
use Rattle.wk_script_runs.specs.Lives.{Lives}
use Rattle.wk_script_runs.specs.Outside.{Outside}
use Rattle.wk_script_runs.specs.Reads.{AreWholeLines, IsFew, ReadsFirst}
use Rattle.wk_script_runs.specs.Served.{GivesMoments, StoreFaults, points_of, risen}

-- the wiki has this life, and no ticket is out
abbrev pub HasLife : {K : Type 0} → WikiScript → WikiSeen K → Type 0
HasLife s wiki = script_of wiki [] ≡ record s { drafts = [] }

-- what is handed back: the wiki, whose tickets have come in, or its keeper alone
abbrev pub IsLeft : {K : Type 0} → WikiScript → Result (WikiSeen K) K → Type 0
IsLeft last (Ok wiki) = HasLife (all_given_back last) wiki
IsLeft last (Err keeper) = Unit {0}

-- the keeper that is handed back
abbrev pub keeper_left : {K : Type 0} → Result (WikiSeen K) K → K
keeper_left (Ok wiki) = wiki.keeper
keeper_left (Err keeper) = keeper

-- Lines were answered from a wiki without tickets on, by these replies, on the moments that the clock gave. So many faults
-- of the store stand beside those that the replies tell of.
pub record Answered {K : Type 0} (told : K → Option StoreTables) (faults : K → ℕ) (wiki : WikiSeen K) (lines : List (Option (List ℕ)))
    (left later : Option (List ℕ)) (points : List ℕ) (more : ℕ) (handed : Result (WikiSeen K) K) (replies : List ApiReply) : Type 0 where
  pub moments : List ℕ
  pub last : WikiScript
  -- Where the keeper tells its tables this is one run of the rules (`told_lives_are_one_run`).
  pub lives : Lives (is_some (told wiki.keeper)) wiki.start.limits (script_of wiki []) lines moments replies last
  pub given : GivesMoments left later moments
  pub points_are : points ≡ points_of replies
  pub handed_is : IsLeft last handed
  -- the keeper tells the tables of the last state, where it tells any
  pub tables : IfSome (told (keeper_left handed)) (λ tables. tables ≡ tables_of (all_given_back last).state)
  -- the keeper's count of faults rose at least so often
  pub failed : (n : ℕ) → StoreFaults replies n → risen (faults wiki.keeper) (n + more) ≤ faults (keeper_left handed)
  pub never_falls : faults wiki.keeper ≤ faults (keeper_left handed)
  pub whole : wiki.start.whole ≡ true → faults (keeper_left handed) ≡ faults wiki.keeper
  pub tells : is_some (told (keeper_left handed)) ≡ is_some (told wiki.keeper)

-- no reply tells of want of memory
abbrev pub HasMemory : ApiReply → Type 0
HasMemory reply = reply ≢ api_error nomemory reply.point

-- Where the keeper tells its tables and is whole, its count doesn't stand at the end of its type, and no reply tells of want
-- of memory, the replies are the rules' function of the lines and the moments, and so is the wiki that is handed back.
abbrev pub IsTheFunction : {K : Type 0} → (K → Option StoreTables) → (K → ℕ) → WikiSeen K → List (Option (List ℕ)) → List ℕ → List ApiReply → WikiScript → Type 0
IsTheFunction told faults wiki lines moments replies last =
    is_some (told wiki.keeper) ≡ true → wiki.start.whole ≡ true → faults wiki.keeper + 1 < 2 ^ 64 → AllByRecursion HasMemory replies
    → (replies ≡ wiki_script_replies wiki.start.limits (script_of wiki []) lines moments)
    × (all_given_back last ≡ script_end wiki.start.limits (script_of wiki []) lines moments)

-- All bytes of the input were read, to its end, and each of their lines was answered.
pub record IsWholeRun {K : Type 0} (told : K → Option StoreTables) (faults : K → ℕ) (wiki : WikiSeen K) (before after : Outside)
    (points : List ℕ) (handed : Result (WikiSeen K) K) : Type 0 where
  pub read : List ℕ
  pub consumed : Consumes before.rest after.rest read
  pub few : IsFew read
  pub ended : IsAtEnd after.rest
  pub replies : List ApiReply
  pub answered : Answered told faults wiki (lines max_line read) before.moments after.moments points 0 handed replies
  pub written : Appends before.taken after.taken (replies_text replies)
  pub function : IsTheFunction told faults wiki (lines max_line read) answered.moments replies answered.last

-- Some bytes of the input were read, and first lines of them were answered. What was written is a prefix of the replies.
-- Where the reading alone stopped the run, all lines that end with a newline were answered, and the replies written whole.
pub record IsCutRun {K : Type 0} (told : K → Option StoreTables) (faults : K → ℕ) (wiki : WikiSeen K) (before after : Outside)
    (points : List ℕ) (more : ℕ) (handed : Result (WikiSeen K) K) (by_reading : Type 0) (read : List ℕ) : Type 0 where
  pub done : List (Option (List ℕ))
  pub first : ReadsFirst before.rest after.rest read done
  pub replies : List ApiReply
  pub answered : Answered told faults wiki done before.moments after.moments points more handed replies
  pub written : AppendsPrefix before.taken after.taken (replies_text replies)
  pub all_answered : by_reading → AreWholeLines read done × Appends before.taken after.taken (replies_text replies)

-- so many faults of the store stand beside those that replies tell of, where it isn't opened anew for this cause
abbrev pub faults_of : LoadCause → ℕ
faults_of cause.StoreFault = 1
faults_of (cause.BadStore bad) = 0
faults_of cause.Memory = 0
