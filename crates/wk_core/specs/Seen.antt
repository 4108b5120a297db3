-- What a wiki is seen as (own).
use Rattle.std.specs.Prelude.{◌≡◌, ℕ, Bool, true, false, List, Option, None, Some, IfSome, is_some, length}
use Rattle.wk_page_rules.specs.Verdict.{EditAsked, Verdict}
use Rattle.wk_table_rules.specs.Rows.{StoreTables}
use Rattle.wk_wiki_rules.specs.States.{State}
use Rattle.wk_wiki_rules.specs.Events.{Event}
use Rattle.wk_wiki_rules.specs.Tables.{tables_of}
use Rattle.wk_wiki_rules.specs.Verdicts.{verdict_in}
use Rattle.wk_wiki_rules.specs.Room.{is_claim_refused, is_fan_refused}
use Rattle.wk_wiki_rules.specs.Starts.{Start}
use Rattle.wk_life_laws.specs.Lives.{Life, start_of, journal_of}

pub record WikiSeen (K : Type 0) : Type 0 where
  -- how it began
  pub start : Start
  -- what has happened since
  pub journal : List Event
  -- what it is now: what the journal makes of the start
  pub state : State
  -- what keeps its tables
  pub keeper : K

-- how often a keeper has failed, where it is whole
abbrev pub failed_where : Bool → ℕ → Option ℕ
failed_where true count = Some count
failed_where false count = None

-- what is seen of a wiki that keeps this, with this keeper
abbrev pub seen : {K : Type 0} → (K → Bool) → (K → Option StoreTables) → (K → ℕ) → Life → K → WikiSeen K
seen is_whole told faults life keeper = record {
  start = record (start_of life) { whole = is_whole keeper; tells = is_some (told keeper); failed = failed_where (is_whole keeper) (faults keeper) };
  journal = journal_of life;
  state = life.state;
  keeper = keeper;
}

-- the verdict on an edit now
abbrev pub verdict_now : {K : Type 0} → WikiSeen K → EditAsked → Verdict
verdict_now wiki edit = verdict_in wiki.start.limits wiki.state (length wiki.journal) edit

-- the journal has no room for a claim now, or for a fan
abbrev pub is_claim_refused_now : {K : Type 0} → WikiSeen K → Bool
is_claim_refused_now wiki = is_claim_refused wiki.start.limits wiki.state (length wiki.journal)

abbrev pub is_fan_refused_now : {K : Type 0} → WikiSeen K → Bool
is_fan_refused_now wiki = is_fan_refused wiki.start.limits wiki.state (length wiki.journal)

-- a keeper that tells its tables has those of the state
abbrev pub IsTold : {K : Type 0} → (K → Option StoreTables) → State → K → Type 0
IsTold told state keeper = IfSome (told keeper) (λ tables. tables ≡ tables_of state)
