-- How an output is kept: all its bytes as one text, and the lengths and marks of its runs.
use Rattle.std.specs.Prelude.{ℕ, ◌≤◌, ◌≡◌, Bool, true, false, List, [], ◌∷◌, ◌++◌, length, take, drop, if◌then◌else◌, zero, suc}
use Rattle.std.specs.Bool.{beq}
use Rattle.wk_text_rules.specs.Blank.{trimmed_start, trimmed_end}
use Rattle.wk_out.specs.Runs.{AreMaximal, AreTexts}
use Rattle.wk_out.specs.declared.run.Run.{Run}

-- the runs that a text is cut into
abbrev pub cut : List ℕ → List Run → List (List ℕ × Bool)
cut text [] = []
cut text (run ∷ runs) = (take run.len text, run.sealed) ∷ cut (drop run.len text) runs

-- the runs of a text of so many bytes, for which no list is written where all of it is plain
abbrev pub plain_run : ℕ → List Run
plain_run zero = []
plain_run (suc n) = record { len = suc n; sealed = false } ∷ []

abbrev pub listed : ℕ → List Run → List Run
listed n [] = plain_run n
listed n (run ∷ runs) = run ∷ runs

-- the lengths of the runs add up to the text's
abbrev pub Covers : List ℕ → List Run → Type 0
Covers text [] = length text ≡ 0
Covers text (run ∷ runs) = (run.len ≤ length text) × Covers (drop run.len text) runs

-- a text and its runs are what is kept of an output
pub record IsKept (text : List ℕ) (runs : List Run) : Type 0 where
  pub covers : Covers text runs
  pub maximal : AreMaximal (cut text runs)
  pub utf8 : AreTexts (cut text runs)

-- runs, and behind the first of them one more: as a part of the last one where their marks are the same
abbrev pub with_run_behind : List ℕ × Bool → List (List ℕ × Bool) → List ℕ × Bool → List (List ℕ × Bool)
with_run_behind run [] new =
    if beq run.1 new.1 then (run.0 ++ new.0, run.1) ∷ [] else run ∷ new ∷ []
with_run_behind run (next ∷ runs) new = run ∷ with_run_behind next runs new

-- runs, and behind them one more
abbrev pub with_run : List (List ℕ × Bool) → List ℕ × Bool → List (List ℕ × Bool)
with_run [] new = new ∷ []
with_run (run ∷ runs) new = with_run_behind run runs new

-- runs, and behind them some more
abbrev pub with_runs : List (List ℕ × Bool) → List (List ℕ × Bool) → List (List ℕ × Bool)
with_runs runs [] = runs
with_runs runs (new ∷ others) = with_run runs new ++ others

-- the text of a run, without the blank bytes at the front or at the end where it is plain
abbrev pub without_blank_start : Bool → List ℕ → List ℕ
without_blank_start true text = text
without_blank_start false text = trimmed_start text

abbrev pub without_blank_end : Bool → List ℕ → List ℕ
without_blank_end true text = text
without_blank_end false text = trimmed_end text
