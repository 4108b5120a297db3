-- Shapes at places of a text.
use Rattle.std.specs.Prelude.{◌≡◌, ℕ, zero, suc, ◌+◌, ◌<◌, ◌≤◌, Bool, List, length, drop, slice_get, Option, Some, None, option_map, IfSome, MatchOption}
use Rattle.std.specs.List.{prefix_len}
use Rattle.wk_text_rules.specs.Shapes.{Shape, exactly}

-- where the part of a shape that begins at a place ends, or that none begins there
pub record EndsAt (shape : Shape ℕ) (text : List ℕ) (at : ℕ) (end : Option ℕ) : Type 0 where
  pub fits : shape (drop at text) ≡ option_map (λ n. drop n text) end
  pub within : IfSome end (λ n. (at < n) × (n ≤ length text))

-- where the longest run of bytes that pass a test ends, which may have none
pub record RunEndsAt (test : ℕ → Bool) (text : List ℕ) (at end : ℕ) : Type 0 where
  pub fits : drop (prefix_len test (drop at text)) (drop at text) ≡ drop end text
  pub within : (at ≤ end) × (end ≤ length text)

-- no part of a shape begins at a place from one place up to another
abbrev pub IsNowhereBetween : Shape ℕ → List ℕ → ℕ → ℕ → Type 0
IsNowhereBetween shape text from to = (at : ℕ) → from ≤ at → at < to → shape (drop at text) ≡ None

-- no part of a shape begins at a place from this one on
abbrev pub IsNowhereFrom : Shape ℕ → List ℕ → ℕ → Type 0
IsNowhereFrom shape text from = (at : ℕ) → from ≤ at → shape (drop at text) ≡ None

-- the nearest place from one on at which a word stands
pub record IsNearestPlace (word text : List ℕ) (from place : ℕ) : Type 0 where
  pub behind : from ≤ place
  pub before : IsNowhereBetween (exactly word) text from place
  pub stands : EndsAt (exactly word) text place (Some (place + length word))

-- that place, or that there is none
abbrev pub IsNearest : List ℕ → List ℕ → ℕ → Option ℕ → Type 0
IsNearest word text from found = MatchOption found (IsNowhereFrom (exactly word) text from) (IsNearestPlace word text from)

-- the byte before a place, if there is one
abbrev pub byte_before : ℕ → List ℕ → Option ℕ
byte_before zero text = None
byte_before (suc at) text = slice_get text at
