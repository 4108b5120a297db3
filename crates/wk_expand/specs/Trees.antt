-- Parsed texts that are kept.
use Rattle.std.specs.Prelude.{◌≡◌, ℕ, ◌≤◌, List, length, Option, Some, None, Contains}
use Rattle.lru.specs.LruCache.{LruCache}
use Rattle.wk_tree.specs.Parsed.{ParsedText}
use Rattle.wk_tree_rules.specs.declared.Mode.{Mode}
use Rattle.wk_expand.specs.declared.trees.Reading.{Reading}

-- how many bytes a text has at most whose tree is kept (own)
abbrev pub most_bytes : ℕ
most_bytes = 65536

abbrev pub parsed_text : Reading → ParsedText
parsed_text key = record { mode = key.mode; text = key.text }

-- a key is of this text, which is read in this mode
pub record IsKeyOf (key : Reading) (mode : Mode) (text : List ℕ) : Type 0 where
  pub mode_is : key.mode ≡ mode
  pub text_is : key.text ≡ text

-- The tree that is kept for a key is that of its text, in its mode; and the text isn't long.
pub record IsKeptTree (e : Reading × ParsedText) : Type 0 where
  pub tree : e.1 ≡ parsed_text e.0
  pub short : length e.0.text ≤ most_bytes

abbrev pub AreKept : List (Reading × ParsedText) → Type 0
AreKept entries = (e : Reading × ParsedText) → Contains entries e → IsKeptTree e

-- At most so many trees are kept: a cache has no more entries than its capacity.
abbrev pub IsWithin : ℕ → Option (LruCache Reading ParsedText) → Type 0
IsWithin most None = most ≡ 0
IsWithin most (Some cache) = (cache.cap ≡ most) × AreKept cache.entries
