-- A text of ASCII, and what one pass over its bytes leaves.
use Rattle.std.specs.Prelude.{◌≡◌, ℕ, ℤ, Bool, true, false, ◌&&◌, ◌||◌, ◌==◌, not, nat_le, List, [], ◌∷◌, codes, if◌then◌else◌}
use Rattle.std.specs.Char.{is_ascii, is_ascii_alphabetic}
use Rattle.std.specs.List.{before_first, list_all, list_any}
use Rattle.wk_text_rules.specs.Titles.{is_colon, squeezed}
use Rattle.wk_title.specs.Placed.{placed_key}

-- a byte of ASCII of which no rule speaks, but the rule of the first letter and the names of the namespaces
abbrev pub is_plain : ℕ → Bool
is_plain c =
    is_ascii_alphabetic c || ((nat_le 33 c && nat_le c 34) || (c == 36 || ((nat_le 39 c && nat_le c 45) || ((nat_le 47 c && nat_le c 57) || list_any (λ d. c == d) (codes ";=?@\\^`")))))

-- a plain byte, a colon or an underscore: no rule of what a key can't be looks for it, but for a colon at the front
abbrev pub is_sound : ℕ → Bool
is_sound c = is_plain c || (c == 58 || c == 95)

-- what stands before a word that follows another one
abbrev pub gap : Bool → List ℕ
gap is_further = if is_further then 95 ∷ [] else []

-- the words of what stands before the first `#`
pub record IsSqueezed (text words : List ℕ) (has_colon is_dubious : Bool) : Type 0 where
  pub words_are : words ≡ squeezed (before_first (λ c. c == 35) text)
  pub colon : list_any is_colon words ≡ has_colon
  pub sound : list_all is_sound words ≡ not is_dubious

-- the key that a text leaves
pub record IsAsciiKey (text : List ℕ) (default_ns ns : ℤ) (key : List ℕ) (is_dubious : Bool) : Type 0 where
  pub placed : (ns, key) ≡ placed_key text default_ns
  pub ascii : list_all is_ascii key ≡ true
  pub sound : is_dubious ≡ false → list_all is_sound key ≡ true
