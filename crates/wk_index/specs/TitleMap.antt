-- Titles by the number of their namespace and their key.
use Rattle.std.specs.Prelude.{◌≡◌, ℕ, ℤ, List, Some}
use Rattle.std.specs.BTreeMap.{BTreeMap, get}
use Rattle.std.specs.Cmp.Lexicographic.{slice_cmp}
use Rattle.std.specs.Ordering.{int_cmp, nat_cmp, ordering_then}
use Rattle.std.specs.declared.cmp.Ordering.{Ordering}
use Rattle.wk_text_rules.specs.Titles.{PageTitle}

abbrev pub place_cmp : ℤ × List ℕ → ℤ × List ℕ → Ordering
place_cmp a b = ordering_then (int_cmp a.0 b.0) (slice_cmp nat_cmp a.1 b.1)

-- at the number of a namespace and a key stands the title of the two, if any
abbrev pub AreTitles : BTreeMap (ℤ × List ℕ) PageTitle → Type 0
AreTitles titles = (place : ℤ × List ℕ) (title : PageTitle) → get place_cmp titles place ≡ Some title → title ≡ record { ns = place.0; key = place.1 }
