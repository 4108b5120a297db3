-- Lemmas on titles.
use Rattle.std.proofs.Common.{◌≡◌, ℕ, List, true, sym, inl, inr}
use Rattle.std.proofs.lemmas.Bool.{cases_Bool}
use Rattle.std.proofs.lemmas.List.Sums.{AllPass-from_list_all}
use Rattle.std.specs.Char.{is_ascii}
use Rattle.std.specs.List.{list_all}
use borrow.Author.Tests.{ltb-true}
use Rattle.unicode_normalization.specs.Forms.{nfc}
use Rattle.unicode_normalization.specs.Forms.{Nfc}
use Rattle.unicode_normalization.proofs.FormsLemmas.{normalize-ascii}
use Rattle.wk_text_rules.specs.Titles.{to_nfc}

-- the form keeps a text of ASCII
pub nfc-ascii : (cs : List ℕ) → list_all is_ascii cs ≡ true → nfc cs ≡ cs
nfc-ascii cs ascii = normalize-ascii Nfc cs (λ k d within. ltb-true _ _ (AllPass-from_list_all is_ascii cs ascii k d within))

pub to_nfc-is : (cs : List ℕ) → to_nfc cs ≡ nfc cs
unfolding to_nfc
to_nfc-is cs = elim (cases_Bool (list_all is_ascii cs)) [
  | inl ascii ↦ rw ascii (sym (nfc-ascii cs ascii))
  | inr other ↦ rw other
]
