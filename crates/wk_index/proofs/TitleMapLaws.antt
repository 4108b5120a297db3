-- A map of titles with one more.
use Rattle.std.proofs.Common.{◌≡◌, ℕ, ℤ, true, cond, List, [], Some, None, sym, ap, ◌∙◌, inl, inr}
use Rattle.std.specs.BTreeMap.{BTreeMap, get}
use Rattle.std.specs.Map.{lookup}
use Rattle.std.specs.Ordering.{is_eq}
use Rattle.std.proofs.lemmas.Bool.{cases_Bool}
use Rattle.wk_text_rules.specs.Titles.{PageTitle}
use Rattle.wk_good_rows.proofs.Sets.{same-title}
use Rattle.wk_index.specs.TitleMap.{AreTitles, place_cmp}
use Rattle.wk_index.proofs.TitleLaws.{title_eq-true}

abbrev pub title_at : ℤ × List ℕ → PageTitle
title_at place = record { ns = place.0; key = place.1 }

-- places that the order finds the same
place-same : (a b : ℤ × List ℕ) → is_eq (place_cmp a b) ≡ true → title_at a ≡ title_at b
place-same a b same = sym (title_eq-true (title_at b) (title_at a) (sym (same-title (title_at a) (title_at b)) ∙ same))

pub AreTitles-more : (old new : BTreeMap (ℤ × List ℕ) PageTitle) (place : ℤ × List ℕ) (made : PageTitle)
    → ((q : ℤ × List ℕ) → get place_cmp new q ≡ cond (is_eq (place_cmp place q)) (Some made) (get place_cmp old q)) → made ≡ title_at place → AreTitles old → AreTitles new
AreTitles-more old new place made updates is titles q title found =
    elim (cases_Bool (is_eq (place_cmp place q))) [
      | inl same ↦
          let here : Some made ≡ Some title = sym (ap (λ b. cond b (Some made) (get place_cmp old q)) same) ∙ sym (updates q) ∙ found in
          let one : made ≡ title = cc in
          sym one ∙ is ∙ place-same place q same
      | inr apart ↦ titles q title (sym (ap (λ b. cond b (Some made) (get place_cmp old q)) apart) ∙ sym (updates q) ∙ found)
    ]

pub AreTitles-none : (titles : BTreeMap (ℤ × List ℕ) PageTitle) → titles.entries ≡ [] → AreTitles titles
AreTitles-none titles none place title found =
    absurd (let fails : None ≡ Some title = sym (ap (lookup (λ k. is_eq (place_cmp place k))) none) ∙ found in cc)
