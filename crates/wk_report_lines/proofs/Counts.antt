-- A count that is one more.
use Rattle.std.proofs.Common.{◌≡◌, ℕ, ◌+◌, ◌≤◌, Bool, true, false, cond, List, [], ◌∷◌, Some, None, refl, ap, arith}
use Rattle.std.specs.Map.{lookup}
use Rattle.std.specs.Option.{unwrap_or}
use Rattle.indexmap.specs.IndexMap.{insert_entry}
use Rattle.wk_text_rules.specs.Titles.{PageTitle, title_eq}
use Rattle.wk_report_laws.specs.Tally.{tallied}

abbrev pub count_in : List (PageTitle × ℕ) → PageTitle → ℕ
count_in entries title = unwrap_or (lookup (title_eq title) entries) 0

-- a count that is put back one greater is counted once more
pub tallied-is : (entries : List (PageTitle × ℕ)) (title : PageTitle) → insert_entry title_eq entries title (count_in entries title + 1) ≡ tallied entries title
tallied-is [] title = refl
tallied-is (entry ∷ entries) title = by (title_eq title entry.0) (tallied-is entries title)
  where
    by : (b : Bool) → insert_entry title_eq entries title (count_in entries title + 1) ≡ tallied entries title
        → cond b ((entry.0, unwrap_or (cond b (Some entry.1) (lookup (title_eq title) entries)) 0 + 1) ∷ entries) (entry ∷ insert_entry title_eq entries title (unwrap_or (cond b (Some entry.1) (lookup (title_eq title) entries)) 0 + 1))
        ≡ cond b ((entry.0, entry.1 + 1) ∷ entries) (entry ∷ tallied entries title)
    by true later = refl
    by false later = ap (λ (rest : List (PageTitle × ℕ)). entry ∷ rest) later

-- no count is greater by more than one
pub tallied-near : (entries : List (PageTitle × ℕ)) (title other : PageTitle) → count_in (tallied entries title) other ≤ count_in entries other + 1
tallied-near [] title other = by (title_eq other title)
  where
    by : (b : Bool) → unwrap_or (cond b (Some 1) None) 0 ≤ 0 + 1
    by true = omega arith
    by false = omega arith
tallied-near (entry ∷ entries) title other = by (title_eq title entry.0) (tallied-near entries title other)
  where
    here : (o : Bool) → unwrap_or (cond o (Some (entry.1 + 1)) (lookup (title_eq other) entries)) 0 ≤ unwrap_or (cond o (Some entry.1) (lookup (title_eq other) entries)) 0 + 1
    here true = omega arith
    here false = omega arith

    later : (o : Bool) → count_in (tallied entries title) other ≤ count_in entries other + 1 → unwrap_or (cond o (Some entry.1) (lookup (title_eq other) (tallied entries title))) 0 ≤ unwrap_or (cond o (Some entry.1) (lookup (title_eq other) entries)) 0 + 1
    later true near = omega arith
    later false near = near

    by : (b : Bool) → count_in (tallied entries title) other ≤ count_in entries other + 1 → unwrap_or (lookup (title_eq other) (cond b ((entry.0, entry.1 + 1) ∷ entries) (entry ∷ tallied entries title))) 0 ≤ unwrap_or (lookup (title_eq other) (entry ∷ entries)) 0 + 1
    by true near = here (title_eq other entry.0)
    by false near = later (title_eq other entry.0) near
