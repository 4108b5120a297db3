-- The rows of a page stand one place before its number.
use Rattle.std.proofs.Common.{◌≡◌, ℕ, zero, suc, ◌-◌, ◌<◌, Bool, false, cond, eqb, List, Option, Some, None, sym, ap, ◌∙◌, arith}
use Rattle.std.specs.Prelude.{slice_get}
use Rattle.std.proofs.lemmas.Bool.{ne_eqb}
use Rattle.wk_text_rules.specs.Titles.{PageTitle}
use Rattle.wk_page_rules.specs.PageRows.{PageRows}
use Rattle.wk_index.specs.declared.named.Kind.{Kind}
use Rattle.wk_index.specs.Named.{lists, page_lists, rows_at}

-- whether rows, if any, have the title
abbrev pub by : Kind → Option PageRows → PageTitle → Bool
by kind o title = elim o [ None ↦ false | Some rows ↦ lists kind rows title ]

pub rows-at : (stored : List PageRows) (place : ℕ) → rows_at stored (suc place) ≡ slice_get stored place
rows-at stored place =
    let apart : eqb (suc place) 0 ≡ false = ne_eqb (suc place) 0 (λ e. omega arith) in
    let back : suc place - 1 ≡ place = omega arith in
    ap (λ b. cond b None (slice_get stored (suc place - 1))) apart ∙ ap (slice_get stored) back

pub lists-at : (kind : Kind) (stored : List PageRows) (title : PageTitle) (place : ℕ) → page_lists kind stored title (suc place) ≡ by kind (slice_get stored place) title
lists-at kind stored title place = ap (λ o. by kind o title) (rows-at stored place)

-- the place of a number that isn't 0
pub rows-before : (stored : List PageRows) (page : ℕ) → 0 < page → rows_at stored page ≡ slice_get stored (page - 1)
rows-before stored zero positive = absurd (omega arith)
rows-before stored (suc place) positive =
    let back : suc place - 1 ≡ place = omega arith in
    rows-at stored place ∙ ap (slice_get stored) (sym back)
