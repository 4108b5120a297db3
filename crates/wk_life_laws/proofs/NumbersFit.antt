-- The numbers that a save and a fan come to.
use Rattle.std.proofs.Common.{◌≡◌, ℕ, zero, suc, ◌+◌, ◌≤◌, ◌<◌, ◌^◌, false, List, [], ◌∷◌, length, take, map, Option, None, sym, ap, ◌∙◌, arith}
use Rattle.std.specs.Prelude.{filter, is_some, nat_lt, ◌&&◌}
use Rattle.std.specs.List.{enumerate_from, list_any}
use Rattle.wk_text_rules.specs.Titles.{PageTitle, title_eq}
use Rattle.wk_page_rules.specs.History.{Page, page_number}
use Rattle.wk_page_rules.specs.Verdict.{EditAsked, MostHeld, accept, max_pages}
use Rattle.wk_page_rules.specs.PageRows.{PageRows, names}
use Rattle.wk_wiki_rules.specs.Jobs.{FanEntry}
use Rattle.wk_wiki_rules.specs.Steps.{fan_pages, next_served}
use Rattle.wk_wiki_rules.specs.Users.{users}
use Rattle.wk_wiki_rules.specs.States.{State}
use Rattle.wk_wiki_rules.specs.Verdicts.{verdict_in}
use Rattle.wk_wiki_laws.specs.Reached.{IsWithinFull}
use Rattle.wk_wiki_laws.proofs.Formed.{numbered}
use Rattle.wk_wiki_laws.proofs.KeptStates.{accepted}
use Rattle.wk_wiki_rules.specs.Room.{is_fan_refused}
use Rattle.wk_wiki_laws.proofs.NumberBounds.{next-at-a-fan, next-at-a-save}

-- ---- a save

pub pages_fit : (most : MostHeld) (state : State) (point : ℕ) (edit : EditAsked) (title : PageTitle) (text : Option (List ℕ)) → IsWithinFull most → verdict_in most state point edit ≡ accept title text
    → page_number state.history title ≡ None → length state.history.pages < max_pages
pages_fit most state point edit title text full is new =
    let leaves = accepted most full state point edit title text is in
    let none : list_any (λ (page : Page). title_eq page.title title) state.history.pages ≡ false = sym (numbered title 0 state.history.pages) ∙ ap is_some new in
    let fits = leaves.pages none in
    omega (arith, fits)

pub save_numbers_fit : (most : MostHeld) (state : State) (point : ℕ) (edit : EditAsked) (title : PageTitle) (text : Option (List ℕ)) → verdict_in most state point edit ≡ accept title text → state.jobs.next + 1 < 2 ^ 63
save_numbers_fit most state point edit title text is = let low = next-at-a-save most state point edit title text is in omega (arith, low)

-- ---- a fan

few : {X : Type 0} (most : ℕ) (xs : List X) → length (take most xs) ≤ most
few zero xs = omega arith
few (suc most) [] = omega arith
few (suc most) (x ∷ xs) = let later = few most xs in omega (arith, later)

pub served_fit : (stored : List PageRows) (most : ℕ) (fan : FanEntry) → length (next_served stored most fan) ≤ most
unfolding users
served_fit stored most fan = few most (map (λ (page : ℕ × PageRows). page.0) (filter (λ (page : ℕ × PageRows). nat_lt fan.cursor page.0 && names page.1 fan.title fan.reach) (enumerate_from 1 stored)))

pub fan_numbers_fit : (most : MostHeld) (state : State) (point served : ℕ) → is_fan_refused most state point ≡ false → served ≤ fan_pages → state.jobs.next + served ≤ 2 ^ 63
fan_numbers_fit most state point served free short = let low = next-at-a-fan most state point free in omega (arith, low, short)
