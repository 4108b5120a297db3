-- The journal that a call leaves, and the states at its points.
use Rattle.std.proofs.Common.{◌≡◌, ℕ, suc, ◌+◌, List, [], ◌∷◌, ◌++◌, length, take, Option, Some, None, sym, ap, ◌∙◌, subst, arith}
use Rattle.std.specs.Prelude.{option_to_list, slice_get}
use Rattle.std.proofs.lemmas.List.{append-nil}
use Rattle.std.proofs.Math.Seq.{take-append_seam, take-length}
use mathlib.Core.List.{IsPrefix}
use Rattle.wk_table_rules.specs.Rows.{StoreTables}
use Rattle.wk_wiki_rules.specs.States.{State}
use Rattle.wk_wiki_rules.specs.Events.{Event}
use Rattle.wk_wiki_rules.specs.Lives.{replay, state_at}
use Rattle.wk_wiki_rules.specs.Entries.{closes}
use Rattle.wk_wiki_rules.specs.Starts.{Start}
use Rattle.wk_core.specs.Seen.{WikiSeen}
use Rattle.wk_core.specs.Steps.{HasMadeAtMost}
use Rattle.wk_turn.specs.Journal.{ClosesOwn}
use Rattle.wk_turn.specs.Told.{Story}
use Rattle.wk_turn.proofs.Closing.{adds_none, adds_one}
use Rattle.wk_shared.specs.Calls.{state_by}
use Rattle.wk_shared.specs.Desk.{ClosesOpen}

-- what `leave` asks of the entries, where at most one was added
pub closes-asked : (before after : List Event) (own : List ℕ) (event : Option Event) → after ≡ before ++ option_to_list event → ClosesOpen before own event → ClosesOwn closes before after own
closes-asked before after own None is opened = subst (λ (l : List Event). ClosesOwn closes before l own) (sym (is ∙ append-nil before)) (adds_none closes before own)
closes-asked before after own (Some event) is opened = subst (λ (l : List Event). ClosesOwn closes before l own) (sym is) (adds_one closes before event own opened)

module _ {K : Type 0} (told : K → Option StoreTables) (old new : WikiSeen K) where
  pub journal-made : (event : Option Event) → HasMadeAtMost told old new event → new.journal ≡ old.journal ++ option_to_list event
  journal-made None made = ap (λ (w : WikiSeen K). w.journal) made.wiki ∙ sym (append-nil old.journal)
  journal-made (Some event) made = made.journal

  pub start-made : (event : Option Event) → HasMadeAtMost told old new event → new.start ≡ old.start
  start-made None made = ap (λ (w : WikiSeen K). w.start) made.wiki
  start-made (Some event) made = made.start

-- ---- states at points

-- the state that a pass has seen last is that at the same point of a longer journal
pub state-later : (start : Start) (pass : Story Start Event) (journal : List Event) (state : State) → IsPrefix pass.seen journal → state_by start pass (length pass.seen) ≡ Some state → state_at start.state journal (length pass.seen) ≡ Some state
state-later start pass journal state begins seen =
    let here : take (length pass.seen) journal ≡ pass.seen = ap (take (length pass.seen)) (sym begins.1) ∙ take-append_seam pass.seen begins.0 in
    ap (replay start.state) (here ∙ sym (take-length pass.seen)) ∙ seen

-- the state at the end of a beginning of what a pass has seen
pub state-within : (start : Start) (pass : Story Start Event) (journal rest : List Event) (state : State) → pass.seen ≡ journal ++ rest → replay start.state journal ≡ Some state → state_by start pass (length journal) ≡ Some state
state-within start pass journal rest state is replayed =
    let here : take (length journal) pass.seen ≡ journal = ap (take (length journal)) is ∙ take-append_seam journal rest in
    ap (replay start.state) here ∙ replayed

-- what stands behind a list
pub get-behind : {X : Type 0} (xs ys : List X) (k : ℕ) → slice_get (xs ++ ys) (length xs + k) ≡ slice_get ys k
get-behind [] ys k = let same : 0 + k ≡ k = omega arith in ap (slice_get ys) same
get-behind (x ∷ xs) ys k =
    let next : length (x ∷ xs) + k ≡ suc (length xs + k) = omega arith in
    ap (slice_get (x ∷ (xs ++ ys))) next ∙ get-behind xs ys k
