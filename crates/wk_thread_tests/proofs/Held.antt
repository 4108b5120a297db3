-- A pass that takes the wiki and gives it back as it was.
use Rattle.std.proofs.Common.{◌≡◌, ℕ, List, ◌++◌, None, sym, ap, ◌∙◌, subst}
use Rattle.std.proofs.lemmas.List.{append-nil}
use mathlib.Core.List.{IsPrefix}
use Rattle.wk_wiki_rules.specs.Events.{Event}
use Rattle.wk_wiki_rules.specs.Entries.{closes}
use Rattle.wk_wiki_rules.specs.Starts.{Start}
use Rattle.wk_core.specs.Seen.{WikiSeen}
use Rattle.wk_turn.specs.Journal.{ClosesOwn, added}
use Rattle.wk_turn.specs.Told.{Story}
use Rattle.wk_turn.proofs.Closing.{added_none, adds_none}
use Rattle.wk_turn.proofs.Lists.{prefix_self}

-- ---- what is asked where the wiki is given back as it was taken

module _ {K : Type 0} (before after : WikiSeen K) (same : before ≡ after) where
  pub begins-it : IsPrefix before.journal after.journal
  begins-it = subst (λ (w : WikiSeen K). IsPrefix w.journal after.journal) (sym same) (prefix_self after.journal)

  pub closes-nothing : (own : List ℕ) → ClosesOwn closes before.journal after.journal own
  closes-nothing own = subst (λ (w : WikiSeen K). ClosesOwn closes w.journal after.journal own) (sym same) (adds_none closes after.journal own)

  -- the pass owns what it owned
  pub left-as-before : (old new : Story Start Event) → new ≡ record old { seen = after.journal; own = old.own ++ added before.journal after.journal; held = None }
      → new ≡ record old { seen = after.journal; held = None }
  left-as-before old new left =
      let none : old.own ++ added before.journal after.journal ≡ old.own =
      subst (λ (w : WikiSeen K). old.own ++ added w.journal after.journal ≡ old.own) (sym same) (ap (λ (l : List ℕ). old.own ++ l) (added_none after.journal) ∙ append-nil old.own) in
      left ∙ ap (λ (own : List ℕ). let p : Story Start Event = record old { seen = after.journal; own = own; held = None } in p) none
