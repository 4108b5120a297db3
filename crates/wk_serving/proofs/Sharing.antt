-- Wikis that were shared and taken back.
use Rattle.std.proofs.Common.{◌≡◌, ℕ, List, length, Option, None, Some, sym, ap, ◌∙◌, subst}
use Rattle.std.specs.Prelude.{unwrap_or}
use mathlib.Core.List.{IsPrefix}
use Rattle.wk_wiki_rules.specs.Events.{Event}
use Rattle.wk_wiki_rules.specs.Starts.{Start}
use Rattle.wk_turn.proofs.Lists.{prefix_self, prefix_trans}
use Rattle.wk_core.specs.Seen.{WikiSeen}
use Rattle.wk_tool_laws.specs.Sealed.{IsSealedAt}
use Rattle.wk_serving.specs.Returns.{ComesBack}

module _ {K : Type 0} (old new : WikiSeen K) where
  -- the passes of all who had it have seen no more than it has now
  pub came-back : (start : Start) (first last : List Event) → start ≡ old.start → first ≡ old.journal → IsPrefix first last → new.start ≡ start → IsPrefix last new.journal → ComesBack old new
  came-back start first last began seen more same later = record {
    start = same ∙ began;
    journal = prefix_trans old.journal last new.journal (subst (λ j. IsPrefix j last) seen more) later;
  }

  -- it wasn't shared
  pub not-shared : new ≡ old → ComesBack old new
  not-shared is = record {
    start = ap (λ (w : WikiSeen K). w.start) is;
    journal = subst (λ (w : WikiSeen K). IsPrefix old.journal w.journal) (sym is) (prefix_self old.journal);
  }

-- a wiki that was sealed
abbrev pub sealed_now : {K : Type 0} → WikiSeen K → WikiSeen K
sealed_now wiki = record wiki { start = record wiki.start { sealed = Some (unwrap_or wiki.start.sealed (length wiki.journal)) } }

module _ {K : Type 0} (old sealed new : WikiSeen K) (unsealed : old.start.sealed ≡ None) (is : sealed ≡ sealed_now old) where
  sealed-start : sealed.start ≡ record old.start { sealed = Some (length old.journal) }
  sealed-start = ap (λ (w : WikiSeen K). w.start) is ∙ ap (λ (s : Option ℕ). record old.start { sealed = Some (unwrap_or s (length old.journal)) }) unsealed

  sealed-journal : sealed.journal ≡ old.journal
  sealed-journal = ap (λ (w : WikiSeen K). w.journal) is

  pub sealed-back : ComesBack sealed new → IsSealedAt old.start new.start old.journal new.journal
  sealed-back back = record {
    start = back.start ∙ sealed-start;
    journal = subst (λ j. IsPrefix j new.journal) sealed-journal back.journal;
  }
