-- Trees that are kept by their texts.
use Rattle.std.proofs.Common.{◌≡◌, ℕ, ◌≤◌, Bool, true, List, [], ◌∷◌, length, slice_get, is_some, Some, inl, inr, refl, sym, ap, subst, ◌∙◌}
use Rattle.std.specs.Prelude.{◌&&◌, eqb}
use Rattle.std.proofs.lemmas.Slice.Eq.{bytes_eq-Decides}
use Rattle.wk_view_laws.proofs.PlanLemmas.{both_parts}
use Rattle.wk_tree_rules.specs.declared.Mode.{Mode}
use Rattle.wk_tree_rules.specs.declared.Mode.TheVariants.{View, Include}
use Rattle.wk_tree_rules.specs.contracts.Mode.{the_type}
use lib.Pointwise.{pointwise}
use denote.Enum.Bare.{sameb}
use Rattle.std.specs.Map.{lookup, lookup_entry}
use Rattle.std.proofs.lemmas.Bool.{cases_Bool}
use Rattle.lru.specs.LruCache.{LruCache, promoted, put_entries}
use Rattle.lru.proofs.CallerLemmas.{Contains-lookup_entry, Contains-promoted, Contains-put_entries}
use Rattle.wk_tree.specs.Parsed.{ParsedText}
use Rattle.wk_expand.specs.Trees.{AreKept, most_bytes, parsed_text}
use Rattle.wk_expand.specs.declared.trees.Reading.{Reading}

abbrev pub entries_of : LruCache Reading ParsedText → List (Reading × ParsedText)
entries_of cache = cache.entries

-- the keys that pass are of the same text, in the same mode
abbrev pub Finds : Reading → (Reading → Bool) → Type 0
Finds key test = (k : Reading) → test k ≡ true → parsed_text k ≡ parsed_text key

pub kept-promoted : (test : Reading → Bool) (entries : List (Reading × ParsedText)) → AreKept entries → AreKept (promoted test entries)
kept-promoted test entries h = λ e c. h e (Contains-promoted test entries e c)

found-entry : (test : Reading → Bool) (entries : List (Reading × ParsedText)) → is_some (lookup test entries) ≡ true → (e : Reading × ParsedText) × (lookup_entry test entries ≡ Some e)
found-entry test [] h = cc
found-entry test (e ∷ entries) h = elim (cases_Bool (test e.0)) [
  | inl there ↦ (e, rw there refl)
  | inr missing ↦ let later = found-entry test entries (rw missing at h) in (later.0, rw missing later.1)
]

-- what is found and goes first is the tree of the key
pub front-found : (key : Reading) (test : Reading → Bool) (entries : List (Reading × ParsedText)) (e : Reading × ParsedText) → AreKept entries → Finds key test → is_some (lookup test entries) ≡ true → slice_get (promoted test entries) 0 ≡ Some e → e.1 ≡ parsed_text key
front-found key test entries e h finds there first =
    let f = found-entry test entries there in
    let front : Some f.0 ≡ Some e = rw f.1 at first in
    let same : f.0 ≡ e = cc in
    let was = Contains-lookup_entry test entries f.0 f.1 in
    subst (λ (x : Reading × ParsedText). x.1 ≡ parsed_text key) same ((h f.0 was.0).tree ∙ finds f.0.0 was.1)

pub kept-put : (eq : Reading → Reading → Bool) (cache : LruCache Reading ParsedText) (key : Reading) (tree : ParsedText) → AreKept cache.entries → Finds key (eq key) → tree ≡ parsed_text key → length key.text ≤ most_bytes → AreKept (put_entries eq cache key tree)
kept-put eq cache key tree h finds is short = λ e c. elim (Contains-put_entries eq cache key tree e c) [
  | inl before ↦ h e before
  | inr put ↦ elim put.1 [
    | inl same ↦ record { tree = put.0 ∙ is ∙ ap parsed_text (sym same); short = subst (λ (k : Reading). length k.text ≤ most_bytes) (sym same) short }
    | inr other ↦ record { tree = put.0 ∙ is ∙ sym (finds e.0 other.2); short = (h (e.0, other.0) other.1).short }
  ]
]

abbrev parsed : Mode → List ℕ → ParsedText
parsed mode text = record { mode = mode; text = text }

sameb-true : (a b : Mode) → sameb the_type a b ≡ true → a ≡ b
sameb-true View View e = refl
sameb-true Include Include e = refl
sameb-true View Include e = cc
sameb-true Include View e = cc

-- the derived test of keys
abbrev pub reading_eq : Reading → Reading → Bool
reading_eq key k = eqb key.code k.code && (sameb the_type key.mode k.mode && pointwise eqb key.text k.text)

pub reading-same : (key k : Reading) → reading_eq key k ≡ true → parsed_text k ≡ parsed_text key
reading-same key k e =
    let last = both_parts (eqb key.code k.code) (sameb the_type key.mode k.mode && pointwise eqb key.text k.text) e in
    let parts = both_parts (sameb the_type key.mode k.mode) (pointwise eqb key.text k.text) last.1 in
    let mode_is : k.mode ≡ key.mode = sym (sameb-true key.mode k.mode parts.0) in
    let text_is : k.text ≡ key.text = sym ((bytes_eq-Decides key.text k.text).0 parts.1) in
    ap (λ m. parsed m k.text) mode_is ∙ ap (parsed key.mode) text_is
