-- An edit is refused as a conflict exactly where it is in conflict.
use Rattle.std.proofs.Common.{◌≡◌, ◌≢◌, ℕ, Bool, true, false, cond, eqb, ltb, not, ◌&&◌, ◌||◌, List, Option, Some, None, refl, sym, ap, ◌∙◌}
use Rattle.std.specs.Prelude.{option_map, is_none}
use Rattle.std.proofs.lemmas.Bool.{ltb-false, le-ltb, eq-eqb, ne_eqb}
use Rattle.wk_text_rules.specs.Titles.{PageTitle}
use Rattle.wk_page_rules.specs.Kept.{kept}
use Rattle.wk_page_rules.specs.declared.Limit.{Limit}
use Rattle.wk_page_rules.specs.History.{History, current_revision, current_text, page_exists}
use Rattle.wk_page_rules.specs.Verdict.{EditAsked, JournalUse, MostHeld, Verdict, refuse, no_change, accept, invalid_title, content_too_big, article_exists, missing_title, edit_conflict, wiki_full, real_title, max_text, body_bytes, is_conflict, is_same_text, limit_passed, judged_at, judged, is_journal_full, with_room, verdict}
use Rattle.wk_wiki_laws.specs.Conflicts.{IsInConflict}

-- ---- conditions

second-false : (a b : Bool) → (a && b) ≡ false → a ≡ true → b ≡ false
second-false true b e on = e
second-false false b e on = absurd cc

from_not-false : (b : Bool) → not b ≡ false → b ≡ true
from_not-false true e = refl
from_not-false false e = absurd cc

both-false : (a b : Bool) → (a ≡ true → b ≡ false) → (a && b) ≡ false
both-false true b off = off refl
both-false false b off = refl

wanted-false : (a : Bool) (body : Option (List ℕ)) (there : Bool) → (a ≡ true → there ≡ true) → (body ≡ None → there ≡ true) → ((a || is_none (option_map kept body)) && not there) ≡ false
wanted-false a body true by_flag by_body = both-false (a || is_none (option_map kept body)) false (λ _. refl)
wanted-false true body false by_flag by_body = absurd (let off : false ≡ true = by_flag refl in cc)
wanted-false false None false by_flag by_body = absurd (let off : false ≡ true = by_body refl in cc)
wanted-false false (Some text) false by_flag by_body = refl

wanted-true : (a : Bool) (body : Option (List ℕ)) (there : Bool) → ((a || is_none (option_map kept body)) && not there) ≡ false → (a ≡ true → there ≡ true) × (body ≡ None → there ≡ true)
wanted-true a body true e = (λ _. refl, λ _. refl)
wanted-true true body false e = absurd cc
wanted-true false None false e = absurd cc
wanted-true false (Some text) false e = (λ on. absurd cc, λ none. absurd cc)

-- ---- the order of the refusals

-- the refusals up to that of a conflict, and what comes behind them
abbrev in_order : Bool → Bool → Bool → Bool → ℕ → Verdict → Verdict
in_order big exists missing conflict current rest =
    cond big (refuse content_too_big) (cond exists (refuse article_exists) (cond missing (refuse missing_title) (cond conflict (refuse (edit_conflict current)) rest)))

in_order-conflict : (big exists missing conflict : Bool) (current : ℕ) (rest : Verdict)
    → big ≡ false → exists ≡ false → missing ≡ false → conflict ≡ true → in_order big exists missing conflict current rest ≡ refuse (edit_conflict current)
in_order-conflict false false false true current rest a b c d = refl
in_order-conflict true exists missing conflict current rest a b c d = absurd cc
in_order-conflict false true missing conflict current rest a b c d = absurd cc
in_order-conflict false false true conflict current rest a b c d = absurd cc
in_order-conflict false false false false current rest a b c d = absurd cc

record IsLast (big exists missing conflict : Bool) (current named : ℕ) : Type 0 where
  small : big ≡ false
  free : exists ≡ false
  there : missing ≡ false
  stale : conflict ≡ true
  same : current ≡ named

in_order-last : (big exists missing conflict : Bool) (current named : ℕ) (rest : Verdict) → (rest ≡ refuse (edit_conflict named) → ⊥)
    → in_order big exists missing conflict current rest ≡ refuse (edit_conflict named) → IsLast big exists missing conflict current named
in_order-last true exists missing conflict current named rest not_rest e = absurd cc
in_order-last false true missing conflict current named rest not_rest e = absurd cc
in_order-last false false true conflict current named rest not_rest e = absurd cc
in_order-last false false false true current named rest not_rest e =
    record { small = refl; free = refl; there = refl; stale = refl; same = (let some : refuse (edit_conflict current) ≡ refuse (edit_conflict named) = e in cc) }
in_order-last false false false false current named rest not_rest e = absurd (not_rest e)

-- what comes behind is no conflict
rest-else : (same : Bool) (title : PageTitle) (body : Option (List ℕ)) (passed : Option Limit) (named : ℕ)
    → cond same (no_change title) (elim passed [ None ↦ accept title body | Some limit ↦ refuse (wiki_full limit) ]) ≡ refuse (edit_conflict named) → ⊥
rest-else true title body passed named e = absurd cc
rest-else false title body None named e = absurd cc
rest-else false title body (Some limit) named e = absurd cc

-- ---- judged

module _ (h : History) (most : MostHeld) (edit : EditAsked) where
  rest_at : PageTitle → Verdict
  rest_at title = cond (is_same_text (current_text h title) (option_map kept edit.body)) (no_change title)
      (elim (limit_passed h most title (option_map kept edit.body)) [ None ↦ accept title (option_map kept edit.body) | Some limit ↦ refuse (wiki_full limit) ])

  judged-at : (title : PageTitle) → real_title edit.title ≡ Some title → judged h most edit ≡ judged_at h most edit title (option_map kept edit.body)
  unfolding judged
  judged-at title valid = ap (λ (o : Option PageTitle). elim o [ None ↦ refuse invalid_title | Some title ↦ judged_at h most edit title (option_map kept edit.body) ]) valid

  pub judged-conflict : (current : ℕ) → IsInConflict h edit current → judged h most edit ≡ refuse (edit_conflict current)
  unfolding rest_at
  judged-conflict current conflict =
      let title = conflict.title in
      let passes = conflict.passes in
      let stale : is_conflict edit.base (current_revision h title) ≡ true =
      (ap (λ base. is_conflict base (current_revision h title)) conflict.named
      ∙ ap (λ now. not (eqb conflict.base now)) conflict.now
      ∙ ap not (ne_eqb conflict.base current conflict.other)) in
      judged-at title passes.valid
      ∙ in_order-conflict (ltb max_text (body_bytes (option_map kept edit.body))) (edit.create_only && page_exists h title)
      ((edit.no_create || is_none (option_map kept edit.body)) && not (page_exists h title)) (is_conflict edit.base (current_revision h title))
      (current_revision h title) (rest_at title)
      (le-ltb max_text (body_bytes (option_map kept edit.body)) passes.small)
      (both-false edit.create_only (page_exists h title) passes.missing)
      (wanted-false edit.no_create edit.body (page_exists h title) passes.there passes.deleted)
      stale
      ∙ ap (λ now. refuse (edit_conflict now)) conflict.now

  stale-base : (base : Option ℕ) (current : ℕ) → is_conflict base current ≡ true → (P : Type 0) → ((number : ℕ) → base ≡ Some number → number ≢ current → P) → P
  stale-base None current e P use_it = absurd cc
  stale-base (Some number) current e P use_it = use_it number refl
      (λ same. let equal : eqb number current ≡ true = eq-eqb number current same in
      let off : not (eqb number current) ≡ false = ap not equal in absurd (let no : true ≡ false = sym e ∙ off in cc))

  at_title : (title : PageTitle) (current : ℕ) → real_title edit.title ≡ Some title
      → judged_at h most edit title (option_map kept edit.body) ≡ refuse (edit_conflict current) → IsInConflict h edit current
  unfolding rest_at
  at_title title current valid e =
      let parts = in_order-last (ltb max_text (body_bytes (option_map kept edit.body))) (edit.create_only && page_exists h title)
      ((edit.no_create || is_none (option_map kept edit.body)) && not (page_exists h title)) (is_conflict edit.base (current_revision h title))
      (current_revision h title) current (rest_at title)
      (rest-else (is_same_text (current_text h title) (option_map kept edit.body)) title (option_map kept edit.body) (limit_passed h most title (option_map kept edit.body)) current)
      e in
      let wanted = wanted-true edit.no_create edit.body (page_exists h title) parts.there in
      stale-base edit.base (current_revision h title) parts.stale (IsInConflict h edit current)
      (λ number named other. record {
        title = title;
        base = number;
        passes = record {
          valid = valid;
          small = ltb-false max_text (body_bytes (option_map kept edit.body)) parts.small;
          missing = second-false edit.create_only (page_exists h title) parts.free;
          there = wanted.0;
          deleted = wanted.1;
        };
        named = named;
        now = parts.same;
        other = λ same. other (same ∙ sym parts.same);
      })

  pub conflict-judged : (current : ℕ) → judged h most edit ≡ refuse (edit_conflict current) → IsInConflict h edit current
  unfolding judged
  conflict-judged current = go (real_title edit.title) refl
    where
      go : (o : Option PageTitle) → real_title edit.title ≡ o
          → (elim o [ None ↦ refuse invalid_title | Some title ↦ judged_at h most edit title (option_map kept edit.body) ]) ≡ refuse (edit_conflict current)
          → IsInConflict h edit current
      go None valid e = absurd cc
      go (Some title) valid e = at_title title current valid e

-- ---- the journal's room

pub with_room-conflict : (full : Bool) (v : Verdict) (current : ℕ) → with_room full v ≡ refuse (edit_conflict current) → v ≡ refuse (edit_conflict current)
with_room-conflict full (refuse refusal) current e = e
with_room-conflict full (no_change title) current e = absurd cc
with_room-conflict true (accept title body) current e = absurd cc
with_room-conflict false (accept title body) current e = absurd cc

pub verdict-conflict : (h : History) (most : MostHeld) (used : JournalUse) (edit : EditAsked) (current : ℕ)
    → IsInConflict h edit current → verdict h most used edit ≡ refuse (edit_conflict current)
verdict-conflict h most used edit current conflict =
    ap (λ v. with_room (is_journal_full most used) v) (judged-conflict h most edit current conflict)

pub conflict-verdict : (h : History) (most : MostHeld) (used : JournalUse) (edit : EditAsked) (current : ℕ)
    → verdict h most used edit ≡ refuse (edit_conflict current) → IsInConflict h edit current
conflict-verdict h most used edit current e =
    conflict-judged h most edit current (with_room-conflict (is_journal_full most used) (judged h most edit) current e)
