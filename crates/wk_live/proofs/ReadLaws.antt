-- What the present world answers, and which reads it doesn't bear out.
use Rattle.std.proofs.Common.{◌≡◌, ℕ, eqb, List, [], ◌∷◌, map, Option, Some, None, refl, inl, inr}
use Rattle.std.specs.Prelude.{is_some, option_and_then, option_map}
use Rattle.std.proofs.lemmas.Bool.{cases_Bool}
use Rattle.wk_page_rules.specs.History.{History, Revision, text_of_revision}
use Rattle.wk_view_rules.specs.Worlds as rule
use Rattle.wk_view_rules.specs.Worlds.{World}
use Rattle.wk_wiki_rules.specs.Entries.{revision_at}
use Rattle.wk_wiki_rules.specs.Staleness.{first_stale, is_stale}
use Rattle.wk_expand.specs.Drafts.{with_mark}
use Rattle.wk_live.specs.Stale.{first_stale_mark}

pub text-at : (h : History) (number : ℕ) → option_and_then (λ (revision : Revision). revision.text) (revision_at h number) ≡ text_of_revision h number
text-at h number = elim (cases_Bool (eqb number 0)) [ inl none ↦ rw none refl | inr some ↦ rw some refl ]

pub some-map : {X Y : Type 0} (f : X → Y) (o : Option X) → is_some (option_map f o) ≡ is_some o
some-map f None = refl
some-map f (Some x) = refl

pub stale-reads : (pages : World) (reads : List rule.Read) → first_stale_mark pages (map with_mark reads) ≡ first_stale pages reads
stale-reads pages [] = refl
stale-reads pages (read ∷ reads) =
    let later = stale-reads pages reads in
    elim (cases_Bool (is_stale pages read)) [ inl stale ↦ rw stale refl | inr current ↦ rw current later ]
