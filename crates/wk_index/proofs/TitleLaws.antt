-- Titles as tests and in order.
use Rattle.std.proofs.Common.{◌≡◌, ℕ, ℤ, true, List, refl, ap, ◌∙◌}
use Rattle.std.specs.Prelude.{bytes_eq}
use Rattle.std.specs.Ordering.{int_eq, is_eq}
use Rattle.std.specs.declared.cmp.Ordering.{Ordering}
use Rattle.std.specs.declared.cmp.Ordering.TheVariants.{Less, Equal, Greater}
use Rattle.std.proofs.lemmas.Bool.{and_parts}
use Rattle.std.proofs.lemmas.Slice.Eq.{bytes_eq-Decides}
use Rattle.std.proofs.lemmas.Bool.Decides.{Decides-int_eq}
use Rattle.wk_good_rows.proofs.Sets.{same-title}
use Rattle.wk_text_rules.specs.Titles.{PageTitle, title_cmp, title_eq}

abbrev titled : ℤ → List ℕ → PageTitle
titled ns key = record { ns = ns; key = key }

pub title_eq-true : (a b : PageTitle) → title_eq a b ≡ true → a ≡ b
title_eq-true a b e =
    let parts = and_parts (int_eq a.ns b.ns) (bytes_eq a.key b.key) e in
    ap (λ ns. titled ns a.key) ((Decides-int_eq a.ns b.ns).0 parts.0) ∙ ap (titled b.ns) ((bytes_eq-Decides a.key b.key).0 parts.1)

pub title_eq-same : (a : PageTitle) → title_eq a a ≡ true
title_eq-same a = rw ((Decides-int_eq a.ns a.ns).1 refl, (bytes_eq-Decides a.key a.key).1 refl) refl

is_eq-Equal : (o : Ordering) → is_eq o ≡ true → o ≡ Equal
is_eq-Equal Less e = cc
is_eq-Equal Equal e = refl
is_eq-Equal Greater e = cc

pub title_cmp-same : (a : PageTitle) → title_cmp a a ≡ Equal
title_cmp-same a = is_eq-Equal (title_cmp a a) (same-title a a ∙ title_eq-same a)
