-- What tests say of titles and members: that they are the same.
use Rattle.std.proofs.Common.{◌≡◌, ℕ, true, List, [], ◌∷◌, map, Option, Some, None, ◌&&◌, refl, sym, ap, subst, ◌∙◌}
use Rattle.std.specs.Prelude.{bytes_eq}
use Rattle.std.specs.Bool.{Decides}
use Rattle.std.specs.Option.{option_eq}
use Rattle.std.proofs.lemmas.Bool.{and_parts, false≢true}
use Rattle.std.proofs.lemmas.Slice.Eq.{bytes_eq-Decides}
use Rattle.wk_text_rules.specs.Titles.{PageTitle, title_eq}
use Rattle.wk_page_rules.specs.PageRows.{Member}
use Rattle.wk_table_rows.specs.Members.{member_of}
use Rattle.wk_wiki_rules.specs.Names.{member_eq}
use Rattle.wk_index.proofs.TitleLaws.{title_eq-true, title_eq-same}

pub Decides-title_eq : (a b : PageTitle) → Decides (title_eq a b) (a ≡ b)
Decides-title_eq a b = (title_eq-true a b, λ e. subst (λ t. title_eq a t ≡ true) e (title_eq-same a))

abbrev pub Triple : Type 0
Triple = PageTitle × List ℕ × List ℕ

abbrev triple : PageTitle → List ℕ → List ℕ → Triple
triple category sortkey prefix = (category, sortkey, prefix)

pub Decides-triple : (a b : Triple) → Decides ((title_eq a.0 b.0 && bytes_eq a.1 b.1) && bytes_eq a.2 b.2) (a ≡ b)
Decides-triple (c, s, p) (d, t, q) = (
  λ all.
      let first = and_parts (title_eq c d && bytes_eq s t) (bytes_eq p q) all in
      let parts = and_parts (title_eq c d) (bytes_eq s t) first.0 in
      ap (λ x. triple x s p) (title_eq-true c d parts.0)
      ∙ ap (λ x. triple d x p) ((bytes_eq-Decides s t).0 parts.1)
      ∙ ap (triple d t) ((bytes_eq-Decides p q).0 first.1),
  λ e. subst (λ (b : Triple). ((title_eq c b.0 && bytes_eq s b.1) && bytes_eq p b.2) ≡ true) e
      (rw (title_eq-same c, (bytes_eq-Decides s s).1 refl, (bytes_eq-Decides p p).1 refl) refl),
)

-- members that the test finds the same
pub member_eq-true : (a b : Member) → member_eq a b ≡ true → a ≡ b
member_eq-true a b same =
    let one = (Decides-triple (a.category, a.sortkey, a.prefix) (b.category, b.sortkey, b.prefix)).0 same in
    ap member_of one

abbrev triple_of : Member → Triple
triple_of m = (m.category, m.sortkey, m.prefix)

triples-back : (rows : List Triple) → map triple_of (map member_of rows) ≡ rows
triples-back [] = refl
triples-back (row ∷ rows) = ap (λ l. row ∷ l) (triples-back rows)

pub same-triples : (a b : List Triple) → map member_of a ≡ map member_of b → a ≡ b
same-triples a b e = sym (triples-back a) ∙ ap (map triple_of) e ∙ triples-back b

pub Decides-redirect : (a b : Option PageTitle) → Decides (option_eq title_eq a b) (a ≡ b)
Decides-redirect None None = (λ t. refl, λ e. refl)
Decides-redirect None (Some b) = (λ t. absurd (false≢true t), λ e. cc)
Decides-redirect (Some a) None = (λ t. absurd (false≢true t), λ e. cc)
Decides-redirect (Some a) (Some b) = (λ t. ap Some (title_eq-true a b t), λ e. (Decides-title_eq a b).1 (let same : a ≡ b = cc in same))
