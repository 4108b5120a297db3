-- What was read, with its marks, and one more read.
use Rattle.std.proofs.Common.{◌≡◌, ℕ, List, [], ◌∷◌, ◌++◌, map, IsTrue, None, sym, ap, subst, ◌∙◌}
use Rattle.std.proofs.lemmas.List.{map-append}
use Rattle.wk_text_rules.specs.Titles.{PageTitle}
use Rattle.wk_view_rules.specs.Plans.{noted}
use Rattle.wk_view_rules.specs.Worlds.{Answer, IsSeen, Seen, ask, fits_kind, mark, of_seen}
use Rattle.wk_view_rules.specs.declared.Kind.TheVariants.{Include}
use Rattle.wk_expand.specs.Answers.{read_with}
use Rattle.wk_expand.specs.Drafts.{with_mark}
use Rattle.wk_expand.specs.declared.answer.Read.{Read}
use Rattle.wk_expand.proofs.ReadLaws.{noted-absent}
use Rattle.wk_expand.proofs.SeenLaws.{IsSeen-push}
use Rattle.wk_subst.specs.Marked.{AreMarked}

module _ (seen next : Seen) (title asked : PageTitle) (answer known : Answer) (next_is : next ≡ seen ++ read_with asked Include known ∷ []) (asked_is : asked ≡ title) (known_is : known ≡ answer) (none : ask (of_seen seen) title Include ≡ None) where
  read-last : next ≡ seen ++ read_with title Include answer ∷ []
  read-last =
      next_is
      ∙ ap (λ (t : PageTitle). seen ++ read_with t Include known ∷ []) asked_is
      ∙ ap (λ (a : Answer). seen ++ read_with title Include a ∷ []) known_is

  pub read-noted : next ≡ noted seen (read_with title Include answer)
  read-noted = read-last ∙ noted-absent seen title Include answer none

  pub marked-more : (marked later : List Read) (shared : PageTitle) (n : ℕ) → AreMarked seen marked → IsTrue (fits_kind Include answer) → later ≡ marked ++ record { title = shared; kind = Include; mark = n } ∷ [] → shared ≡ title → n ≡ mark answer → AreMarked next later
  marked-more marked later shared n h fits later_is shared_is n_is = record {
    marks =
        later_is
        ∙ ap (λ (t : PageTitle). marked ++ record { title = t; kind = Include; mark = n } ∷ []) shared_is
        ∙ ap (λ (m : ℕ). marked ++ record { title = title; kind = Include; mark = m } ∷ []) n_is
        ∙ ap (λ (rs : List Read). rs ++ with_mark (read_with title Include answer) ∷ []) h.marks
        ∙ sym (map-append with_mark seen (read_with title Include answer ∷ []))
        ∙ ap (map with_mark) (sym read-last);
    is_seen = subst (λ (rs : Seen). IsSeen rs) (sym read-last) (IsSeen-push seen (read_with title Include answer) h.is_seen none fits);
  }
