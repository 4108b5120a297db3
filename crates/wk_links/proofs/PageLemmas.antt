-- What a target links to, by the page that it names.
use Rattle.std.proofs.Common.{◌≡◌, ℕ, false, List, Option, Some, None, option_and_then, if◌then◌else◌, refl, inl, inr}
use Rattle.std.specs.Prelude.{pos}
use Rattle.std.proofs.lemmas.Bool.{cases_Bool}
use Rattle.wk_text_rules.specs.Marked.{MarkedByte}
use Rattle.wk_text_rules.specs.Occurrences.{Link, nothing, link_by, link_of}
use Rattle.wk_text_rules.specs.Targets.{page_named}
use Rattle.wk_text_rules.specs.Titles.{PageTitle, is_virtual, normal}

module _ (target : List ℕ) (label : Option (List MarkedByte)) where
  abbrev page : Option PageTitle → Option PageTitle
  page named = option_and_then (λ title. if is_virtual title then None else Some title) named

  abbrev link : Option PageTitle → Link
  link named = elim named [ None ↦ nothing | Some title ↦ link_by target label title ]

  paged : (title : PageTitle) (named : Option PageTitle) → Some title ≡ page named → (is_virtual title ≡ false) × (link_by target label title ≡ link named)
  paged title None e = absurd (cc)
  paged title (Some other) e = elim (cases_Bool (is_virtual other)) [
    | inl virtual ↦ let none : Some title ≡ None = rw virtual at e in absurd (cc)
    | inr real ↦
        let some : Some title ≡ Some other = rw real at e in
        let same : title ≡ other = cc in
        rw same (real, refl)
  ]

  unpaged : (named : Option PageTitle) → None ≡ page named → nothing ≡ link named
  unpaged None e = refl
  unpaged (Some other) e = elim (cases_Bool (is_virtual other)) [
    | inl virtual ↦ rw virtual refl
    | inr real ↦ let some : None ≡ Some other = rw real at e in absurd (cc)
  ]

  -- a target that names a page
  pub page_is : (title : PageTitle) → Some title ≡ page_named target → (is_virtual title ≡ false) × (link_by target label title ≡ link_of target label)
  page_is title e = paged title (normal target (pos 0)) e

  -- a target that names none
  pub no_page : None ≡ page_named target → nothing ≡ link_of target label
  no_page e = unpaged (normal target (pos 0)) e
