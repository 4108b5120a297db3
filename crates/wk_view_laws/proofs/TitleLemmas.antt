-- The titles that an expansion asks for are those that pages can have.
use Rattle.std.proofs.Common.{◌≡◌, ℕ, false, List, refl, Option, Some, None, pos, inl, inr, drop, length, subst}
use Rattle.std.specs.Bool.{if◌then◌else◌}
use Rattle.std.specs.List.{take_while}
use Rattle.std.specs.Option.{is_some, option_and_then}
use Rattle.std.proofs.lemmas.Bool.{cases_Bool}
use Rattle.wk_text_rules.specs.Marked.{plain_text_of, trimmed_output}
use Rattle.wk_text_rules.specs.Titles.{PageTitle, normal, is_virtual}
use Rattle.wk_text_rules.specs.Targets.{is_target_byte, page_named}
use Rattle.wk_tree_rules.specs.Redirects.{redirect_start, redirect_target, target_end}
use Rattle.wk_view_rules.specs.Expand.{called_title, tested_title}
use Rattle.wk_view_rules.specs.Expansions.{Output}
use Rattle.wk_view_laws.specs.Titles.{IsPageTitle}

-- a title that a text names in main, where it isn't in a negative namespace
page_by_test : (text : List ℕ) (named : Option PageTitle) (title : PageTitle) → normal text (pos 0) ≡ named → option_and_then (λ t. if is_virtual t then None else Some t) named ≡ Some title → IsPageTitle title
page_by_test text None title e found = cc
page_by_test text (Some other) title e found = elim (cases_Bool (is_virtual other)) [
  | inl virtual ↦ let none : None ≡ Some title = rw virtual at found in cc
  | inr real ↦
      let some : Some other ≡ Some title = rw real at found in
      let same : other ≡ title = cc in
      subst (λ t. IsPageTitle t) same (record { text = text; default_ns = pos 0; known = refl; named = e; real = real })
]

pub page-called_title : (name : Output) (title : PageTitle) → called_title name ≡ Some title → is_virtual title ≡ false → IsPageTitle title
page-called_title name title e real = go (plain_text_of (trimmed_output name)) e
  where
    go : (o : Option (List ℕ)) → option_and_then (λ text. normal text (pos 10)) o ≡ Some title → IsPageTitle title
    go None found = cc
    go (Some text) found = record { text = text; default_ns = pos 10; known = refl; named = found; real = real }

pub page-tested_title : (first : Output) (title : PageTitle) → tested_title first ≡ Some title → IsPageTitle title
page-tested_title first title e = go (plain_text_of first) e
  where
    go : (o : Option (List ℕ)) → option_and_then (λ t. if is_virtual t then None else Some t) (option_and_then (λ text. normal text (pos 0)) o) ≡ Some title → IsPageTitle title
    go None found = cc
    go (Some text) found = page_by_test text (normal text (pos 0)) title refl found

pub page-redirect_target : (text : List ℕ) (title : PageTitle) → redirect_target text ≡ Some title → IsPageTitle title
unfolding redirect_target
page-redirect_target text title e = go (redirect_start text) e
  where
    go : (o : Option (List ℕ)) → option_and_then (λ inside. if is_some (target_end (drop (length (take_while is_target_byte inside)) inside)) then page_named (take_while is_target_byte inside) else None) o ≡ Some title → IsPageTitle title
    go None found = cc
    go (Some inside) found = elim (cases_Bool (is_some (target_end (drop (length (take_while is_target_byte inside)) inside)))) [
      | inl ends ↦ page_by_test (take_while is_target_byte inside) (normal (take_while is_target_byte inside) (pos 0)) title refl (rw ends at found)
      | inr open_ended ↦ let none : None ≡ Some title = rw open_ended at found in cc
    ]
