-- Elements at places, by their opening tags and ends.
use Rattle.std.proofs.Common.{◌≡◌, ℕ, ◌-◌, ◌==◌, Bool, true, false, List, length, take, drop, codes, Option, Some, None, ap, sym, subst, ◌∙◌}
use Rattle.std.specs.List.{ends_with}
use Rattle.wk_text_rules.specs.Shapes.{Shape, ◌and_then◌, ◌or_else◌, up_to, to_the_end}
use Rattle.wk_tree_rules.specs.Tags.{opening_tag, tag_closed_in_itself, element_end, element, open_ended_element}
use Rattle.wk_lex.specs.Places.{EndsAt}
use Rattle.wk_lex.proofs.PlaceLemmas.{and_then-ends, and_then-none, or_else-first, or_else-second, or_the_rest-ends, such_that-passes, such_that-fails, such_that-none}

abbrev is_closed : List ℕ → Bool
is_closed part = ends_with (λ a b. a == b) part (codes "/>")

module _ (name text : List ℕ) (at : ℕ) where
  -- whether the opening tag at the place, which ends at another, is closed in itself
  abbrev Closed : ℕ → Bool → Type 0
  Closed inside closed = is_closed (take (inside - at) (drop at text)) ≡ closed

  abbrev Opening : Option ℕ → Type 0
  Opening inside = EndsAt (opening_tag name) text at inside

  none_closed : Opening None → EndsAt (tag_closed_in_itself name) text at None
  none_closed none = such_that-none text is_closed (opening_tag name) at none

  closed : (inside : ℕ) → Opening (Some inside) → Closed inside true → EndsAt (tag_closed_in_itself name) text at (Some inside)
  closed inside tag e = such_that-passes text is_closed (opening_tag name) at inside tag e

  not_closed : (inside : ℕ) → Opening (Some inside) → Closed inside false → EndsAt (tag_closed_in_itself name) text at None
  not_closed inside tag e = such_that-fails text is_closed (opening_tag name) at inside tag e

  -- ---- an element that has an end

  abbrev Rest : Shape ℕ
  Rest = opening_tag name and_then up_to (element_end name)

  pub element-none : Opening None → EndsAt (element name) text at None
  element-none none =
      or_else-second text (tag_closed_in_itself name) Rest at None (none_closed none)
      (and_then-none text (opening_tag name) (up_to (element_end name)) at none)

  pub element-closed : (inside : ℕ) → Opening (Some inside) → Closed inside true → EndsAt (element name) text at (Some inside)
  element-closed inside tag e = or_else-first text (tag_closed_in_itself name) Rest at inside (closed inside tag e)

  pub element-ends : (inside : ℕ) (end : Option ℕ) → Opening (Some inside) → Closed inside false → EndsAt (up_to (element_end name)) text inside end → EndsAt (element name) text at end
  element-ends inside end tag e rest =
      or_else-second text (tag_closed_in_itself name) Rest at end (not_closed inside tag e)
      (and_then-ends text (opening_tag name) (up_to (element_end name)) at inside end tag rest)

  -- ---- an element that may have none

  abbrev OpenRest : Shape ℕ
  OpenRest = opening_tag name and_then (up_to (element_end name) or_else to_the_end)

  pub open_ended-none : Opening None → EndsAt (open_ended_element name) text at None
  open_ended-none none =
      or_else-second text (tag_closed_in_itself name) OpenRest at None (none_closed none)
      (and_then-none text (opening_tag name) (up_to (element_end name) or_else to_the_end) at none)

  pub open_ended-closed : (inside : ℕ) → Opening (Some inside) → Closed inside true → EndsAt (open_ended_element name) text at (Some inside)
  open_ended-closed inside tag e = or_else-first text (tag_closed_in_itself name) OpenRest at inside (closed inside tag e)

  pub open_ended-ends : (inside end : ℕ) → Opening (Some inside) → Closed inside false → EndsAt (up_to (element_end name)) text inside (Some end) → EndsAt (open_ended_element name) text at (Some end)
  open_ended-ends inside end tag e rest =
      or_else-second text (tag_closed_in_itself name) OpenRest at (Some end) (not_closed inside tag e)
      (and_then-ends text (opening_tag name) (up_to (element_end name) or_else to_the_end) at inside (Some end) tag (or_else-first text (up_to (element_end name)) to_the_end inside end rest))

  pub open_ended-rest : (inside : ℕ) → Opening (Some inside) → Closed inside false → EndsAt (up_to (element_end name)) text inside None → EndsAt (open_ended_element name) text at (Some (length text))
  open_ended-rest inside tag e none =
      or_else-second text (tag_closed_in_itself name) OpenRest at (Some (length text)) (not_closed inside tag e)
      (or_the_rest-ends text (opening_tag name) (up_to (element_end name)) at inside tag none)

-- ---- where the tag was found in the text, and the rest is found in what the text is seen as inside

module _ (name whole text : List ℕ) (same : whole ≡ text) (at inside : ℕ) (tag : EndsAt (opening_tag name) text at (Some inside)) (test : Bool) (reads : test ≡ is_closed (take (inside - at) (drop at whole))) (open_tag : test ≡ false) where
  not_closed-seen : Closed name text at inside false
  not_closed-seen = subst (λ t. is_closed (take (inside - at) (drop at t)) ≡ false) same (sym reads ∙ open_tag)

  pub element-seen : (end : Option ℕ) → EndsAt (up_to (element_end name)) whole inside end → EndsAt (element name) text at end
  element-seen end rest = element-ends name text at inside end tag not_closed-seen (subst (λ t. EndsAt (up_to (element_end name)) t inside end) same rest)

  pub open_ended-seen : (end : ℕ) → EndsAt (up_to (element_end name)) whole inside (Some end) → EndsAt (open_ended_element name) text at (Some end)
  open_ended-seen end rest = open_ended-ends name text at inside end tag not_closed-seen (subst (λ t. EndsAt (up_to (element_end name)) t inside (Some end)) same rest)

  pub open_ended-unseen : EndsAt (up_to (element_end name)) whole inside None → EndsAt (open_ended_element name) text at (Some (length whole))
  open_ended-unseen none =
      subst (λ n. EndsAt (open_ended_element name) text at (Some n)) (sym (ap length same))
      (open_ended-rest name text at inside tag not_closed-seen (subst (λ t. EndsAt (up_to (element_end name)) t inside None) same none))
