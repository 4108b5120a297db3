-- What the parts of a substitution ask, cost and give.
use Rattle.std.proofs.Common.{◌≡◌, ◌*◌, ℕ, zero, suc, ◌+◌, ◌≤◌, ◌/◌, ◌||◌, ◌∙◌, Bool, true, false, List, [], ◌∷◌, ◌++◌, length, codes, Option, Some, None, pos, refl, subst, ap, arith, inl, inr, length-append}
use Rattle.std.specs.Bool.{if◌then◌else◌, nat_le}
use Rattle.std.specs.List.{list_any}
use Rattle.std.specs.Fmt.{decimal}
use Rattle.std.specs.Option.{option_and_then}
use Rattle.std.proofs.lemmas.Bool.{cases_Bool}
use Rattle.wk_text_rules.specs.Blank.{trimmed}
use Rattle.wk_text_rules.specs.Titles.{PageTitle, normal, is_virtual, title_eq}
use Rattle.wk_tree_rules.specs.Tree.{tree, title_part, further_parts, Part}
use Rattle.wk_tree_rules.specs.Trees.{Item, plain, sealed, nothing, node, Content, content_source, items_source, source_of, NodeKind, template, argument, opening_braces, closing_braces}
use Rattle.wk_tree_rules.specs.declared.Mode.TheVariants as mode
use Rattle.wk_view_rules.specs.Expansions.{Expansion, Progress, no_progress, give, ◌>>=◌, most_depth, most_open}
use Rattle.wk_view_rules.specs.Worlds.{page_of}
use Rattle.wk_view_laws.specs.Titles.{IsPageTitle}
use Rattle.wk_subst_rules.specs.Calls.{bound_name, called, called_title, is_refused}
use Rattle.wk_subst_rules.specs.Places.{Bound, Place, saved_place, operand_place, filled_place}
use Rattle.wk_subst_rules.specs.Substitution.{silent_text, item_text, items_text, node_source, whole_part, whole_parts, as_written, default_text, argument_text, with_bound, put_in, call_text, template_text, node_text, substituted_items}
use Rattle.wk_subst_laws.proofs.SizeLemmas.{size, size_by, parts_size, content-size}
use Rattle.wk_subst_laws.proofs.SpendLemmas.{Ends, Fits, IsAllowed, Spends, Weighs, spends-answer, spends-apart, spends-bind, spends-charged, spends-found, spends-give, spends-more, spends-option, spends-other, spends-result, spends-then}

silent-length : (o : Option (List Bound)) (source : List ℕ) → length {A = ℕ} (elim o [ None ↦ source | Some bound ↦ [] ]) ≤ length source
silent-length None source = omega arith
silent-length (Some bound) source = omega arith

-- ---- titles

left-false : (a b : Bool) → (a || b) ≡ false → a ≡ false
left-false true b e = cc
left-false false b e = refl

page-by_test : (place : Place) (name : List ℕ) (named : Option PageTitle) (title : PageTitle) → normal name (pos 10) ≡ named → option_and_then (λ t. if is_refused place t then None else Some t) named ≡ Some title → IsPageTitle title
page-by_test place name None title e found = cc
page-by_test place name (Some other) title e found = elim (cases_Bool (is_refused place other)) [
  | inl refused ↦ let none : None ≡ Some title = rw refused at found in cc
  | inr allowed ↦
      let some : Some other ≡ Some title = rw allowed at found in
      let same : other ≡ title = cc in
      subst (λ t. IsPageTitle t) same (record { text = name; default_ns = pos 10; known = refl; named = e; real = left-false (is_virtual other) (list_any (title_eq other) place.within) (left-false (is_virtual other || list_any (title_eq other) place.within) (nat_le most_depth (length place.within)) allowed) })
]

page-called : (place : Place) (name : List ℕ) (title : PageTitle) → called_title place name ≡ Some title → IsPageTitle title
page-called place name title e = page-by_test place name (normal name (pos 10)) title refl e

-- ---- lists of items

module _ (measure : Progress → ℕ) (gain : ℕ → ℕ) (weight : Place → List ℕ → ℕ) (w : Weighs measure gain weight) where
  spends-item : (place : Place) (visit : NodeKind → Content → Expansion (List ℕ)) → ((kind : NodeKind) (content : Content) → Spends measure 0 (weight place) (length (node_source kind content)) (visit kind content)) → (i : Item) → Spends measure 0 (weight place) (length (source_of i)) (item_text place visit i)
  unfolding source_of
  spends-item place visit h (plain start source) = spends-give (weight place) (length source) source (w.most place source)
  spends-item place visit h (sealed start source) = spends-give (weight place) (length source) source (w.most place source)
  spends-item place visit h (nothing start source) = spends-give (weight place) (length source) (silent_text place source) (omega (arith, w.most place (silent_text place source), silent-length place.bound source))
  spends-item place visit h (node kind start content) = h kind content

  spends-items : (place : Place) (visit : NodeKind → Content → Expansion (List ℕ)) → ((kind : NodeKind) (content : Content) → Spends measure 0 (weight place) (length (node_source kind content)) (visit kind content)) → (items : List Item) → Spends measure 0 (weight place) (size items) (items_text place visit items)
  unfolding items_text
  spends-items place visit h [] = spends-give (weight place) 0 [] (w.most place [])
  spends-items place visit h (i ∷ items) =
      let whole : size (i ∷ items) ≡ length (source_of i) + size items = length-append (source_of i) (items_source items) in
      spends-bind (weight place) (length (source_of i)) (weight place) (size items) (size (i ∷ items)) (omega (arith, whole)) (spends-item place visit h i)
      (λ first. spends-bind (weight place) (size items) (weight place) (weight place first) (size items + weight place first) (omega arith) (spends-items place visit h items)
      (λ later. spends-give (weight place) (weight place first + weight place later) (first ++ later) (omega (arith, w.append place first later))))

-- ---- nodes

module _ (measure : Progress → ℕ) (gain : ℕ → ℕ) (weight : Place → List ℕ → ℕ) (w : Weighs measure gain weight) (inner : Place → List Item → Expansion (List ℕ)) (inner-spends : (place : Place) (items : List Item) → Spends measure 0 (weight place) (size items) (inner place items)) (place : Place) where
  spends-whole_by : (name : Option (List Item)) (value : List Item) → Spends measure 0 (weight place) (size_by name value)
      (elim name [
        | None ↦ inner place value
        | Some name ↦ inner place name >>= λ name_text. inner place value >>= λ value_text. give (name_text ++ (codes "=" ++ value_text))
      ])
  spends-whole_by None value = inner-spends place value
  spends-whole_by (Some name) value =
      spends-bind (weight place) (size name) (weight place) (suc (size value)) (size name + suc (size value)) (omega arith) (inner-spends place name)
      (λ name_text. spends-bind (weight place) (size value) (weight place) (suc (weight place name_text)) (suc (size value) + weight place name_text) (omega arith) (inner-spends place value)
      (λ value_text.
      let one : weight place (codes "=") ≤ 1 = w.most place (codes "=") in
      spends-give (weight place) (suc (weight place name_text) + weight place value_text) (name_text ++ (codes "=" ++ value_text))
      (omega (arith, one, w.append place name_text (codes "=" ++ value_text), w.append place (codes "=") value_text))))

  spends-whole : (part : Part) → Spends measure 0 (weight place) (size_by part.name part.value) (whole_part inner place part)
  unfolding whole_part
  spends-whole part = spends-whole_by part.name part.value

  spends-parts : (parts : List Part) → Spends measure 0 (weight place) (parts_size parts) (whole_parts inner place parts)
  unfolding whole_parts
  spends-parts [] = spends-give (weight place) 0 [] (w.most place [])
  spends-parts (part ∷ parts) =
      let long : ℕ = size_by part.name part.value in
      spends-bind (weight place) long (weight place) (suc (parts_size parts)) (suc (long + parts_size parts)) (omega arith) (spends-whole part)
      (λ first. spends-bind (weight place) (parts_size parts) (weight place) (suc (weight place first)) (suc (parts_size parts) + weight place first) (omega arith) (spends-parts parts)
      (λ later.
      let one : weight place (codes "|") ≤ 1 = w.most place (codes "|") in
      spends-give (weight place) (suc (weight place first) + weight place later) (codes "|" ++ (first ++ later))
      (omega (arith, one, w.append place (codes "|") (first ++ later), w.append place first later))))

  spends-written : (kind : NodeKind) (content : Content) → Spends measure 0 (weight place) (length (node_source kind content)) (as_written inner place kind content)
  unfolding as_written
  spends-written kind content =
      let front : List ℕ = opening_braces kind in
      let back : List ℕ = closing_braces kind in
      let braces : ℕ = length front + length back in
      let whole : length (node_source kind content) ≡ length front + (length (content_source content) + length back) =
      length-append front (content_source content ++ back) ∙ ap (λ n. length front + n) (length-append (content_source content) back)
      in
      spends-bind (weight place) (size (title_part content)) (weight place) (braces + parts_size (further_parts content)) (length (node_source kind content))
      (omega (arith, whole, content-size content)) (inner-spends place (title_part content))
      (λ title. spends-bind (weight place) (parts_size (further_parts content)) (weight place) (braces + weight place title) (braces + parts_size (further_parts content) + weight place title) (omega arith) (spends-parts (further_parts content))
      (λ parts. spends-give (weight place) (braces + weight place title + weight place parts) (front ++ (title ++ (parts ++ back)))
      (omega (arith, w.append place front (title ++ (parts ++ back)), w.append place title (parts ++ back), w.append place parts back, w.most place front, w.most place back))))

  -- ---- arguments

  spends-default : (source : List ℕ) (parts : List Part) → parts_size parts ≤ length source → Spends measure 0 (weight place) (length source) (default_text inner place source parts)
  unfolding default_text
  spends-default source [] h = spends-give (weight place) (length source) source (w.most place source)
  spends-default source (part ∷ parts) h = spends-other (weight place) (weight place) (size_by part.name part.value) (length source) (omega (arith, h)) (λ x. omega arith) (spends-whole part)

  spends-argument : (bound : List Bound) (content : Content) → place.bound ≡ Some bound → Spends measure 0 (weight place) (length (node_source argument content) + gain 1) (argument_text inner place bound content)
  unfolding argument_text
  spends-argument bound content e =
      let source : List ℕ = node_source argument content in
      let front : List ℕ = opening_braces argument in
      let back : List ℕ = closing_braces argument in
      let whole : length source ≡ length front + (length (content_source content) + length back) =
      length-append front (content_source content ++ back) ∙ ap (λ n. length front + n) (length-append (content_source content) back)
      in
      spends-option _
      (spends-other (weight place) (weight place) (length source) (length source + gain 1) (omega arith) (λ x. omega arith)
      (spends-default source (further_parts content) (omega (arith, whole, content-size content))))
      (λ value. spends-charged w (weight place) (length source + gain 1) source (length value / 64) 0 0 (omega (arith, w.most place source)) (omega arith)
      (spends-give (weight place) (length source + gain 1 + gain (length value / 64)) value (omega (arith, w.value place bound value e))))

  -- ---- calls

  spends-bound : (next : ℕ) (bound : List Bound) (parts : List Part) → Spends measure 0 (λ x. 0) 0 (with_bound inner place next bound parts)
  unfolding with_bound
  spends-bound next bound [] = spends-give (λ x. 0) 0 bound (omega arith)
  spends-bound next bound (part ∷ parts) =
      spends-then (λ x. 0) 0 (spends-apart (weight place) (size part.value) (inner-spends place part.value))
      (λ value. spends-option part.name
      (spends-bound (suc next) (record { name = decimal next; value = value } ∷ bound) parts)
      (λ name. spends-option (bound_name name) (spends-bound next bound parts)
      (λ text. spends-bound next (record { name = text; value = trimmed value } ∷ bound) parts)))

module _ (measure : Progress → ℕ) (gain : ℕ → ℕ) (weight : Place → List ℕ → ℕ) (w : Weighs measure gain weight) (inner : Place → List Item → Expansion (List ℕ)) (inner-spends : (place : Place) (items : List Item) → Spends measure 0 (weight place) (size items) (inner place items)) (place : Place) where
  spends-put_in : (source : List ℕ) (title : PageTitle) (text : List ℕ) (parts : List Part) → Spends measure 0 (weight place) (length source) (put_in inner place source title text parts)
  unfolding put_in
  spends-put_in source title text parts =
      let most : ℕ = length source + gain (length text / 64) in
      spends-charged w (weight place) (length source) source (length text / 64) 0 0 (w.most place source) (omega arith)
      (spends-then (weight place) most (spends-bound measure gain weight w inner inner-spends (operand_place title place) 1 [] parts)
      (λ bound. spends-then (weight place) most (spends-apart (weight (filled_place title bound place)) (size (tree mode.Include text)) (inner-spends (filled_place title bound place) (tree mode.Include text)))
      (λ out. spends-result w (weight place) most source out (omega (arith, w.most place source)) (w.most place out))))

  spends-call : (source : List ℕ) (title : PageTitle) (parts : List Part) → IsPageTitle title → Spends measure 1 (weight place) (length source) (call_text inner place source title parts)
  unfolding call_text
  spends-call source title parts of_page = spends-answer of_page (λ answer.
      spends-option (page_of answer) (spends-give (weight place) (length source) source (w.most place source)) (λ p. spends-put_in source title p.text parts))

  spends-template : (content : Content) → Spends measure 1 (weight place) (length (node_source template content)) (template_text inner place content)
  unfolding template_text
  spends-template content = spends-option (called (title_part content)) (spends-more (spends-written measure gain weight w inner inner-spends place template content))
      (λ name. spends-found (called_title place name)
      (spends-more (spends-give (weight place) (length (node_source template content)) (node_source template content) (w.most place (node_source template content))))
      (λ title e. spends-call (node_source template content) title (further_parts content) (page-called place name title e)))

  spends-node : (kind : NodeKind) (content : Content) → Spends measure 1 (weight place) (length (node_source kind content) + gain 1) (node_text inner place kind content)
  unfolding node_text
  spends-node template content = spends-other (weight place) (weight place) (length (node_source template content)) (length (node_source template content) + gain 1) (omega arith) (λ x. omega arith) (spends-template content)
  spends-node argument content = spends-more (go place.bound refl)
    where
      go : (o : Option (List Bound)) → place.bound ≡ o → Spends measure 0 (weight place) (length (node_source argument content) + gain 1) (elim o [ None ↦ as_written inner place argument content | Some bound ↦ argument_text inner place bound content ])
      go None e = spends-other (weight place) (weight place) (length (node_source argument content)) (length (node_source argument content) + gain 1) (omega arith) (λ x. omega arith) (spends-written measure gain weight w inner inner-spends place argument content)
      go (Some bound) e = spends-argument measure gain weight w inner inner-spends place bound content e

-- ---- the text

pub spends-substituted : (measure : Progress → ℕ) (gain : ℕ → ℕ) (weight : Place → List ℕ → ℕ) (w : Weighs measure gain weight) (left : ℕ) (place : Place) (items : List Item) → Spends measure 0 (weight place) (size items) (substituted_items left place items)
unfolding substituted_items
spends-substituted measure gain weight w zero place items =
    spends-items measure gain weight w place _
    (λ kind content. let source : List ℕ = node_source kind content in
    spends-charged w (weight place) (length source) source 1 0 0 (w.most place source) (omega arith) (spends-give (weight place) (length source + gain 1) source (omega (arith, w.most place source))))
    items
spends-substituted measure gain weight w (suc left) place items =
    spends-items measure gain weight w place _
    (λ kind content. let source : List ℕ = node_source kind content in
    spends-charged w (weight place) (length source) source 1 0 1 (w.most place source) (omega arith) (spends-node measure gain weight w (substituted_items left) (spends-substituted measure gain weight w left) place kind content))
    items

-- ---- what counts of a text

-- In the text that is saved its bytes count; where a page is put in, the call's result counts in their place.
abbrev weight_by : Option (List Bound) → List ℕ → ℕ
weight_by None out = length out
weight_by (Some bound) out = 0

abbrev saved_weight : Place → List ℕ → ℕ
saved_weight place out = weight_by place.bound out

abbrev pub of_calls : Progress → ℕ
of_calls progress = progress.counters.include

weight-append : (o : Option (List Bound)) (xs ys : List ℕ) → weight_by o (xs ++ ys) ≡ weight_by o xs + weight_by o ys
weight-append None xs ys = length-append xs ys
weight-append (Some bound) xs ys = refl

weight-most : (o : Option (List Bound)) (xs : List ℕ) → weight_by o xs ≤ length xs
weight-most None xs = omega arith
weight-most (Some bound) xs = omega arith

saved-weighs : Weighs of_calls (λ n. 0) saved_weight
saved-weighs = record {
  charged = λ n progress. omega arith;
  spent = λ progress below. omega arith;
  counted = λ n progress. refl;
  append = λ place xs ys. weight-append place.bound xs ys;
  most = λ place xs. weight-most place.bound xs;
  value = λ place bound xs e. (let none : weight_by place.bound xs ≡ weight_by (Some bound) xs = ap (λ o. weight_by o xs) e in omega (arith, none));
}

-- everywhere all bytes count, and a node pays for 64
abbrev pub of_nodes_and_calls : Progress → ℕ
of_nodes_and_calls progress = 64 * progress.counters.nodes + progress.counters.include

paid-weighs : Weighs of_nodes_and_calls (λ n. 64 * n) (λ place xs. length xs)
paid-weighs = record {
  charged = λ n progress. omega arith;
  spent = λ progress below. omega arith;
  counted = λ n progress. omega arith;
  append = λ place xs ys. length-append xs ys;
  most = λ place xs. omega arith;
  value = λ place bound xs e. omega arith;
}

allowed-start : IsAllowed no_progress
allowed-start = record { nodes = omega arith; include = omega arith }

pub ends-text : (text : List ℕ) → Ends 0 (Fits of_calls length (size (tree mode.View text)) 0) (substituted_items most_open saved_place (tree mode.View text) no_progress)
ends-text text = (spends-substituted of_calls (λ n. 0) saved_weight saved-weighs most_open saved_place (tree mode.View text)).spends 0 no_progress (omega arith) allowed-start

pub ends-items : (left : ℕ) (place : Place) (items : List Item) (progress : Progress) → IsAllowed progress → Ends 0 (Fits of_nodes_and_calls length (size items) (of_nodes_and_calls progress)) (substituted_items left place items progress)
ends-items left place items progress allowed =
    (spends-substituted of_nodes_and_calls (λ n. 64 * n) (λ place xs. length xs) paid-weighs left place items).spends 0 progress (omega arith) allowed
