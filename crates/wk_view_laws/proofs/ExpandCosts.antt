-- What the parts of an expansion cost: each template node pays for its question, and a redirect for its second one.
use Rattle.std.proofs.Common.{◌≡◌, ◌<◌, ◌≤◌, ◌++◌, refl, sym, subst, length-append, ℕ, zero, suc, ◌+◌, ◌/◌, Bool, true, false, List, [], ◌∷◌, length, Option, Some, None, arith, inl, inr, zero-le}
use Rattle.std.specs.Bool.{nat_lt, nat_le, if◌then◌else◌}
use Rattle.std.specs.Fmt.{decimal}
use Rattle.std.specs.List.{list_any}
use Rattle.std.proofs.lemmas.Bool.{cases_Bool}
use Rattle.wk_text_rules.specs.Titles.{PageTitle, title_eq, is_virtual}
use Rattle.wk_tree_rules.specs.Tree.{Part, title_part}
use Rattle.wk_tree_rules.specs.Trees.{Item, plain, sealed, nothing, node, Content, NodeKind, template, argument}
use Rattle.wk_view_rules.specs.Expand.{item_output, items_output, Search, trimmed_items, whole_part, operand, written_parts, argument_value, argument_default, argument_output, with_bindings, included, redirected, included_text, inclusion, template_as_written, page_output, by_existence, existence_output, without_result, behind_bare_item, behind_named_item, switch_output, function_output, template_output, kind_output, node_output, expand}
use Rattle.wk_view_rules.specs.Expansions.{Expansion, Output, Progress, give, most_tests, most_depth, with_test}
use Rattle.wk_view_rules.specs.Frames.{Frame, Binding, binding_length, is_within}
use Rattle.wk_view_rules.specs.Worlds.{page_of, is_there}
use Rattle.wk_view_rules.specs.declared.Func.{Func}
use Rattle.wk_view_rules.specs.declared.Func.TheVariants.{If, IfEq, IfExist, IfError, Switch}
use Rattle.wk_view_rules.specs.declared.Kind.TheVariants.{Exists}
use Rattle.wk_view_rules.specs.declared.Turned.{Turned}
use Rattle.wk_view_rules.specs.declared.Turned.TheVariants.{Result, Default, Pass}
use Rattle.wk_view_rules.specs.declared.Word.{Word}
use Rattle.wk_view_rules.specs.declared.Word.TheVariants.{Variable, Function, Page}
use Rattle.wk_view_rules.specs.declared.Var.{Var}
use Rattle.wk_view_laws.proofs.CostLemmas.{EndsPaid, IsKept, Pays, tested_with, pays-give, pays-more, pays-bind, pays-answer, pays-charged, pays-argument, pays-inclusion, pays-if, pays-option, pays-unless, pays-found}
use Rattle.wk_view_laws.proofs.TitleLemmas.{page-called_title, page-tested_title, page-redirect_target}
use Rattle.wk_view_laws.specs.Titles.{IsPageTitle}
use borrow.Author.Tests.{ltb-true}

-- ---- lists of items

pays-item : (visit : NodeKind → Content → Expansion Output) → ((kind : NodeKind) (content : Content) → Pays 0 (visit kind content)) → (i : Item) → Pays 0 (item_output visit i)
pays-item visit h (plain start source) = pays-give _
pays-item visit h (sealed start source) = pays-give _
pays-item visit h (nothing start source) = pays-give _
pays-item visit h (node kind start content) = h kind content

pays-items : (visit : NodeKind → Content → Expansion Output) → ((kind : NodeKind) (content : Content) → Pays 0 (visit kind content)) → (items : List Item) → Pays 0 (items_output visit items)
unfolding items_output
pays-items visit h [] = pays-give _
pays-items visit h (i ∷ items) = pays-bind (pays-item visit h i) (λ first. pays-bind (pays-items visit h items) (λ later. pays-give _))

-- ---- nodes

module _ (inner : Frame → List Item → Expansion Output) (inner-pays : (frame : Frame) (items : List Item) → Pays 0 (inner frame items)) (viewed : PageTitle) (frame : Frame) where
  pays-trimmed : (items : List Item) → Pays 0 (trimmed_items inner viewed frame items)
  pays-trimmed items = pays-bind (inner-pays frame items) (λ out. pays-give _)

  pays-whole : (part : Part) → Pays 0 (whole_part inner viewed frame part)
  unfolding whole_part
  pays-whole part = pays-option part.name (inner-pays frame part.value) (λ name.
      pays-bind (inner-pays frame name) (λ name_out. pays-bind (inner-pays frame part.value) (λ value_out. pays-give _)))

  pays-operand : (n : ℕ) (parts : List Part) → Pays 0 (operand inner viewed frame n parts)
  unfolding operand
  pays-operand n parts = pays-option _ (pays-give _) (λ part. pays-bind (pays-whole part) (λ out. pays-give _))

  pays-written : (parts : List Part) → Pays 0 (written_parts inner viewed frame parts)
  unfolding written_parts
  pays-written [] = pays-give _
  pays-written (part ∷ parts) = pays-bind (pays-whole part) (λ first. pays-bind (pays-written parts) (λ later. pays-give _))

  pays-value : (b : Binding) → Pays 0 (argument_value inner viewed frame b)
  unfolding argument_value
  pays-value b = pays-charged (binding_length b / 64) 0 0 (pays-bind (inner-pays _ b.value) (λ out. pays-argument _)) zero-le

  pays-default : (name : Output) (parts : List Part) → Pays 0 (argument_default inner viewed frame name parts)
  unfolding argument_default
  pays-default name [] = pays-give _
  pays-default name (part ∷ parts) = pays-whole part

  pays-argument_node : (name : Output) (parts : List Part) → Pays 0 (argument_output inner viewed frame name parts)
  unfolding argument_output
  pays-argument_node name parts = pays-option _ (pays-default name parts) pays-value

  pays-bindings : (next : ℕ) (bindings : List Binding) (parts : List Part) → Pays 0 (with_bindings inner viewed frame next bindings parts)
  unfolding with_bindings
  pays-bindings next bindings [] = pays-give _
  pays-bindings next bindings (part ∷ parts) = pays-option part.name
      (pays-bindings (suc next) (record { name = decimal next; value = part.value; named = false } ∷ bindings) parts)
      (λ name. pays-bind (pays-trimmed name) (λ out. pays-option _ (pays-bindings next bindings parts)
      (λ text. pays-bindings next (record { name = text; value = part.value; named = true } ∷ bindings) parts)))

  pays-included : (title source : PageTitle) (text : List ℕ) (parts : List Part) → Pays 0 (included inner viewed frame title source text parts)
  unfolding included
  pays-included title source text parts = pays-charged (length text / 64) 0 0
      (pays-bind (pays-bindings 1 [] parts) (λ bindings. pays-bind (inner-pays _ _) (λ out. pays-inclusion title out))) zero-le

  pays-redirected : (title target : PageTitle) (parts : List Part) → IsPageTitle target → Pays 1 (redirected inner viewed frame title target parts)
  unfolding redirected
  pays-redirected title target parts of_page = pays-if _ (pays-more (pays-give _)) (pays-answer of_page (λ answer.
      pays-option (page_of answer) (pays-give _) (λ p. pays-included title target p.text parts)))

  pays-included_text : (title : PageTitle) (text : List ℕ) (parts : List Part) → Pays 0 (included_text inner viewed frame title text parts)
  unfolding included_text
  pays-included_text title text parts = pays-found _ (pays-included title title text parts) (λ target e.
      pays-charged (1 + length text / 64) 0 1 (pays-redirected title target parts (page-redirect_target text target e)) (omega arith))

  pays-inclusion_of : (title : PageTitle) (parts : List Part) → (is_virtual title ≡ false → IsPageTitle title) → Pays 1 (inclusion inner viewed frame title parts)
  unfolding inclusion
  pays-inclusion_of title parts of_page =
      pays-unless (is_virtual title) (pays-more (pays-give _)) (λ real.
      pays-if (is_within frame title) (pays-more (pays-give _))
      (pays-if (nat_le most_depth (length frame)) (pays-more (pays-give _))
      (pays-answer (of_page real) (λ answer.
      pays-option (page_of answer) (pays-give _) (λ p. pays-included_text title p.text parts)))))

  pays-as_written : (name : Output) (parts : List Part) → Pays 0 (template_as_written inner viewed frame name parts)
  unfolding template_as_written
  pays-as_written name parts = pays-bind (pays-written parts) (λ written. pays-give _)

  pays-page : (name : Output) (parts : List Part) → Pays 1 (page_output inner viewed frame name parts)
  unfolding page_output
  pays-page name parts = pays-found _ (pays-more (pays-as_written name parts)) (λ title e. pays-inclusion_of title parts (page-called_title name title e))

  -- where the titles tested before, with this one, are those tested now
  ends-by_existence : (title : PageTitle) (parts : List Part) (base : ℕ) (progress : Progress) (before : List PageTitle) → IsPageTitle title → base + 1 ≤ progress.counters.nodes → IsKept progress → tested_with title Exists before ≡ progress.tested → EndsPaid base before (by_existence inner viewed frame title parts progress)
  unfolding by_existence
  ends-by_existence title parts base progress before of_page below kept e = (
    record { no_view = refl; of_page = of_page },
    λ answer. subst (λ t. EndsPaid (suc base) t (operand inner viewed frame (if is_there answer then 2 else 3) parts progress)) (sym e)
        ((pays-operand _ parts).pays (suc base) progress (omega arith) kept),
  )

  pays-existence : (title : PageTitle) (parts : List Part) → IsPageTitle title → Pays 1 (existence_output inner viewed frame title parts)
  unfolding existence_output
  pays-existence title parts of_page = record {
    pays = λ base progress below kept. elim (cases_Bool (list_any (title_eq title) progress.tested)) [
      | inl tested ↦
          let same : tested_with title Exists progress.tested ≡ progress.tested = rw tested refl in
          rw tested (ends-by_existence title parts base progress progress.tested of_page below kept same)
      | inr untested ↦ elim (cases_Bool (nat_lt progress.counters.exists most_tests)) [
        | inl room ↦
            let most = kept.limits in
            let fewer : progress.counters.exists < most_tests = ltb-true _ _ room in
            let more : tested_with title Exists progress.tested ≡ progress.tested ++ title ∷ [] = rw untested refl in
            let one_more : progress.counters.exists + 1 ≡ length (progress.tested ++ title ∷ []) = rw length-append (omega (arith, kept.counted)) in
            let kept_more : IsKept (with_test title progress) = record {
              limits = record { nodes = most.nodes; include = most.include; argument = most.argument; exists = omega arith };
              counted = one_more;
            } in
            rw (untested, room) (ends-by_existence title parts base (with_test title progress) progress.tested of_page below kept_more more)
        | inr none ↦ rw (untested, none) ((pays-more (pays-operand 3 parts)).pays base progress below kept)
      ]
    ];
  }

  pays-without_result : (search : Search) → Pays 0 (without_result inner viewed frame search)
  unfolding without_result
  pays-without_result met = go met.bare_before
    where
      by_default : (o : Option (List Item)) → Pays {A = Output} 0 (elim o [ Some value ↦ trimmed_items inner viewed frame value | None ↦ give [] ])
      by_default None = pays-give _
      by_default (Some value) = pays-trimmed value

      go : (o : Option Output) → Pays {A = Output} 0 (elim o [ Some text ↦ give text | None ↦ elim met.default [ Some value ↦ trimmed_items inner viewed frame value | None ↦ give [] ] ])
      go None = by_default met.default
      go (Some text) = pays-give _

  pays-by_turned : {found passed other : Expansion Output} (turned : Turned) → Pays 0 found → Pays 0 other → Pays 0 passed → Pays 0 (elim turned [ Result ↦ found | Default ↦ other | Pass ↦ passed ])
  pays-by_turned Result f o p = f
  pays-by_turned Default f o p = o
  pays-by_turned Pass f o p = p

  pays-by_match : {found other : Expansion Output} (matched : Bool) → Pays 0 found → Pays 0 other → Pays 0 (elim matched [ true ↦ found | false ↦ other ])
  pays-by_match true f o = f
  pays-by_match false f o = o

  pays-switch : (search : Search) (parts : List Part) → Pays 0 (switch_output inner viewed frame search parts)
  unfolding switch_output
  pays-switch met [] = pays-without_result met
  pays-switch met (part ∷ parts) = pays-option part.name
      (pays-bind (pays-trimmed part.value) (λ text. pays-switch (behind_bare_item met text) parts))
      (λ name. pays-by_match met.matched (pays-trimmed part.value) (pays-bind (pays-trimmed name) (λ text.
      pays-by_turned _ (pays-trimmed part.value)
      (pays-switch (behind_named_item met (Some part.value)) parts)
      (pays-switch (behind_named_item met met.default) parts))))

  pays-function : (func : Func) (first : Output) (parts : List Part) → Pays 1 (function_output inner viewed frame func first parts)
  unfolding function_output
  pays-function If first parts = pays-more (pays-operand _ parts)
  pays-function IfEq first parts = pays-more (pays-bind (pays-operand 2 parts) (λ second. pays-operand _ parts))
  pays-function IfExist first parts = pays-found _ (pays-more (pays-operand 3 parts)) (λ title e. pays-existence title parts (page-tested_title first title e))
  pays-function IfError first parts = pays-more (pays-if _ (pays-operand 2 parts) (pays-if _ (pays-give _) (pays-operand 3 parts)))
  pays-function Switch first parts = pays-more (pays-switch _ parts)

  pays-by_word : {variable : Var → Expansion Output} {function : Func → ℕ → Expansion Output} {page : Expansion Output} (w : Word) → ((v : Var) → Pays 1 (variable v)) → ((f : Func) (n : ℕ) → Pays 1 (function f n)) → Pays 1 page → Pays 1 (elim w [ Variable v ↦ variable v | Function f n ↦ function f n | Page ↦ page ])
  pays-by_word (Variable v) hv hf hp = hv v
  pays-by_word (Function f n) hv hf hp = hf f n
  pays-by_word Page hv hf hp = hp

  pays-template : (name : Output) (parts : List Part) → Pays 1 (template_output inner viewed frame name parts)
  unfolding template_output
  pays-template name parts = pays-by_word _ (λ v. pays-more (pays-give _)) (λ f n. pays-function f _ parts) (pays-page name parts)

  pays-kind : (kind : NodeKind) (name : Output) (parts : List Part) → Pays 1 (kind_output inner viewed frame kind name parts)
  pays-kind argument name parts = pays-more (pays-argument_node name parts)
  pays-kind template name parts = pays-template name parts

  pays-node : (kind : NodeKind) (content : Content) → Pays 1 (node_output inner viewed frame kind content)
  unfolding node_output
  pays-node kind content = pays-bind (inner-pays frame (title_part content)) (λ name. pays-kind kind name _)

-- ---- the expansion

pub pays-expand : (left : ℕ) (viewed : PageTitle) (frame : Frame) (items : List Item) → Pays 0 (expand left viewed frame items)
unfolding expand
pays-expand zero viewed frame items = pays-items _ (λ kind content. pays-charged 1 0 0 (pays-give _) zero-le) items
pays-expand (suc left) viewed frame items =
    pays-items _ (λ kind content. pays-charged 1 0 1 (pays-node (expand left viewed) (pays-expand left viewed) viewed frame kind content) (omega arith)) items
