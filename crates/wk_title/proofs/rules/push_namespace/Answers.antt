use Rattle.std.proofs.Common.{◌≡◌, ◌∷◌, [], ◌++◌, ℕ, length, string_bytes, encode_utf8, refl, sym, ap, ◌∙◌, arith, length-append, w8}
use Rattle.std.proofs.lemmas.Int.{ints}
use Rattle.std.proofs.lemmas.List.{append-nil}
use Rattle.std.proofs.lemmas.Str.{encode_ascii}
use mir.Val.{to_z, of_z}
use Rattle.wk_text_rules.specs.Titles.{namespace_name}
use Rattle.wk_title.specs.Shown.{shown_namespace}
use Rattle.wk_title.proofs.SpacesLemmas.{appended, shown_named, shown_main}
use Rattle.wk_title.proofs.rules.push_namespace.Goals as goal
use Rattle.wk_title.proofs.rules.push_namespace.Goals.{After-is_empty, Then-not-is_empty}

name_is : (c : After-is_empty) → c.namespace_name-name.result.now ≡ namespace_name c.args.ns
name_is c =
    let same : to_z w8 (of_z w8 c.args.ns) ≡ c.args.ns = omega (arith, ints) in
    c.namespace_name-name.ensures ∙ ap namespace_name same

named : (c : Then-not-is_empty) → shown_namespace c.args.ns ≡ c.namespace_name-name.result.now ++ 58 ∷ []
named c = shown_named c.args.ns c.namespace_name-name.result.now (name_is (goal.at-Then-not-is_empty c).After-is_empty) (sym c.is_empty.ensures ∙ c.if-not-is_empty.true)

pub unwrap-requires : goal.unwrap-requires
unwrap-requires c =
    c.push_str.ensures.succeeds (omega (arith, ap length (named (goal.at.unwrap-requires c).Then-not-is_empty), length-append {A = ℕ}))

pub unwrap-requires-then-not-is_empty : goal.unwrap-requires-then-not-is_empty
unwrap-requires-then-not-is_empty c =
    let len = rw c.unwrap.ensures at c.push_str.ensures.len in
    c.push.ensures.succeeds (omega (arith, len, c.push_str.ensures.capacity, ap length (named (goal.at.unwrap-requires-then-not-is_empty c).Then-not-is_empty), length-append {A = ℕ}))

pub returns-then-not-is_empty-clause-bytes : goal.returns-then-not-is_empty-clause-bytes
returns-then-not-is_empty-clause-bytes c =
    let first = rw c.unwrap.ensures at c.push_str.ensures.bytes in
    let second = rw c.unwrap-then-not-is_empty.ensures at c.push.ensures.bytes in
    appended c.namespace_name-name.result.now (encode_utf8 58) refl first second (named (goal.at.returns-then-not-is_empty-clause-bytes c).Then-not-is_empty ∙ ap (λ l. c.namespace_name-name.result.now ++ l) (sym (encode_ascii 58 (omega arith))))

pub returns-else-not-is_empty-clause-bytes : goal.returns-else-not-is_empty-clause-bytes
returns-else-not-is_empty-clause-bytes c =
    let none = shown_main c.args.ns c.namespace_name-name.result.now (name_is (goal.at.returns-else-not-is_empty-clause-bytes c).After-is_empty) (sym c.is_empty.ensures ∙ c.if-not-is_empty.false) in
    sym (ap (λ l. string_bytes c.args.into.now ++ l) none ∙ append-nil _)
