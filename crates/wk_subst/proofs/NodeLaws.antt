-- Nodes, their parts and lists that are there, as the code finds them.
use Rattle.std.proofs.Common.{◌≡◌, ℕ, zero, suc, ◌+◌, ◌<◌, Bool, true, false, if◌then◌else◌, List, [], ◌∷◌, length, drop, Option, Some, None, IsSome, refl, sym, ap, subst, arith, ◌∙◌}
use Rattle.std.specs.List.{slice_get}
use Rattle.std.specs.Option.{IfSome, option_and_then, unwrap_or}
use Rattle.wk_tree_rules.specs.Tree.{Node, Part as TreePart, title_part, further_parts}
use Rattle.wk_tree_rules.specs.Trees.{Item, NodeKind, template, argument}
use Rattle.wk_tree.specs.Parsed.{ParsedText, list_with, node_with, part_with, part_at, tree_of, IsName, IsPart}
use Rattle.wk_tree.specs.Tokens.{is_argument}
use Rattle.wk_tree.specs.declared.item.ListId.{ListId}
use Rattle.wk_tree.specs.declared.item.ListId.TheVariants.{Root}
use Rattle.wk_tree.specs.declared.item.NodeId.{NodeId}
use Rattle.wk_tree.specs.declared.parsed.Part.{Part}
use Rattle.wk_subst.specs.Nodes.{items_of, name_of, no_node, node_at, parts_of}

-- ---- what is there

pub is-some : {X : Type 0} (o : Option X) (x : X) → o ≡ Some x → IsSome o
is-some None x e = cc
is-some (Some y) x e = refl

pub at-some : {X : Type 0} (P : X → Type 0) (o : Option X) (x : X) → o ≡ Some x → IfSome o P → P x
at-some P None x e h = cc
at-some P (Some y) x e h = let same : y ≡ x = cc in subst P same h

pub some-at : {X : Type 0} (P : X → Type 0) (o : Option X) (d : X) → IsSome o → IfSome o P → P (unwrap_or o d)
some-at P None d there h = absurd (let wrong : false ≡ true = there in cc)
some-at P (Some x) d there h = h

pub some-or : {X : Type 0} (o : Option X) (d : X) → IsSome o → o ≡ Some (unwrap_or o d)
some-or None d there = absurd (let wrong : false ≡ true = there in cc)
some-or (Some x) d there = refl

pub or-some : {X : Type 0} (o : Option X) (d x : X) → o ≡ Some x → unwrap_or o d ≡ x
or-some o d x e = ap (λ (p : _). unwrap_or p d) e

-- ---- nodes

pub node-there : (parsed : ParsedText) (id : NodeId) → IsSome (node_with parsed id) → node_with parsed id ≡ Some (node_at parsed id)
unfolding node_at
node-there parsed id there = some-or (node_with parsed id) no_node there

pub node-by : (P : Node → Type 0) (parsed : ParsedText) (id : NodeId) → IsSome (node_with parsed id) → IfSome (node_with parsed id) P → P (node_at parsed id)
unfolding node_at
node-by P parsed id there h = some-at P (node_with parsed id) no_node there h

pub node-is : (parsed : ParsedText) (id : NodeId) (n : Node) → node_with parsed id ≡ Some n → node_at parsed id ≡ n
unfolding node_at
node-is parsed id n e = or-some (node_with parsed id) no_node n e

-- ---- lists

pub items-is : (parsed : ParsedText) (list : ListId) (items : List Item) → list_with parsed list ≡ Some items → items_of parsed list ≡ items
unfolding items_of
items-is parsed list items e = or-some (list_with parsed list) [] items e

pub items-there : (parsed : ParsedText) (list : ListId) → IsSome (list_with parsed list) → list_with parsed list ≡ Some (items_of parsed list)
unfolding items_of
items-there parsed list there = some-or (list_with parsed list) [] there

pub items-by : (P : List Item → Type 0) (parsed : ParsedText) (list : ListId) → IsSome (list_with parsed list) → IfSome (list_with parsed list) P → P (items_of parsed list)
unfolding items_of
items-by P parsed list there h = some-at P (list_with parsed list) [] there h

pub root-is : (parsed : ParsedText) → items_of parsed Root ≡ tree_of parsed
unfolding items_of
root-is parsed = refl

-- the title part of a node, as the code names it in a text that is the same
pub title-is : (shown parsed : ParsedText) (id : NodeId) (title : ListId) → shown ≡ parsed → IsSome (node_with parsed id) → IfSome (node_with shown id) (λ n. list_with shown title ≡ Some (title_part n.content)) → list_with parsed title ≡ Some (title_part (node_at parsed id).content)
title-is shown parsed id title same there h =
    node-by (λ n. list_with parsed title ≡ Some (title_part n.content)) parsed id there
    (subst (λ (t : ParsedText). IfSome (node_with t id) (λ n. list_with t title ≡ Some (title_part n.content))) same h)

pub title-there : (shown parsed : ParsedText) (id : NodeId) (title : ListId) → shown ≡ parsed → IsSome (node_with parsed id) → IfSome (node_with shown id) (λ n. list_with shown title ≡ Some (title_part n.content)) → IsSome (list_with parsed title)
title-there shown parsed id title same there h = is-some (list_with parsed title) (title_part (node_at parsed id).content) (title-is shown parsed id title same there h)

pub kind-is : {B : Type 0} (test : NodeKind → B) (b : B) (shown parsed : ParsedText) (id : NodeId) → shown ≡ parsed → IsSome (node_with parsed id) → IfSome (node_with shown id) (λ n. b ≡ test n.kind) → b ≡ test (node_at parsed id).kind
kind-is test b shown parsed id same there h =
    node-by (λ n. b ≡ test n.kind) parsed id there (subst (λ (t : ParsedText). IfSome (node_with t id) (λ n. b ≡ test n.kind)) same h)

pub count-is : (count : ℕ) (shown parsed : ParsedText) (id : NodeId) → shown ≡ parsed → IsSome (node_with parsed id) → IfSome (node_with shown id) (λ n. count ≡ length (further_parts n.content)) → count ≡ length (parts_of (node_at parsed id))
count-is count shown parsed id same there h =
    node-by (λ n. count ≡ length (further_parts n.content)) parsed id there (subst (λ (t : ParsedText). IfSome (node_with t id) (λ n. count ≡ length (further_parts n.content))) same h)

pub argument-kind : (kind : NodeKind) → is_argument kind ≡ true → kind ≡ argument
argument-kind argument e = refl
argument-kind template e = cc

pub template-kind : (kind : NodeKind) → is_argument kind ≡ false → kind ≡ template
template-kind argument e = cc
template-kind template e = refl

pub kind-of : (b : Bool) (kind : NodeKind) → b ≡ is_argument kind → (if b then argument else template) ≡ kind
kind-of b argument e = ap (λ (t : Bool). if t then argument else template) e
kind-of b template e = ap (λ (t : Bool). if t then argument else template) e

-- ---- further parts

pub some-within : {X : Type 0} (xs : List X) (i : ℕ) → i < length xs → (x : X) × (slice_get xs i ≡ Some x)
some-within [] i h = absurd (omega arith)
some-within (x ∷ xs) zero h = (x, refl)
some-within (x ∷ xs) (suc i) h = some-within xs i (omega arith)

pub drop-some : {X : Type 0} (xs : List X) (i : ℕ) (x : X) → slice_get xs i ≡ Some x → drop i xs ≡ x ∷ drop (i + 1) xs
drop-some [] i x e = cc
drop-some (y ∷ xs) zero x e = let same : y ≡ x = cc in ap (λ z. z ∷ xs) same
drop-some (y ∷ xs) (suc i) x e =
    let same : suc (i + 1) ≡ suc i + 1 = omega arith in
    drop-some xs i x e ∙ ap (λ n. x ∷ drop n (y ∷ xs)) same

pub part-of : (parsed : ParsedText) (id : NodeId) (at : ℕ) → IsSome (node_with parsed id) → part_with parsed id at ≡ slice_get (parts_of (node_at parsed id)) at
part-of parsed id at there = ap (option_and_then (part_at at)) (node-there parsed id there)

-- the further part at a place, by which the rest is longer
pub part-within : (parsed : ParsedText) (id : NodeId) (at : ℕ) → IsSome (node_with parsed id) → at < length (parts_of (node_at parsed id)) → (q : TreePart) × (part_with parsed id at ≡ Some q)
part-within parsed id at there within =
    let q = some-within (parts_of (node_at parsed id)) at within in
    (q.0, part-of parsed id at there ∙ q.1)

pub part-there : (count at : ℕ) (shown parsed : ParsedText) (id : NodeId) → shown ≡ parsed → IsSome (node_with parsed id) → IfSome (node_with shown id) (λ n. count ≡ length (further_parts n.content)) → at < count → IsSome (part_with parsed id at)
part-there count at shown parsed id same there h within =
    let is = count-is count shown parsed id same there h in
    let q = part-within parsed id at there (subst (λ (n : ℕ). at < n) is within) in
    is-some (part_with parsed id at) q.0 q.1

pub drop-part : (parsed : ParsedText) (id : NodeId) (at : ℕ) (q : TreePart) → IsSome (node_with parsed id) → part_with parsed id at ≡ Some q → drop at (parts_of (node_at parsed id)) ≡ q ∷ drop (at + 1) (parts_of (node_at parsed id))
drop-part parsed id at q there e = drop-some (parts_of (node_at parsed id)) at q (sym (part-of parsed id at there) ∙ e)

pub part-is : (shown parsed : ParsedText) (id : NodeId) (at : ℕ) (p : Part) (q : TreePart) → shown ≡ parsed → IfSome (part_with shown id at) (IsPart shown p) → part_with parsed id at ≡ Some q → IsPart parsed p q
part-is shown parsed id at p q same h e =
    at-some (IsPart parsed p) (part_with parsed id at) q e (subst (λ (t : ParsedText). IfSome (part_with t id at) (IsPart t p)) same h)

-- the name of a part, as the code names its list
name-found : (parsed : ParsedText) (o : Option ListId) (q : Option (List Item)) → IsName parsed o q → name_of parsed o ≡ q
name-found parsed None None h = refl
name-found parsed None (Some items) h = absurd h
name-found parsed (Some list) None h = absurd h
name-found parsed (Some list) (Some items) h = ap (λ (x : List Item). Some x) (items-is parsed list items h)

pub name-is : (parsed : ParsedText) (p : Part) (q : TreePart) → IsPart parsed p q → name_of parsed p.name ≡ q.name
name-is parsed p q h = name-found parsed p.name q.name h.name

name-lists : (parsed : ParsedText) (o : Option ListId) (q : Option (List Item)) → IsName parsed o q → IfSome o (λ list. IsSome (list_with parsed list))
name-lists parsed None q h = tt
name-lists parsed (Some list) None h = absurd h
name-lists parsed (Some list) (Some items) h = is-some (list_with parsed list) items h

pub part-lists : (parsed : ParsedText) (p : Part) (q : TreePart) → IsPart parsed p q → IfSome p.name (λ list. IsSome (list_with parsed list))
part-lists parsed p q h = name-lists parsed p.name q.name h.name

pub value-is : (parsed : ParsedText) (p : Part) (q : TreePart) → IsPart parsed p q → items_of parsed p.value ≡ q.value
value-is parsed p q h = items-is parsed p.value q.value h.value

pub value-there : (parsed : ParsedText) (p : Part) (q : TreePart) → IsPart parsed p q → IsSome (list_with parsed p.value)
value-there parsed p q h = is-some (list_with parsed p.value) q.value h.value

pub part-named : (parsed : ParsedText) (p : Part) (q : TreePart) (list : ListId) → p.name ≡ Some list → IsPart parsed p q → q.name ≡ Some (items_of parsed list)
part-named parsed p q list e h = sym (name-is parsed p q h) ∙ ap (name_of parsed) e

pub part-bare : (parsed : ParsedText) (p : Part) (q : TreePart) → p.name ≡ None → IsPart parsed p q → q.name ≡ None
part-bare parsed p q e h = sym (name-is parsed p q h) ∙ ap (name_of parsed) e
