-- What a parsed text shows.
use Rattle.std.proofs.Common.{◌≡◌, ℕ, zero, suc, ◌-◌, ◌<◌, ◌≤◌, ◌==◌, Bool, true, false, if◌then◌else◌, List, [], ◌∷◌, length, get_or, map, reverse, drop, min, ◌+◌, ◌⊎◌, inl, inr, Option, Some, None, option_map, refl, ap, ap₂, sym, subst, ◌∙◌, arith}
use Rattle.std.proofs.lemmas.Bool.{eqb-true}
use Rattle.std.proofs.lemmas.List.{get_or-reverse, length-drop, length-map, length-reverse, length-take}
use Rattle.std.specs.List.{slice_get, flat_map, AllByRecursion}
use Rattle.std.specs.Option.{IfSome, IsSome, is_some, option_and_then, option_to_list, unwrap_or}
use Rattle.wk_tree.proofs.LayoutLemmas.{nodes-long}
use Rattle.wk_tree.specs.Laid.{AllLists, NodeShown, PartShown, listed, node_of, part_of, ranged}
use Rattle.wk_tree.specs.Parsed.{ParsedText, IsParsed, IsName, IsPart, IsTextIn, part_at, node_with, part_with, list_with, nodes_of, tree_of}
use Rattle.wk_tree.specs.declared.item.ListId.{ListId}
use Rattle.wk_tree.specs.declared.item.ListId.TheVariants.{Root, Title, Name, Value}
use Rattle.wk_tree_laws.proofs.PieceLemmas.{all-front, all-back}
use Rattle.wk_tree_laws.specs.Places.{IsItemIn}
use Rattle.std.specs.Str.{IsUtf8}
use Rattle.wk_tree_rules.specs.Trees.{source_of as item_source}
use Rattle.wk_tree.specs.Shown.{from_end, ShowsItems, ShowsName, no_name, a_name, ShowsPart, ShowsParts, no_parts, part_more, ShowsNode, ShowsNodes, no_nodes, node_more}
use Rattle.wk_tree.specs.Tree.{IsLaidAs}
use Rattle.wk_tree.specs.declared.item.Item.{Item}
use Rattle.wk_tree.specs.declared.item.NodeId.{NodeId}
use Rattle.wk_tree.specs.declared.laid.Listed.{Listed}
use Rattle.wk_tree.specs.declared.laid.NodeLists.{NodeLists}
use Rattle.wk_tree.specs.declared.laid.PartLists.{PartLists}
use Rattle.wk_tree.specs.declared.laid.Range.{Range}
use Rattle.wk_tree_rules.specs.Reduction.{pieces_of, reduced}
use Rattle.wk_tree_rules.specs.Selection.{selection, selected}
use Rattle.wk_tree_rules.specs.Tree.{Node, Part, item_of, tree, lists, node_lists, part_lists, title_part, further_parts}
use Rattle.wk_tree_rules.specs.Trees.{Item as TreeItem}
use Rattle.wk_tree_rules.specs.declared.Mode.{Mode}

-- ---- a text that is parsed

pub parsed-is : (mode : Mode) (text whole source : List ℕ) (part : Option (List ℕ)) (root : List Item) (found : List NodeShown) → whole ≡ text → part ≡ selection mode whole → source ≡ unwrap_or part whole
    → IsLaidAs (map item_of (reduced (pieces_of mode source))) root found → IsParsed mode text part root found
unfolding tree
parsed-is mode text whole source part root found w p s h =
    let is : source ≡ selected mode text = s ∙ ap₂ (λ x y. unwrap_or x y) (p ∙ ap (selection mode) w) w in
    let shown = subst (λ x. IsLaidAs (map item_of (reduced (pieces_of mode x))) root found) is h in
    record { source_is = p ∙ ap (selection mode) w; root_shows = shown.root_shows; nodes_show = shown.nodes_show }

-- ---- options

if-some : {X : Type 0} (P : X → Type 0) (o : Option X) → ((x : X) → o ≡ Some x → P x) → IfSome o P
if-some P None f = tt
if-some P (Some x) f = f x refl

some-is : {X : Type 0} (o : Option X) → IsSome o → (x : X) × (o ≡ Some x)
some-is None h = absurd (cc)
some-is (Some x) h = (x, refl)

-- ---- an element by how many stand behind it

pub from_end-get : {X : Type 0} (xs : List X) (n : ℕ) (x : X) → from_end xs n ≡ Some x → (n < length xs) × ((d : X) → get_or xs (length xs - 1 - n) d ≡ x)
from_end-get [] n x e = absurd (cc)
from_end-get {X = X} (y ∷ xs) n x e = by_test (n == length xs) refl e (from_end-get xs n x)
  where
    by_test : (b : Bool) → (n == length xs) ≡ b → (if b then Some y else from_end xs n) ≡ Some x → (from_end xs n ≡ Some x → (n < length xs) × ((d : X) → get_or xs (length xs - 1 - n) d ≡ x))
        → (n < suc (length xs)) × ((d : X) → get_or (y ∷ xs) (suc (length xs) - 1 - n) d ≡ x)
    by_test true f g again =
        let same : n ≡ length xs = eqb-true n (length xs) f in
        let at : suc (length xs) - 1 - n ≡ 0 = omega arith in
        let is : y ≡ x = cc in
        (omega arith, λ d. ap (λ k. get_or (y ∷ xs) k d) at ∙ is)
    by_test false f g again =
        let later = again g in
        let at : suc (length xs) - 1 - n ≡ suc (length xs - 1 - n) = omega (arith, later.0) in
        (omega (arith, later.0), λ d. ap (λ k. get_or (y ∷ xs) k d) at ∙ later.1 d)

get_or-map : {X Y : Type 0} (f : X → Y) (xs : List X) (n : ℕ) (d : X) → get_or (map f xs) n (f d) ≡ f (get_or xs n d)
get_or-map f [] n d = refl
get_or-map f (x ∷ xs) zero d = refl
get_or-map f (x ∷ xs) (suc n) d = get_or-map f xs n d

from_end-reverse : {X Y : Type 0} (f : X → Y) (xs : List X) (n : ℕ) (y : Y) → from_end (map f (reverse xs)) n ≡ Some y → (n < length xs) × ((d : X) → f (get_or xs n d) ≡ y)
from_end-reverse f xs n y e =
    let found = from_end-get (map f (reverse xs)) n y e in
    let long : length (map f (reverse xs)) ≡ length xs = length-map (reverse xs) f ∙ length-reverse xs in
    let within : n < length xs = omega (arith, found.0, long) in
    let at : length xs - 1 - (length (map f (reverse xs)) - 1 - n) ≡ n = omega arith in (
      within,
      λ d.
          ap (λ k. f (get_or xs k d)) (sym at)
          ∙ ap f (sym (get_or-reverse xs (length (map f (reverse xs)) - 1 - n) d (omega arith)))
          ∙ sym (get_or-map f (reverse xs) (length (map f (reverse xs)) - 1 - n) d)
          ∙ found.1 (f d),
    )

record Found (ns : List Node) (shown : List NodeShown) (n : Node) (id : ℕ) : Type 0 where
  s : NodeShown
  is : from_end shown id ≡ Some s
  shows : ShowsNode ns s n

found-node : {ns : List Node} {shown : List NodeShown} {rest : List Node} (id : ℕ) (n : Node) → ShowsNodes ns shown rest → from_end rest id ≡ Some n → Found ns shown n id
found-node id n no_nodes e = absurd (cc)
found-node {ns = ns} id n (node_more {s = s} {n = m} {ss = ss} {rest = rest} h k) e = by_test (id == length rest) refl e (found-node id n k)
  where
    long : length ss ≡ length rest
    long = nodes-long k

    by_test : (b : Bool) → (id == length rest) ≡ b → (if b then Some m else from_end rest id) ≡ Some n → (from_end rest id ≡ Some n → Found ns ss n id) → Found ns (s ∷ ss) n id
    by_test true f g again =
        let same : m ≡ n = cc in
        record { s = s; is = ap (λ b. if b then Some s else from_end ss id) (ap (λ k. id == k) long ∙ f); shows = subst (ShowsNode ns s) same h }
    by_test false f g again =
        let later = again g in
        record { s = later.s; is = ap (λ b. if b then Some s else from_end ss id) (ap (λ k. id == k) long ∙ f) ∙ later.is; shows = later.shows }

none-there : {X : Type 0} (o : Option X) → ((x : X) → o ≡ Some x → ⊥) → o ≡ None
none-there None h = refl
none-there (Some x) h = absurd (h x refl)

module _ (every : AllLists) (ns rest : List Node) (kept : List NodeLists) (id : ℕ) (shows : ShowsNodes ns (map (node_of every) (reverse kept)) rest) where
  node-within : (n : Node) → from_end rest id ≡ Some n → id < length kept
  node-within n e =
      let found = found-node id n shows e in
      (from_end-reverse (node_of every) kept id found.s found.is).0

  pub node-none : length kept ≤ id → from_end rest id ≡ None
  node-none long = none-there (from_end rest id) (λ n e. omega (arith, long, node-within n e))

  pub node-shown : (x : NodeLists) → x ≡ get_or kept id x → IfSome (from_end rest id) (ShowsNode ns (node_of every x))
  node-shown x read =
      if-some (ShowsNode ns (node_of every x)) (from_end rest id) (λ n e.
      let found = found-node id n shows e in
      let is = (from_end-reverse (node_of every) kept id found.s found.is).1 x in
      subst (λ s. ShowsNode ns s n) (sym (ap (node_of every) read ∙ is)) found.shows)

-- ---- parts

pub parts-long : {ns : List Node} {ps : List PartShown} {qs : List Part} → ShowsParts ns ps qs → length ps ≡ length qs
parts-long no_parts = refl
parts-long (part_more h k) = ap suc (parts-long k)

found-part : {ns : List Node} {ps : List PartShown} {qs : List Part} (at : ℕ) (q : Part) → ShowsParts ns ps qs → slice_get qs at ≡ Some q → (at < length ps) × ((d : PartShown) → ShowsPart ns (get_or ps at d) q)
found-part at q no_parts e = absurd (cc)
found-part {ns = ns} zero q (part_more {p = p} {q = r} h k) e =
    let same : r ≡ q = cc in
    (omega arith, λ d. subst (ShowsPart ns p) same h)
found-part (suc at) q (part_more h k) e =
    let later = found-part at q k e in
    (omega (arith, later.0), later.1)

-- a range has nothing behind its length, and nothing behind all
pub ranged-short : {X : Type 0} (all : List X) (range : Range) (at : ℕ) → (range.len ≤ at) ⊎ (length all ≤ range.start + at) → length (ranged all range) ≤ at
ranged-short all range at h =
    let taken : length (ranged all range) ≡ min range.len (length (drop range.start all)) = length-take range.len (drop range.start all) in
    let left : length (drop range.start all) ≡ length all - range.start = length-drop range.start all in
    elim h [ inl short ↦ omega (arith, taken, short) | inr short ↦ omega (arith, taken, left, short) ]

module _ (every : AllLists) (ns : List Node) (lists : NodeLists) where
  pub part-none : (o : Option Node) (at : ℕ) → IfSome o (ShowsNode ns (node_of every lists)) → length (ranged every.parts lists.parts) ≤ at → option_and_then (part_at at) o ≡ None
  part-none None at h long = refl
  part-none (Some n) at h long =
      none-there (slice_get (further_parts n.content) at) (λ q e.
      let found = found-part at q h.parts e in
      omega (arith, found.0, long, length-map (ranged every.parts lists.parts) (part_of every.items)))

  pub part-shown : (o : Option Node) (at : ℕ) (x : PartLists) → IfSome o (ShowsNode ns (node_of every lists)) → x ≡ get_or (ranged every.parts lists.parts) at x → IfSome (option_and_then (part_at at) o) (ShowsPart ns (part_of every.items x))
  part-shown None at x h read = tt
  part-shown (Some n) at x h read =
      if-some (ShowsPart ns (part_of every.items x)) (slice_get (further_parts n.content) at) (λ q e.
      let found = (found-part at q h.parts e).1 (part_of every.items x) in
      subst (λ p. ShowsPart ns p q) (get_or-map (part_of every.items) (ranged every.parts lists.parts) at x ∙ ap (part_of every.items) (sym read)) found)

  pub parts-count : (o : Option Node) (count : ℕ) → count ≡ length (ranged every.parts lists.parts) → IfSome o (ShowsNode ns (node_of every lists)) → IfSome o (λ n. count ≡ length (further_parts n.content))
  parts-count None count e h = tt
  parts-count (Some n) count e h = e ∙ sym (length-map (ranged every.parts lists.parts) (part_of every.items)) ∙ parts-long h.parts

  pub title-shown : (o : Option Node) (cs : List Item) → cs ≡ listed every.items lists.title → IfSome o (ShowsNode ns (node_of every lists)) → IfSome o (λ n. ShowsItems ns cs (title_part n.content))
  title-shown None cs e h = tt
  title-shown (Some n) cs e h = subst (λ t. ShowsItems ns t (title_part n.content)) (sym e) h.title

-- ---- names and values

a_name-shown : {ns : List Node} {cs : List Item} {name : Option (List TreeItem)} → ShowsName ns (Some cs) name → IfSome name (ShowsItems ns cs)
a_name-shown (a_name h) = h

no_name-shown : {ns : List Node} (cs : List Item) {name : Option (List TreeItem)} → ShowsName ns None name → IfSome name (ShowsItems ns cs)
no_name-shown cs no_name = tt

pub name-shown : (every : List Item) (ns : List Node) (lists : PartLists) (o : Option Part) (cs : List Item) → option_map (listed every) lists.name ≡ Some cs → IfSome o (ShowsPart ns (part_of every lists)) → IfSome (option_and_then (λ q. q.name) o) (ShowsItems ns cs)
name-shown every ns lists None cs e h = tt
name-shown every ns lists (Some q) cs e h = a_name-shown (subst (λ n. ShowsName ns n q.name) e h.name)

pub name-none : (every : List Item) (ns : List Node) (lists : PartLists) (o : Option Part) (cs : List Item) → option_map (listed every) lists.name ≡ None → IfSome o (ShowsPart ns (part_of every lists)) → IfSome (option_and_then (λ q. q.name) o) (ShowsItems ns cs)
name-none every ns lists None cs e h = tt
name-none every ns lists (Some q) cs e h = no_name-shown cs (subst (λ n. ShowsName ns n q.name) e h.name)

pub value-shown : (every : List Item) (ns : List Node) (lists : PartLists) (o : Option Part) (cs : List Item) → cs ≡ listed every lists.value → IfSome o (ShowsPart ns (part_of every lists)) → IfSome o (λ q. ShowsItems ns cs q.value)
value-shown every ns lists None cs e h = tt
value-shown every ns lists (Some q) cs e h = subst (λ t. ShowsItems ns t q.value) (sym e) h.value

-- ---- a part and its lists

is-name : {ns : List Node} (parsed : ParsedText) (every : List Item) (id : NodeId) (at : ℕ) (q : Part) (kept : Option Listed) (name : Option (List TreeItem)) → part_with parsed id at ≡ Some q → q.name ≡ name → ShowsName ns (option_map (listed every) kept) name → IsName parsed (if is_some kept then Some (Name id at) else None) name
is-name parsed every id at q None name there is no_name = tt
is-name parsed every id at q (Some l) name there is (a_name h) = ap (option_and_then (λ (p : Part). p.name)) there ∙ is

pub is-part : (parsed : ParsedText) (every : List Item) (id : NodeId) (at : ℕ) (lists : PartLists) (name : Option ListId) → name ≡ (if is_some lists.name then Some (Name id at) else None) → IfSome (part_with parsed id at) (ShowsPart (nodes_of parsed) (part_of every lists))
    → IfSome (part_with parsed id at) (IsPart parsed (record { name = name; value = Value id at; start = lists.start; len = lists.len }))
is-part parsed every id at lists name is h =
    if-some (IsPart parsed (record { name = name; value = Value id at; start = lists.start; len = lists.len })) (part_with parsed id at) (λ q e.
    let shows : ShowsPart (nodes_of parsed) (part_of every lists) q = subst (λ o. IfSome o (ShowsPart (nodes_of parsed) (part_of every lists))) e h in
    record {
      name = subst (λ n. IsName parsed n q.name) (sym is) (is-name parsed every id at q lists.name q.name e refl shows.name);
      value = ap (option_map (λ (p : Part). p.value)) e;
      start = shows.start;
      len = shows.len;
    })

-- ---- lists among the lists of a tree

module _ (P : List TreeItem → Type 0) where
  nodes-front : (ns : List Node) (id : ℕ) (n : Node) → AllByRecursion P (flat_map node_lists ns) → from_end ns id ≡ Some n → AllByRecursion P (node_lists n)
  nodes-front [] id n all e = absurd (cc)
  nodes-front (m ∷ ns) id n all e = by_test (id == length ns) e (nodes-front ns id n (all-back P (node_lists m) (flat_map node_lists ns) all))
    where
      by_test : (b : Bool) → (if b then Some m else from_end ns id) ≡ Some n → (from_end ns id ≡ Some n → AllByRecursion P (node_lists n)) → AllByRecursion P (node_lists n)
      by_test true g again =
          let same : m ≡ n = cc in
          subst (λ x. AllByRecursion P (node_lists x)) same (all-front P (node_lists m) (flat_map node_lists ns) all)
      by_test false g again = again g

  parts-front : (qs : List Part) (at : ℕ) (q : Part) → AllByRecursion P (flat_map part_lists qs) → slice_get qs at ≡ Some q → AllByRecursion P (part_lists q)
  parts-front [] at q all e = absurd (cc)
  parts-front (r ∷ qs) zero q all e =
      let same : r ≡ q = cc in
      subst (λ x. AllByRecursion P (part_lists x)) same (all-front P (part_lists r) (flat_map part_lists qs) all)
  parts-front (r ∷ qs) (suc at) q all e = parts-front qs at q (all-back P (part_lists r) (flat_map part_lists qs) all) e

  name-front : (name : Option (List TreeItem)) (l : List TreeItem) → AllByRecursion P (option_to_list name) → name ≡ Some l → P l
  name-front None l all e = absurd (cc)
  name-front (Some m) l all e =
      let same : m ≡ l = cc in
      subst P same all.0

  value-front : (q : Part) → AllByRecursion P (part_lists q) → P q.value
  value-front q all = (all-back P (option_to_list q.name) (q.value ∷ []) all).0

  title-among : (o : Option Node) → ((n : Node) → o ≡ Some n → AllByRecursion P (node_lists n)) → IfSome (option_map (λ n. title_part n.content) o) P
  title-among None f = tt
  title-among (Some n) f = (f n refl).0

  part-among : (o : Option Node) (at : ℕ) → ((n : Node) → o ≡ Some n → AllByRecursion P (node_lists n)) → (q : Part) → option_and_then (part_at at) o ≡ Some q → AllByRecursion P (part_lists q)
  part-among None at f q e = absurd (cc)
  part-among (Some n) at f q e = parts-front (further_parts n.content) at q (f n refl).1 e

  name-among : (o : Option Part) → ((q : Part) → o ≡ Some q → AllByRecursion P (part_lists q)) → IfSome (option_and_then (λ q. q.name) o) P
  name-among None f = tt
  name-among (Some q) f = if-some P q.name (λ l e. name-front q.name l (all-front P (option_to_list q.name) (q.value ∷ []) (f q refl)) e)

  value-among : (o : Option Part) → ((q : Part) → o ≡ Some q → AllByRecursion P (part_lists q)) → IfSome (option_map (λ q. q.value) o) P
  value-among None f = tt
  value-among (Some q) f = value-front q (f q refl)

  -- what holds of all lists of a tree holds of the list of a name
  pub list-among : (parsed : ParsedText) (list : ListId) → AllByRecursion P (lists (tree_of parsed)) → IfSome (list_with parsed list) P
  list-among parsed Root all = all.0
  list-among parsed (Title id) all = title-among (node_with parsed id) (λ n e. nodes-front (nodes_of parsed) id.0 n all.1 e)
  list-among parsed (Name id at) all = name-among (part_with parsed id at) (part-among (node_with parsed id) at (λ n e. nodes-front (nodes_of parsed) id.0 n all.1 e))
  list-among parsed (Value id at) all = value-among (part_with parsed id at) (part-among (node_with parsed id) at (λ n e. nodes-front (nodes_of parsed) id.0 n all.1 e))

-- each item of a list stands in the text that is read, and is UTF-8
pub texts-both : (source : List ℕ) (items : List TreeItem) → AllByRecursion (IsItemIn source) items → AllByRecursion (λ i. IsUtf8 (item_source i)) items → AllByRecursion (IsTextIn source) items
texts-both source [] a b = tt
texts-both source (i ∷ items) a b = (record { place = a.0; utf8 = b.0 }, texts-both source items a.1 b.1)

pub all-texts : (source : List ℕ) (found : List (List TreeItem)) → AllByRecursion (AllByRecursion (IsItemIn source)) found → AllByRecursion (AllByRecursion (λ i. IsUtf8 (item_source i))) found → AllByRecursion (AllByRecursion (IsTextIn source)) found
all-texts source [] a b = tt
all-texts source (items ∷ found) a b = (texts-both source items a.0 b.0, all-texts source found a.1 b.1)
