-- The items of a list, as the code finds them, and what they give one behind the other.
use Rattle.std.proofs.Common.{◌≡◌, ℕ, zero, suc, ◌+◌, ◌-◌, ◌*◌, ◌<◌, ◌≤◌, ◌==◌, Bool, false, true, List, [], ◌∷◌, ◌++◌, length, take, drop, get_or, Option, Some, None, IsSome, refl, sym, ap, ap₂, subst, ◌∙◌, arith, append_assoc, append-nil}
use Rattle.std.specs.List.{slice_get, slice_range, list_any, AllByRecursion}
use Rattle.std.specs.Option.{IfSome, is_some}
use Rattle.std.specs.Prelude.{not, ◌||◌, if◌then◌else◌}
use Rattle.std.specs.Str.{IsUtf8}
use Rattle.std.proofs.lemmas.List.{drop_all, length-append, length-replicate, take-append-drop}
use Rattle.std.proofs.lemmas.Option.{slice_get-get_or}
use Rattle.wk_tree.specs.Parsed.{ParsedText, IsTextIn, list_with, node_with, nodes_of, source_of}
use Rattle.wk_tree.specs.Shown.{from_end, ShowsItem, shows_plain, shows_sealed, shows_nothing, shows_node, ShowsItems, no_items, one_more}
use Rattle.wk_tree.specs.declared.item.Item.{Item}
use Rattle.wk_tree.specs.declared.item.Item.TheVariants.{Plain, Sealed, Nothing, Node}
use Rattle.wk_tree.specs.declared.item.ListId.{ListId}
use Rattle.wk_tree.specs.declared.item.NodeId.{NodeId}
use Rattle.wk_tree_rules.specs.Tree.{Node as TreeNode, node_length}
use Rattle.wk_tree_rules.specs.Trees.{Item as TreeItem, plain, sealed, nothing, node, NodeKind, template, argument, Content, content_source, items_source, opening_braces, closing_braces, width, source_of as item_source}
use Rattle.wk_tree_laws.proofs.CutLemmas.{back-at_ascii, behind_ascii, front-utf8}
use Rattle.wk_tree_laws.specs.Places.{IsNodeIn, IsPartAt, start_of}
use Rattle.wk_view_rules.specs.Expansions.{Expansion, give}
use Rattle.wk_subst_rules.specs.Calls.{is_node, is_sealed}
use Rattle.wk_subst_rules.specs.Places.{Bound, Place}
use Rattle.wk_subst_rules.specs.Substitution.{item_text}
use Rattle.wk_subst.specs.Nodes.{IsFilled, IsShown, IsThere, adds, charged_node, given_text, is_shown_node, is_shown_sealed, items_of, list_then, node_at, source_of_node, span_by, stays_in}
use Rattle.wk_subst.proofs.NodeLaws.{drop-some, is-some, items-by, node-is, node-there, some-within}
use Rattle.wk_subst.proofs.PlanLaws.{list-end, list-more}

-- ---- items as they are shown

pub shown-length : {ns : List TreeNode} {cs : List Item} {items : List TreeItem} → ShowsItems ns cs items → length cs ≡ length items
shown-length no_items = refl
shown-length (one_more h rest) = ap suc (shown-length rest)

shown-at : {ns : List TreeNode} {cs : List Item} {items : List TreeItem} (at : ℕ) (c : Item) (i : TreeItem) → ShowsItems ns cs items → slice_get cs at ≡ Some c → slice_get items at ≡ Some i → ShowsItem ns c i
shown-at at c i no_items e f = absurd (cc)
shown-at {ns = ns} zero c i (one_more {c = d} {i = j} h rest) e f =
    let same : d ≡ c = cc in
    let is : j ≡ i = cc in
    subst (λ x. ShowsItem ns x i) same (subst (λ y. ShowsItem ns d y) is h)
shown-at (suc at) c i (one_more h rest) e f = shown-at at c i rest e f

all-at : {X : Type 0} (P : X → Type 0) (xs : List X) (at : ℕ) (x : X) → AllByRecursion P xs → slice_get xs at ≡ Some x → P x
all-at P [] at x h e = absurd (cc)
all-at P (y ∷ xs) zero x h e = let same : y ≡ x = cc in subst P same h.0
all-at P (y ∷ xs) (suc at) x h e = all-at P xs at x h.1 e

-- the items of a list, as they are kept
pub record AreItems (parsed : ParsedText) (list : ListId) (cs : List Item) : Type 0 where
  pub shows : ShowsItems (nodes_of parsed) cs (items_of parsed list)
  pub texts : AllByRecursion (IsTextIn (source_of parsed)) (items_of parsed list)

pub are-items : (parsed : ParsedText) (list : ListId) (cs found : List Item) → cs ≡ found → IsSome (list_with parsed list) → IfSome (list_with parsed list) (ShowsItems (nodes_of parsed) found) → IfSome (list_with parsed list) (AllByRecursion (IsTextIn (source_of parsed))) → AreItems parsed list cs
are-items parsed list cs found is there shows texts = record {
  shows = subst (λ (x : List Item). ShowsItems (nodes_of parsed) x (items_of parsed list)) (sym is) (items-by (ShowsItems (nodes_of parsed) found) parsed list there shows);
  texts = items-by (AllByRecursion (IsTextIn (source_of parsed))) parsed list there texts;
}

-- an item of the code, and what it shows
pub record IsItemAt (parsed : ParsedText) (list : ListId) (at : ℕ) (c : Item) : Type 0 where
  pub i : TreeItem
  pub there : slice_get (items_of parsed list) at ≡ Some i
  pub shown : IsShown parsed c i

pub item-at : (parsed : ParsedText) (list : ListId) (cs : List Item) (d : Item) (at : ℕ) → AreItems parsed list cs → at < length cs → IsItemAt parsed list at (get_or cs at d)
item-at parsed list cs d at kept within =
    let long = shown-length kept.shows in
    let i = some-within (items_of parsed list) at (subst (λ n. at < n) long within) in
    record {
      i = i.0;
      there = i.1;
      shown = record {
        shows = shown-at at (get_or cs at d) i.0 kept.shows (slice_get-get_or cs at d within) i.1;
        text = all-at (IsTextIn (source_of parsed)) (items_of parsed list) at i.0 kept.texts i.1;
      };
    }

-- ---- one item

shows-there : (parsed : ParsedText) {c : Item} {i : TreeItem} → ShowsItem (nodes_of parsed) c i → IsThere parsed c
shows-there parsed (shows_plain start source) = tt
shows-there parsed (shows_sealed start source) = tt
shows-there parsed (shows_nothing start source) = tt
shows-there parsed (shows_node id kind start content e) = is-some (node_with parsed id) (record { kind = kind; start = start; content = content }) e

pub shown-there : (parsed : ParsedText) (c : Item) (i : TreeItem) → IsShown parsed c i → IsThere parsed c
shown-there parsed c i h = shows-there parsed h.shows

pub source-length : (kind : NodeKind) (content : Content) → 2 * width kind + length (content_source content) ≡ length (opening_braces kind ++ (content_source content ++ closing_braces kind))
source-length kind content =
    let opening : ℕ = 123 in
    let closing : ℕ = 125 in
    omega (arith, length-append (opening_braces kind) (content_source content ++ closing_braces kind), length-append (content_source content) (closing_braces kind), length-replicate (width kind) opening, length-replicate (width kind) closing)

-- where an item stands, and how long it is
shows-span : (parsed : ParsedText) {c : Item} {i : TreeItem} → ShowsItem (nodes_of parsed) c i → span_by parsed c ≡ (start_of i, length (item_source i))
unfolding item_source
shows-span parsed (shows_plain start source) = refl
shows-span parsed (shows_sealed start source) = refl
shows-span parsed (shows_nothing start source) = refl
shows-span parsed (shows_node id kind start content e) =
    ap (λ (n : TreeNode). (n.start, node_length n)) (node-is parsed id (record { kind = kind; start = start; content = content }) e)
    ∙ ap (λ (n : ℕ). (start, n)) (source-length kind content)

module _ (parsed : ParsedText) (c : Item) (i : TreeItem) (h : IsShown parsed c i) (source : List ℕ) (is : source ≡ source_of parsed) (start len : ℕ) (at : start ≡ (span_by parsed c).0) (long : len ≡ (span_by parsed c).1) where
  starts : start ≡ start_of i
  starts = at ∙ ap (λ (s : ℕ × ℕ). s.0) (shows-span parsed h.shows)

  lasts : len ≡ length (item_source i)
  lasts = long ∙ ap (λ (s : ℕ × ℕ). s.1) (shows-span parsed h.shows)

  pub item-within : start + len ≤ length source
  item-within = subst (λ (t : List ℕ). start + len ≤ length t) (sym is) (subst (λ (n : ℕ). n + len ≤ length (source_of parsed)) (sym starts) (subst (λ (n : ℕ). start_of i + n ≤ length (source_of parsed)) (sym lasts) h.text.place.within))

  pub item-same : slice_range source start (start + len) ≡ item_source i
  item-same =
      ap (λ (t : List ℕ). slice_range t start (start + len)) is
      ∙ ap₂ (λ (a b : ℕ). slice_range (source_of parsed) a (a + b)) starts lasts
      ∙ h.text.place.same

  pub item-utf8 : IsUtf8 (slice_range source start (start + len))
  item-utf8 = subst IsUtf8 (sym item-same) h.text.utf8

-- ---- tests of items

shows-node : (parsed : ParsedText) {c : Item} {i : TreeItem} → ShowsItem (nodes_of parsed) c i → is_shown_node c ≡ is_node i
shows-node parsed (shows_plain start source) = refl
shows-node parsed (shows_sealed start source) = refl
shows-node parsed (shows_nothing start source) = refl
shows-node parsed (shows_node id kind start content e) = refl

shows-sealed : (parsed : ParsedText) {c : Item} {i : TreeItem} → ShowsItem (nodes_of parsed) c i → is_shown_sealed c ≡ is_sealed i
shows-sealed parsed (shows_plain start source) = refl
shows-sealed parsed (shows_sealed start source) = refl
shows-sealed parsed (shows_nothing start source) = refl
shows-sealed parsed (shows_node id kind start content e) = refl

pub any-node : (parsed : ParsedText) {cs : List Item} {items : List TreeItem} → ShowsItems (nodes_of parsed) cs items → list_any is_shown_node cs ≡ list_any is_node items
any-node parsed no_items = refl
any-node parsed (one_more h rest) = ap₂ (λ (a b : Bool). a || b) (shows-node parsed h) (any-node parsed rest)

pub any-sealed : (parsed : ParsedText) {cs : List Item} {items : List TreeItem} → ShowsItems (nodes_of parsed) cs items → list_any is_shown_sealed cs ≡ list_any is_sealed items
any-sealed parsed no_items = refl
any-sealed parsed (one_more h rest) = ap₂ (λ (a b : Bool). a || b) (shows-sealed parsed h) (any-sealed parsed rest)

-- ---- the text of a list

-- the items before a place as text
pub record IsRead (parsed : ParsedText) (list : ListId) (at : ℕ) (text : List ℕ) : Type 0 where
  pub same : text ++ items_source (drop at (items_of parsed list)) ≡ items_source (items_of parsed list)

pub read-none : (parsed : ParsedText) (list : ListId) → IsRead parsed list 0 []
read-none parsed list = record { same = refl }

pub read-more : (parsed : ParsedText) (list : ListId) (at : ℕ) (c : Item) (text one next : List ℕ) → IsRead parsed list at text → (k : IsItemAt parsed list at c) → one ≡ item_source k.i → next ≡ text ++ one → IsRead parsed list (at + 1) next
read-more parsed list at c text one next h k one_is next_is =
    let rest = items_source (drop (at + 1) (items_of parsed list)) in
    record {
      same =
          ap (λ (x : List ℕ). x ++ rest) (next_is ∙ ap (λ (x : List ℕ). text ++ x) one_is)
          ∙ append_assoc text (item_source k.i) rest
          ∙ ap (λ (items : List TreeItem). text ++ items_source items) (sym (drop-some (items_of parsed list) at k.i k.there))
          ∙ h.same;
    }

pub read-all : (parsed : ParsedText) (list : ListId) (cs : List Item) (at : ℕ) (text : List ℕ) → AreItems parsed list cs → length cs ≤ at → IsRead parsed list at text → text ≡ items_source (items_of parsed list)
read-all parsed list cs at text kept done h =
    let none : drop at (items_of parsed list) ≡ [] = drop_all at (items_of parsed list) (omega (arith, done, shown-length kept.shows)) in
    sym (append-nil text) ∙ ap (λ (items : List TreeItem). text ++ items_source items) (sym none) ∙ h.same

-- what an item gives that isn't left out
given-shown : (parsed : ParsedText) {c : Item} {i : TreeItem} (stays : Bool) → ShowsItem (nodes_of parsed) c i → ((start len : ℕ) → c ≡ Nothing start len → ⊥) → item_source i ≡ given_text stays i
unfolding item_source
given-shown parsed stays (shows_plain start source) other = refl
given-shown parsed stays (shows_sealed start source) other = refl
given-shown parsed stays (shows_nothing start source) other = absurd (other start (length source) refl)
given-shown parsed stays (shows_node id kind start content e) other = refl

pub given-not : (parsed : ParsedText) (c : Item) (i : TreeItem) (stays : Bool) → IsShown parsed c i → ((start len : ℕ) → c ≡ Nothing start len → ⊥) → item_source i ≡ given_text stays i
given-not parsed c i stays h other = given-shown parsed stays h.shows other

given-all : (i : TreeItem) → item_source i ≡ given_text true i
unfolding item_source
given-all (plain start source) = refl
given-all (sealed start source) = refl
given-all (nothing start source) = refl
given-all (node kind start content) = refl

pub given-stays : (i : TreeItem) (stays : Bool) → stays ≡ true → item_source i ≡ given_text stays i
given-stays i stays e = given-all i ∙ ap (λ (s : Bool). given_text s i) (sym e)

pub not-node : (c : Item) → ((id : NodeId) → c ≡ Node id → ⊥) → is_shown_node c ≡ false
not-node (Plain start len) h = refl
not-node (Sealed start len) h = refl
not-node (Nothing start len) h = refl
not-node (Node id) h = absurd (h id refl)

-- ---- a list up to its next node

pub record IsAdded (parsed : ParsedText) (list : ListId) (start at : ℕ) (stays : Bool) (out new : List ℕ) : Type 0 where
  pub same : (few : ℕ) (place : Place) (left : List ℕ → Expansion (List ℕ)) → stays_in place ≡ stays → list_then few place (drop start (items_of parsed list)) left out ≡ list_then few place (drop at (items_of parsed list)) left new

pub added-none : (parsed : ParsedText) (list : ListId) (start : ℕ) (stays : Bool) (out : List ℕ) → IsAdded parsed list start start stays out out
added-none parsed list start stays out = record { same = λ few place left is. refl }

gives-silent : (bound : Option (List Bound)) (within : _) (source : List ℕ) (of_node : NodeKind → Content → Expansion (List ℕ)) (start : ℕ)
    → item_text (record { within = within; bound = bound }) of_node (nothing start source) ≡ give (given_text (not (is_some bound)) (nothing start source))
gives-silent None within source of_node start = refl
gives-silent (Some all) within source of_node start = refl

-- an item that is no node gives its text
gives-text : (few : ℕ) (place : Place) (i : TreeItem) (stays : Bool) → is_node i ≡ false → stays_in place ≡ stays → item_text place (charged_node few place) i ≡ give (given_text stays i)
gives-text few place (plain start source) stays e is = refl
gives-text few place (sealed start source) stays e is = refl
gives-text few place (nothing start source) stays e is = gives-silent place.bound place.within source (charged_node few place) start ∙ ap (λ (s : Bool). give (given_text s (nothing start source))) is
gives-text few place (node kind start content) stays e is = cc

module _ (parsed : ParsedText) (list : ListId) (start at : ℕ) (stays : Bool) (out new : List ℕ) (h : IsAdded parsed list start at stays out new) where
  pub added-more : (c : Item) (k : IsItemAt parsed list at c) (next : List ℕ) → is_shown_node c ≡ false → next ≡ new ++ given_text stays k.i → IsAdded parsed list start (at + 1) stays out next
  added-more c k next plainly next_is = record {
    same = λ few place left is.
        h.same few place left is
        ∙ ap (λ (items : List TreeItem). list_then few place items left new) (drop-some (items_of parsed list) at k.i k.there)
        ∙ list-more few place left new k.i (drop (at + 1) (items_of parsed list))
        ∙ ap (λ (e : Expansion (List ℕ)). adds e (list_then few place (drop (at + 1) (items_of parsed list)) left) new) (gives-text few place k.i stays (sym (shows-node parsed k.shown.shows) ∙ plainly) is)
        ∙ ap (λ (text : List ℕ). list_then few place (drop (at + 1) (items_of parsed list)) left text) (sym next_is);
  }

  pub filled-end : (cs : List Item) → AreItems parsed list cs → length cs ≤ at → IsFilled parsed list start stays out (length cs, None) new
  filled-end cs kept done = λ few place left is.
      let none : drop at (items_of parsed list) ≡ [] = drop_all at (items_of parsed list) (omega (arith, done, shown-length kept.shows)) in
      h.same few place left is
      ∙ ap (λ (items : List TreeItem). list_then few place items left new) none
      ∙ list-end few place left new

  node-shown : (id : NodeId) (i : TreeItem) → ShowsItem (nodes_of parsed) (Node id) i → IsSome (node_with parsed id) × (i ≡ node (node_at parsed id).kind (node_at parsed id).start (node_at parsed id).content)
  node-shown id i (shows_node other kind begin content e) = (
    is-some (node_with parsed id) (record { kind = kind; start = begin; content = content }) e,
    ap (λ (n : TreeNode). node n.kind n.start n.content) (sym (node-is parsed id (record { kind = kind; start = begin; content = content }) e)),
  )

  pub filled-node : (c : Item) (k : IsItemAt parsed list at c) (id : NodeId) → c ≡ Node id → IsFilled parsed list start stays out (at + 1, Some id) new
  filled-node c k id c_is =
      let shown = node-shown id k.i (subst (λ (x : Item). ShowsItem (nodes_of parsed) x k.i) c_is k.shown.shows) in (
        shown.0,
        λ few place left is.
            h.same few place left is
            ∙ ap (λ (items : List TreeItem). list_then few place items left new) (drop-some (items_of parsed list) at k.i k.there)
            ∙ list-more few place left new k.i (drop (at + 1) (items_of parsed list))
            ∙ ap (λ (i : TreeItem). adds (item_text place (charged_node few place) i) (list_then few place (drop (at + 1) (items_of parsed list)) left) new) shown.1,
      )

-- ---- the source of a node

end-by : {X : Type 0} (P : X → Type 0) (y x : X) (later : Option X) (b : Bool) → P y → (later ≡ Some x → P x) → (if b then Some y else later) ≡ Some x → P x
end-by P y x later true h k e = let same : y ≡ x = cc in subst P same h
end-by P y x later false h k e = k e

from-end-in : {X : Type 0} (P : X → Type 0) (xs : List X) (n : ℕ) (x : X) → AllByRecursion P xs → from_end xs n ≡ Some x → P x
from-end-in P [] n x h e = cc
from-end-in P (y ∷ xs) n x h e = end-by P y x (from_end xs n) (n == length xs) h.0 (from-end-in P xs n x h.1) e

pub node-stands : (parsed : ParsedText) (id : NodeId) → IsSome (node_with parsed id) → AllByRecursion (IsNodeIn (source_of parsed)) (nodes_of parsed) → IsNodeIn (source_of parsed) (node_at parsed id)
node-stands parsed id there h = from-end-in (IsNodeIn (source_of parsed)) (nodes_of parsed) id.0 (node_at parsed id) h (node-there parsed id there)

braced-utf8 : (kind : NodeKind) (front mid rest : List ℕ) → IsUtf8 (front ++ ((opening_braces kind ++ (mid ++ closing_braces kind)) ++ rest)) → IsUtf8 (opening_braces kind ++ (mid ++ closing_braces kind))
braced-utf8 template front mid rest u =
    let part : List ℕ = 123 ∷ 123 ∷ (mid ++ 125 ∷ 125 ∷ []) in
    let most : List ℕ = 123 ∷ 123 ∷ (mid ++ 125 ∷ []) in
    let whole : IsUtf8 (part ++ rest) = back-at_ascii front 123 ((123 ∷ (mid ++ 125 ∷ 125 ∷ [])) ++ rest) (omega arith) u in
    let same : part ++ rest ≡ most ++ 125 ∷ rest = ap (λ (x : List ℕ). 123 ∷ 123 ∷ x) (append_assoc mid (125 ∷ 125 ∷ []) rest ∙ sym (append_assoc mid (125 ∷ []) (125 ∷ rest))) in
    front-utf8 part rest whole (behind_ascii 125 rest (omega arith) (back-at_ascii most 125 rest (omega arith) (subst IsUtf8 same whole)))
braced-utf8 argument front mid rest u =
    let part : List ℕ = 123 ∷ 123 ∷ 123 ∷ (mid ++ 125 ∷ 125 ∷ 125 ∷ []) in
    let most : List ℕ = 123 ∷ 123 ∷ 123 ∷ (mid ++ 125 ∷ 125 ∷ []) in
    let whole : IsUtf8 (part ++ rest) = back-at_ascii front 123 ((123 ∷ 123 ∷ (mid ++ 125 ∷ 125 ∷ 125 ∷ [])) ++ rest) (omega arith) u in
    let same : part ++ rest ≡ most ++ 125 ∷ rest = ap (λ (x : List ℕ). 123 ∷ 123 ∷ 123 ∷ x) (append_assoc mid (125 ∷ 125 ∷ 125 ∷ []) rest ∙ sym (append_assoc mid (125 ∷ 125 ∷ []) (125 ∷ rest))) in
    front-utf8 part rest whole (behind_ascii 125 rest (omega arith) (back-at_ascii most 125 rest (omega arith) (subst IsUtf8 same whole)))

part-utf8 : (source : List ℕ) (start : ℕ) (kind : NodeKind) (mid : List ℕ) → IsUtf8 source → IsPartAt source start (opening_braces kind ++ (mid ++ closing_braces kind)) → IsUtf8 (opening_braces kind ++ (mid ++ closing_braces kind))
part-utf8 source start kind mid utf8 h =
    let part = opening_braces kind ++ (mid ++ closing_braces kind) in
    let n = start + length part - start in
    let behind = drop start source in
    let split : source ≡ take start source ++ (part ++ drop n behind) =
    sym (take-append-drop start source) ∙ ap (λ (x : List ℕ). take start source ++ x) (sym (take-append-drop n behind) ∙ ap (λ (x : List ℕ). x ++ drop n behind) h.same)
    in
    braced-utf8 kind (take start source) mid (drop n behind) (subst IsUtf8 split utf8)

module _ (parsed : ParsedText) (n : TreeNode) (h : IsNodeIn (source_of parsed) n) (source : List ℕ) (is : source ≡ source_of parsed) (start len : ℕ) (at : start ≡ n.start) (long : len ≡ node_length n) where
  node-lasts : len ≡ length (source_of_node n)
  node-lasts = long ∙ source-length n.kind n.content

  pub node-within : start + len ≤ length source
  node-within = subst (λ (t : List ℕ). start + len ≤ length t) (sym is) (subst (λ (m : ℕ). m + len ≤ length (source_of parsed)) (sym at) (subst (λ (m : ℕ). n.start + m ≤ length (source_of parsed)) (sym node-lasts) h.whole.within))

  pub node-same : slice_range source start (start + len) ≡ source_of_node n
  node-same =
      ap (λ (t : List ℕ). slice_range t start (start + len)) is
      ∙ ap₂ (λ (a b : ℕ). slice_range (source_of parsed) a (a + b)) at node-lasts
      ∙ h.whole.same

  pub node-utf8 : IsUtf8 (source_of parsed) → IsUtf8 (slice_range source start (start + len))
  node-utf8 utf8 = subst IsUtf8 (sym node-same) (part-utf8 (source_of parsed) n.start n.kind (content_source n.content) utf8 h.whole)
