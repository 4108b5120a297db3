-- The items of a list, as the code finds them, and what they give one behind the other.
use Rattle.std.proofs.Common.{◌≡◌, ℕ, zero, suc, ◌+◌, ◌<◌, ◌≤◌, false, true, List, [], ◌∷◌, ◌++◌, length, drop, get_or, Option, Some, None, IsSome, refl, sym, ap, subst, ◌∙◌, append_assoc, append-nil}
use Rattle.std.specs.List.{slice_get, slice_range, AllByRecursion}
use Rattle.std.specs.Option.{IfSome, option_and_then}
use Rattle.std.specs.Str.{IsUtf8}
use Rattle.std.proofs.lemmas.List.{drop_all}
use Rattle.std.proofs.lemmas.Option.{slice_get-get_or}
use Rattle.wk_text_rules.specs.Marked.{all_plain, all_sealed}
use Rattle.wk_text_rules.specs.Titles.{PageTitle}
use Rattle.wk_out.specs.Runs.{marked}
use Rattle.wk_tree.specs.Parsed.{ParsedText, IsTextIn, list_with, nodes_of, source_of}
use Rattle.wk_tree.specs.Shown.{ShowsItem, shows_plain, shows_sealed, shows_nothing, shows_node, ShowsItems, no_items, one_more}
use Rattle.wk_tree.specs.declared.item.Item.{Item}
use Rattle.wk_tree.specs.declared.item.Item.TheVariants.{Plain, Sealed, Nothing, Node}
use Rattle.wk_tree.specs.declared.item.ListId.{ListId}
use Rattle.wk_tree.specs.declared.item.NodeId.{NodeId}
use Rattle.wk_tree_rules.specs.Tree.{Node as TreeNode}
use Rattle.wk_tree_rules.specs.Trees.{Item as TreeItem, plain, sealed, nothing, source_of as item_source}
use Rattle.wk_view_rules.specs.Expand.{expand, item_output, items_output}
use Rattle.wk_view_rules.specs.Expansions.{Expansion, Output, Progress, give, ◌>>=◌}
use Rattle.wk_view_rules.specs.Frames.{Frame}
use Rattle.wk_view_rules.specs.Plans.{Plan, gives, asks, and_then}
use Rattle.wk_expand.specs.Items.{item_with, text_at, IsItem, IsTextAt}
use Rattle.wk_expand.specs.Nodes.{charged_node, rest_list}
use Rattle.wk_expand.specs.Work.{IsFilled}
use Rattle.wk_expand.proofs.PartLaws.{some_of, some_part, at_some}
use Rattle.wk_expand.proofs.NodeLaws.{some_within}
use Rattle.wk_expand.proofs.WrittenLaws.{plans-regrouped, drop-some}

-- ---- items as they are shown

shown-length : {ns : List TreeNode} {cs : List Item} {items : List TreeItem} → ShowsItems ns cs items → length cs ≡ length items
shown-length no_items = refl
shown-length (one_more h rest) = ap suc (shown-length rest)

shown-at : {ns : List TreeNode} {cs : List Item} {items : List TreeItem} (at : ℕ) (c : Item) (i : TreeItem) → ShowsItems ns cs items → slice_get cs at ≡ Some c → slice_get items at ≡ Some i → ShowsItem ns c i
shown-at at c i no_items e f = absurd (cc)
shown-at {ns = ns} zero c i (one_more {c = d} {i = j} h rest) e f =
    let same : d ≡ c = cc in
    let is : j ≡ i = cc in
    subst (λ x. ShowsItem ns x i) same (subst (λ y. ShowsItem ns d y) is h)
shown-at (suc at) c i (one_more h rest) e f = shown-at at c i rest e f

all-at : {X : Type 0} (P : X → Type 0) (xs : List X) (at : ℕ) (x : X) → AllByRecursion P xs → slice_get xs at ≡ Some x → P x
all-at P [] at x h e = absurd (cc)
all-at P (y ∷ xs) zero x h e = let same : y ≡ x = cc in subst P same h.0
all-at P (y ∷ xs) (suc at) x h e = all-at P xs at x h.1 e

item-is : (parsed : ParsedText) {c : Item} {i : TreeItem} → ShowsItem (nodes_of parsed) c i → IsTextIn (source_of parsed) i → IsItem parsed c i
unfolding item_source
item-is parsed (shows_plain start source) h = (ap (plain start) (sym h.place.same), record { within = h.place.within; utf8 = subst IsUtf8 (sym h.place.same) h.utf8 })
item-is parsed (shows_sealed start source) h = (ap (sealed start) (sym h.place.same), record { within = h.place.within; utf8 = subst IsUtf8 (sym h.place.same) h.utf8 })
item-is parsed (shows_nothing start source) h = ap (nothing start) (sym h.place.same)
item-is parsed (shows_node id kind start content is) h = (record { kind = kind; start = start; content = content }, is, refl)

module _ (parsed : ParsedText) (at : ℕ) (cs : List Item) where
  item-in : (c : Item) (items : List TreeItem) → ShowsItems (nodes_of parsed) cs items → AllByRecursion (IsTextIn (source_of parsed)) items → slice_get cs at ≡ Some c → (o : Option TreeItem) → slice_get items at ≡ o → IfSome o (IsItem parsed c)
  item-in c items h k e None f = tt
  item-in c items h k e (Some i) f = item-is parsed (shown-at at c i h e f) (all-at (IsTextIn (source_of parsed)) items at i k f)

  item-some : (c : Item) (o : Option (List TreeItem)) → IfSome o (ShowsItems (nodes_of parsed) cs) → IfSome o (AllByRecursion (IsTextIn (source_of parsed))) → slice_get cs at ≡ Some c → IfSome (option_and_then (λ items. slice_get items at) o) (IsItem parsed c)
  item-some c None h k e = tt
  item-some c (Some items) h k e = item-in c items h k e (slice_get items at) refl

  pub item-found : (list : ListId) (d : Item) → IfSome (list_with parsed list) (ShowsItems (nodes_of parsed) cs) → IfSome (list_with parsed list) (AllByRecursion (IsTextIn (source_of parsed))) → at < length cs → IfSome (item_with parsed list at) (IsItem parsed (get_or cs at d))
  item-found list d h k within = item-some (get_or cs at d) (list_with parsed list) h k (slice_get-get_or cs at d within)

count-some : (ns : List TreeNode) (cs : List Item) (n : ℕ) (o : Option (List TreeItem)) → n ≡ length cs → IfSome o (ShowsItems ns cs) → IfSome o (λ items. n ≡ length items)
count-some ns cs n None e h = tt
count-some ns cs n (Some items) e h = e ∙ shown-length h

pub count-shown : (parsed : ParsedText) (list : ListId) (cs : List Item) (n : ℕ) → n ≡ length cs → IfSome (list_with parsed list) (ShowsItems (nodes_of parsed) cs) → IfSome (list_with parsed list) (λ items. n ≡ length items)
count-shown parsed list cs n e h = count-some (nodes_of parsed) cs n (list_with parsed list) e h

-- ---- an item of a list

-- the item that there is, where the code's item is known
pub item-known : (parsed : ParsedText) (list : ListId) (at : ℕ) (c d : Item) (i : TreeItem) → IfSome (item_with parsed list at) (IsItem parsed c) → c ≡ d → item_with parsed list at ≡ Some i → IsItem parsed d i
item-known parsed list at c d i h is e = subst (λ x. IsItem parsed x i) is (at_some (IsItem parsed c) (item_with parsed list at) i e h)

module _ (parsed : ParsedText) (list : ListId) (at : ℕ) (c : Item) (h : IfSome (item_with parsed list at) (IsItem parsed c)) (there : IsSome (item_with parsed list at)) where
  pub plain-there : (start len : ℕ) → c ≡ Plain start len → IsTextAt parsed start len
  plain-there start len is = let i = some_part (item_with parsed list at) there in (item-known parsed list at c (Plain start len) i.0 h is i.1).1

  pub sealed-there : (start len : ℕ) → c ≡ Sealed start len → IsTextAt parsed start len
  sealed-there start len is = let i = some_part (item_with parsed list at) there in (item-known parsed list at c (Sealed start len) i.0 h is i.1).1

-- the items of a list, as they are kept
pub record AreItems (parsed : ParsedText) (list : ListId) (cs : List Item) : Type 0 where
  pub shows : IfSome (list_with parsed list) (ShowsItems (nodes_of parsed) cs)
  pub texts : IfSome (list_with parsed list) (AllByRecursion (IsTextIn (source_of parsed)))

pub are-items : (parsed : ParsedText) (list : ListId) (cs found : List Item) → cs ≡ found → IfSome (list_with parsed list) (ShowsItems (nodes_of parsed) found) → IfSome (list_with parsed list) (AllByRecursion (IsTextIn (source_of parsed))) → AreItems parsed list cs
are-items parsed list cs found is shows texts = record {
  shows = subst (λ (x : List Item). IfSome (list_with parsed list) (ShowsItems (nodes_of parsed) x)) (sym is) shows;
  texts = texts;
}

module _ (parsed : ParsedText) (list : ListId) (cs : List Item) (kept : AreItems parsed list cs) where
  pub items-long : IfSome (list_with parsed list) (λ items. length cs ≡ length items)
  items-long = count-shown parsed list cs (length cs) refl kept.shows

  module _ (at : ℕ) (within : at < length cs) where
    pub item-found-at : IfSome (item_with parsed list at) (IsItem parsed (get_or cs at (Plain 0 0)))
    item-found-at = item-found parsed at cs list (Plain 0 0) kept.shows kept.texts within

    pub item-there-at : IsSome (list_with parsed list) → IsSome (item_with parsed list at)
    item-there-at there =
        let items = some_part (list_with parsed list) there in
        let is : length cs ≡ length items.0 = at_some (λ found. length cs ≡ length found) (list_with parsed list) items.0 items.1 items-long in
        let i = some_within items.0 at (subst (λ n. at < n) is within) in
        some_of (item_with parsed list at) i.0 (ap (option_and_then (λ found. slice_get found at)) items.1 ∙ i.1)

    -- its text is there
    pub plain-at : IsSome (list_with parsed list) → (start len : ℕ) → get_or cs at (Plain 0 0) ≡ Plain start len → IsTextAt parsed start len
    plain-at there start len is = plain-there parsed list at (get_or cs at (Plain 0 0)) item-found-at (item-there-at there) start len is

    pub sealed-at : IsSome (list_with parsed list) → (start len : ℕ) → get_or cs at (Plain 0 0) ≡ Sealed start len → IsTextAt parsed start len
    sealed-at there start len is = sealed-there parsed list at (get_or cs at (Plain 0 0)) item-found-at (item-there-at there) start len is

-- a text that is there, in the source
pub text-within : (parsed : ParsedText) (source : List ℕ) (start len : ℕ) → source ≡ source_of parsed → IsTextAt parsed start len → start + len ≤ length source
text-within parsed source start len is h = subst (λ (x : List ℕ). start + len ≤ length x) (sym is) h.within

pub text-utf8 : (parsed : ParsedText) (source : List ℕ) (start len : ℕ) → source ≡ source_of parsed → IsTextAt parsed start len → IsUtf8 (slice_range source start (start + len))
text-utf8 parsed source start len is h = subst (λ (x : List ℕ). IsUtf8 (slice_range x start (start + len))) (sym is) h.utf8

pub text-same : (parsed : ParsedText) (source text : List ℕ) (start len : ℕ) → source ≡ source_of parsed → text ≡ slice_range source start (start + len) → text ≡ text_at parsed start len
text-same parsed source text start len is h = h ∙ ap (λ (x : List ℕ). slice_range x start (start + len)) is

-- ---- what the items give

pub plans-ended : (p : Plan (Output × Progress)) → and_then p (λ end. gives (end.0, end.1)) ≡ p
plans-ended (gives x) = refl
plans-ended (asks title kind more) = ap (asks title kind) (λ i answer. plans-ended (more answer) i)

-- an expansion whose output is given
pub ended-with : (e : Expansion Output) → (e >>= give) ≡ e
ended-with e = λ i progress. plans-ended (e progress) i

pub expand-is : (left : ℕ) (viewed : PageTitle) (frame : Frame) (items : List TreeItem) → expand left viewed frame items ≡ items_output (charged_node left viewed frame) items
unfolding expand
expand-is zero viewed frame items = refl
expand-is (suc left) viewed frame items = refl

module _ (left : ℕ) (viewed : PageTitle) (frame : Frame) where
  pub list-start : (items : List TreeItem) → expand left viewed frame items ≡ rest_list left viewed frame [] items
  list-start items = expand-is left viewed frame items ∙ sym (λ i progress. plans-ended (items_output (charged_node left viewed frame) items progress) i)

  list-end : (out : Output) → rest_list left viewed frame out [] ≡ give out
  unfolding items_output
  list-end out = ap give (append-nil out)

  abbrev pub behind_item : Output → List TreeItem → Output → Expansion Output
  behind_item out items first = rest_list left viewed frame (out ++ first) items

  abbrev after_item : List TreeItem → Output × Progress → Plan (Output × Progress)
  after_item items end = and_then (items_output (charged_node left viewed frame) items end.1) (λ last. gives (end.0 ++ last.0, last.1))

  abbrev behind_out : Output → Output × Progress → Plan (Output × Progress)
  behind_out out end = gives (out ++ end.0, end.1)

  list-more : (out : Output) (i : TreeItem) (items : List TreeItem) → rest_list left viewed frame out (i ∷ items) ≡ (item_output (charged_node left viewed frame) i >>= behind_item out items)
  unfolding items_output
  list-more out i items = λ k progress.
      (plans-regrouped (item_output (charged_node left viewed frame) i progress) (after_item items) (behind_out out)
      ∙ ap (and_then (item_output (charged_node left viewed frame) i progress)) (λ j end.
      (plans-regrouped (items_output (charged_node left viewed frame) items end.1) (λ last. gives (end.0 ++ last.0, last.1)) (behind_out out)
      ∙ ap (and_then (items_output (charged_node left viewed frame) items end.1)) (λ n last. gives (sym (append_assoc out end.0 last.0) n, last.1))) j)) k

-- a list of one plain part
pub expand-plain : (left : ℕ) (viewed : PageTitle) (frame : Frame) (start : ℕ) (text : List ℕ) → expand left viewed frame (plain start text ∷ []) ≡ give (all_plain text)
unfolding items_output
expand-plain left viewed frame start text =
    expand-is left viewed frame (plain start text ∷ [])
    ∙ ap give (append-nil (all_plain text))

-- ---- a list up to its next node

-- how far a list is added to an output
pub record IsAdded (parsed : ParsedText) (list : ListId) (start at : ℕ) (out new : Output) : Type 0 where
  pub same : (items : List TreeItem) → list_with parsed list ≡ Some items → (left : ℕ) (viewed : PageTitle) (frame : Frame) → rest_list left viewed frame out (drop start items) ≡ rest_list left viewed frame new (drop at items)

pub added-none : (parsed : ParsedText) (list : ListId) (start : ℕ) (out : Output) → IsAdded parsed list start start out out
added-none parsed list start out = record { same = λ items e left viewed frame. refl }

pub added-as : (parsed : ParsedText) (list : ListId) (start at : ℕ) (out new other : Output) → other ≡ new → IsAdded parsed list start at out new → IsAdded parsed list start at out other
added-as parsed list start at out new other is h = subst (λ o. IsAdded parsed list start at out o) (sym is) h

module _ (parsed : ParsedText) (list : ListId) (start at count : ℕ) (out new : Output) (h : IsAdded parsed list start at out new) (long : IfSome (list_with parsed list) (λ found. count ≡ length found)) where
  item-next : at < count → (items : List TreeItem) → list_with parsed list ≡ Some items → (i : TreeItem) × (slice_get items at ≡ Some i) × (item_with parsed list at ≡ Some i)
  item-next within items e =
      let is : count ≡ length items = at_some (λ found. count ≡ length found) (list_with parsed list) items e long in
      let i = some_within items at (subst (λ n. at < n) is within) in
      (i.0, i.1, ap (option_and_then (λ found. slice_get found at)) e ∙ i.1)

  step-at : (items : List TreeItem) (i : TreeItem) → list_with parsed list ≡ Some items → slice_get items at ≡ Some i → (left : ℕ) (viewed : PageTitle) (frame : Frame) → rest_list left viewed frame out (drop start items) ≡ (item_output (charged_node left viewed frame) i >>= behind_item left viewed frame new (drop (at + 1) items))
  step-at items i e is left viewed frame =
      h.same items e left viewed frame
      ∙ ap (rest_list left viewed frame new) (drop-some items at i is)
      ∙ list-more left viewed frame new i (drop (at + 1) items)

  module _ (within : at < count) (c : Item) (found : IfSome (item_with parsed list at) (IsItem parsed c)) where
    text-added : (text : Output) → ((i : TreeItem) → IsItem parsed c i → (left : ℕ) (viewed : PageTitle) (frame : Frame) → item_output (charged_node left viewed frame) i ≡ give text) → IsAdded parsed list start (at + 1) out (new ++ text)
    text-added text gives_text = record {
      same = λ items e left viewed frame.
          let i = item-next within items e in
          step-at items i.0 e i.1 left viewed frame
          ∙ ap (λ (g : Expansion Output). g >>= behind_item left viewed frame new (drop (at + 1) items)) (gives_text i.0 (item-known parsed list at c c i.0 found refl i.2) left viewed frame);
    }

    pub added-plain : (first len : ℕ) → c ≡ Plain first len → (next : Output) → next ≡ new ++ marked false (text_at parsed first len) → IsAdded parsed list start (at + 1) out next
    added-plain first len is next next_is =
        added-as parsed list start (at + 1) out (new ++ all_plain (text_at parsed first len)) next next_is
        (text-added (all_plain (text_at parsed first len)) (λ i k left viewed frame. ap (item_output (charged_node left viewed frame)) (subst (λ x. IsItem parsed x i) is k).0))

    pub added-sealed : (first len : ℕ) → c ≡ Sealed first len → (next : Output) → next ≡ new ++ marked true (text_at parsed first len) → IsAdded parsed list start (at + 1) out next
    added-sealed first len is next next_is =
        added-as parsed list start (at + 1) out (new ++ all_sealed (text_at parsed first len)) next next_is
        (text-added (all_sealed (text_at parsed first len)) (λ i k left viewed frame. ap (item_output (charged_node left viewed frame)) (subst (λ x. IsItem parsed x i) is k).0))

    pub added-nothing : (first len : ℕ) → c ≡ Nothing first len → IsAdded parsed list start (at + 1) out new
    added-nothing first len is =
        added-as parsed list start (at + 1) out (new ++ []) new (sym (append-nil new))
        (text-added [] (λ i k left viewed frame. ap (item_output (charged_node left viewed frame)) (subst (λ x. IsItem parsed x i) is k)))

    pub filled-node : (id : NodeId) → c ≡ Node id → (items : List TreeItem) → list_with parsed list ≡ Some items → IsFilled parsed items start out (at + 1, Some id) new
    filled-node id is items e =
        let i = item-next within items e in
        let m = item-known parsed list at c (Node id) i.0 found is i.2 in (
          m.0,
          m.1,
          λ left viewed frame. step-at items i.0 e i.1 left viewed frame
              ∙ ap (λ (x : TreeItem). item_output (charged_node left viewed frame) x >>= behind_item left viewed frame new (drop (at + 1) items)) m.2,
        )

  pub filled-end : count ≤ at → (items : List TreeItem) → list_with parsed list ≡ Some items → IsFilled parsed items start out (count, None) new
  filled-end all items e = λ left viewed frame.
      let is : count ≡ length items = at_some (λ found. count ≡ length found) (list_with parsed list) items e long in
      h.same items e left viewed frame
      ∙ ap (rest_list left viewed frame new) (drop_all at items (subst (λ n. n ≤ at) is all))
      ∙ list-end left viewed frame new
