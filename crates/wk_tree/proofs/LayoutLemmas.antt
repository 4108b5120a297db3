-- What the tokens of a tree are laid out to.
use Rattle.std.proofs.Common.{◌≡◌, ◌≢◌, ℕ, zero, suc, ◌+◌, ◌-◌, ◌*◌, ◌<◌, ◌≤◌, ◌==◌, Bool, true, false, if◌then◌else◌, List, [], ◌∷◌, ◌++◌, length, map, replicate, codes, Option, Some, None, get_or, drop, drop-cons, refl, ap, sym, subst, ◌∙◌, arith, append_assoc, append-nil, length-append}
use Rattle.std.proofs.lemmas.Bool.Decides.{nat_tests}
use Rattle.std.proofs.lemmas.List.{map-append, length-replicate}
use Rattle.std.proofs.lemmas.List.Concat.{flat_map-append}
use Rattle.wk_tree.specs.Laid.{NodeShown}
use Rattle.wk_tree.specs.Layout.{SectionShown, ValueShown, OpenNodeShown, LayoutShown, no_section, no_open_node, put, put_each, joined, with_item, with_equals, new_part, with_bar, braces_of, new_node, first_open_node, other_open_nodes, with_node, with_token, laid}
use Rattle.wk_tree.specs.Shown.{from_end, ShowsItem, shows_plain, shows_sealed, shows_nothing, shows_node, ShowsItems, no_items, one_more, no_name, a_name, ShowsPart, no_parts, part_more, ShowsNode, ShowsNodes, no_nodes, node_more, ShowsSection, ShowsSegment, no_equals, at_equals, ShowsOpenNode, ShowsOpenNodes, no_open_nodes, open_node_more, ShowsLayout}
use Rattle.wk_tree.specs.Tokens.{opens, fills, text_tokens, is_argument, opening_tokens, item_tokens, content_tokens, items_tokens}
use Rattle.wk_tree.specs.Tree.{IsLaidAs}
use Rattle.wk_tree.specs.declared.item.Item.{Item}
use Rattle.wk_tree.specs.declared.item.Item.TheVariants as code
use Rattle.wk_tree.specs.declared.token.Token.{Token}
use Rattle.wk_tree.specs.declared.token.Token.TheVariants.{Plain, Fill, NodeEnd}
use Rattle.wk_tree_laws.proofs.ListLemmas.{entries-text, plain_entries-source}
use Rattle.wk_tree_laws.proofs.PieceLemmas.{entry_source, entries_source}
use Rattle.wk_tree_laws.proofs.TreeLemmas.{merged-source}
use Rattle.wk_tree_rules.specs.Tree.{Node, Part, name_by, split_at_bars, nodes_of, content_nodes, nodes}
use Rattle.wk_tree_rules.specs.Trees.{Item as TreeItem, plain, sealed, nothing, node, NodeKind, template, argument, width, opening_braces, closing_braces, Content, empty_content, item_then, bar_then, equals_then, entries, Entry, item, bar, equals, source_of, content_source, plain_entry, plain_items, put_before, merged, items_source}

-- ---- lists of items

pub put-shows : {ns : List Node} {c : Item} {i : TreeItem} {cs : List Item} {items : List TreeItem} → ShowsItem ns c i → ShowsItems ns cs items → ShowsItems ns (put c cs) (put_before i items)
put-shows (shows_plain start source) no_items = one_more (shows_plain start source) no_items
put-shows {ns = ns} (shows_plain start source) (one_more {cs = cs} {items = items} (shows_plain next more) rest) =
    subst (λ n. ShowsItems ns (code.Plain start n ∷ cs) (plain start (source ++ more) ∷ items)) (length-append source more) (one_more (shows_plain start (source ++ more)) rest)
put-shows (shows_plain start source) (one_more (shows_sealed next more) rest) = one_more (shows_plain start source) (one_more (shows_sealed next more) rest)
put-shows (shows_plain start source) (one_more (shows_nothing next more) rest) = one_more (shows_plain start source) (one_more (shows_nothing next more) rest)
put-shows (shows_plain start source) (one_more (shows_node id kind next content is) rest) = one_more (shows_plain start source) (one_more (shows_node id kind next content is) rest)
put-shows (shows_sealed start source) k = one_more (shows_sealed start source) k
put-shows (shows_nothing start source) k = one_more (shows_nothing start source) k
put-shows (shows_node id kind start content is) k = one_more (shows_node id kind start content is) k

put_each-shows : {ns : List Node} {cs ds : List Item} {items : List TreeItem} (more : List TreeItem) → ShowsItems ns cs items → ShowsItems ns ds (merged more) → ShowsItems ns (put_each cs ds) (merged (items ++ more))
put_each-shows more no_items k = k
put_each-shows more (one_more h rest) k = put-shows h (put_each-shows more rest k)

-- ---- plain text that goes together twice

put-twice : (start next : ℕ) (source more : List ℕ) (items : List TreeItem) → put_before (plain start (source ++ more)) items ≡ put_before (plain start source) (put_before (plain next more) items)
put-twice start next source more [] = refl
put-twice start next source more (plain at last ∷ items) = ap (λ s. plain start s ∷ items) (append_assoc source more last)
put-twice start next source more (sealed at last ∷ items) = refl
put-twice start next source more (nothing at last ∷ items) = refl
put-twice start next source more (node kind at content ∷ items) = refl

put-merged : (i : TreeItem) (items more : List TreeItem) → merged (put_before i items ++ more) ≡ put_before i (merged (items ++ more))
put-merged (plain start source) [] more = refl
put-merged (plain start source) (plain next last ∷ items) more = put-twice start next source last (merged (items ++ more))
put-merged (plain start source) (sealed next last ∷ items) more = refl
put-merged (plain start source) (nothing next last ∷ items) more = refl
put-merged (plain start source) (node kind next content ∷ items) more = refl
put-merged (sealed start source) items more = refl
put-merged (nothing start source) items more = refl
put-merged (node kind start content) items more = refl

merged-merged : (items more : List TreeItem) → merged (merged items ++ more) ≡ merged (items ++ more)
merged-merged [] more = refl
merged-merged (i ∷ items) more = put-merged i (merged items) more ∙ ap (put_before i) (merged-merged items more)

-- ---- sections

size-cons : (e : Entry) (es : List Entry) (n : ℕ) → length (entries_source (e ∷ [])) ≡ n → length (entries_source (e ∷ es)) ≡ n + length (entries_source es)
size-cons e es n h =
    let one : entries_source (e ∷ es) ≡ entries_source (e ∷ []) ++ entries_source es = flat_map-append entry_source (e ∷ []) es in
    ap length one ∙ length-append (entries_source (e ∷ [])) (entries_source es) ∙ ap (λ k. k + length (entries_source es)) h

size-item : (i : TreeItem) → length (entries_source (item i ∷ [])) ≡ length (source_of i)
size-item i = ap length (append-nil (source_of i))

size-append : (xs ys : List Entry) → length (entries_source (xs ++ ys)) ≡ length (entries_source xs) + length (entries_source ys)
size-append xs ys = ap length (flat_map-append entry_source xs ys) ∙ length-append (entries_source xs) (entries_source ys)

section-item : {ns : List Node} {s : SectionShown} {parts : List Entry} {c : Item} {i : TreeItem} {n : ℕ} → ShowsItem ns c i → n ≡ length (source_of i) → ShowsSection ns s parts → ShowsSection ns (record { items = put c s.items; len = n + s.len }) (item i ∷ parts)
section-item {s = s} {parts = parts} {i = i} {n = n} h e k = record {
  items = put-shows h k.items;
  len = omega (arith, k.len, e, size-cons (item i) parts (length (source_of i)) (size-item i));
}

no_section-shows : {ns : List Node} → ShowsSection ns no_section []
no_section-shows = record { items = no_items; len = refl }

joined-shows : {ns : List Node} {s : SectionShown} {v : Option ValueShown} {parts : List Entry} {found : Option (List Entry × ℕ × List Entry)} → ShowsSegment ns s v parts found → ShowsSection ns (joined s v) parts
joined-shows (no_equals h) = h
joined-shows {ns = ns} {s = s} (at_equals {v = v} {name = name} {value = value} h k) = record {
  items =
      subst (λ t. ShowsItems ns (put_each s.items (put (code.Plain v.equals 1) v.section.items)) t)
      (merged-merged (map plain_entry name) (map plain_entry (equals v.equals ∷ value)) ∙ ap merged (sym (map-append plain_entry name (equals v.equals ∷ value))))
      (put_each-shows (map plain_entry (equals v.equals ∷ value)) h.items (put-shows (shows_plain v.equals (codes "=")) k.items));
  len = omega (arith, h.len, k.len, size-append name (equals v.equals ∷ value), size-cons (equals v.equals) value 1 refl);
}

-- ---- segments

segment-item : {ns : List Node} {s : SectionShown} {v : Option ValueShown} {parts : List Entry} {found : Option (List Entry × ℕ × List Entry)} {c : Item} {i : TreeItem} {n : ℕ} → ShowsItem ns c i → n ≡ length (source_of i)
    → ShowsSegment ns s v parts found → ShowsSegment ns (record { items = put c s.items; len = n + s.len }) v (item i ∷ parts) (name_by (item i) parts found)
segment-item h e (no_equals k) = no_equals (section-item h e k)
segment-item h e (at_equals k l) = at_equals (section-item h e k) l

segment-equals : {ns : List Node} {s : SectionShown} {v : Option ValueShown} {parts : List Entry} {found : Option (List Entry × ℕ × List Entry)} (start : ℕ)
    → ShowsSegment ns s v parts found → ShowsSegment ns no_section (Some (record { equals = start; section = joined s v })) (equals start ∷ parts) (name_by (equals start) parts found)
segment-equals {s = s} {v = v} start k = at_equals {v = record { equals = start; section = joined s v }} no_section-shows (joined-shows k)

-- ---- parts

value-size : (parts : List Entry) → length (items_source (plain_items parts)) ≡ length (entries_source parts)
value-size parts = ap length (merged-source (map plain_entry parts) ∙ plain_entries-source parts)

abbrev part_by : ℕ → List Entry → Option (List Entry × ℕ × List Entry) → Part
part_by start parts found = elim found [
  | None ↦ record { name = None; value = plain_items parts; start = start }
  | Some found ↦ record { name = Some (plain_items found.0); value = plain_items found.2; start = found.1 }
]

part-shows : {ns : List Node} {s : SectionShown} {v : Option ValueShown} {parts : List Entry} {found : Option (List Entry × ℕ × List Entry)} (start : ℕ) → ShowsSegment ns s v parts found → ShowsPart ns (new_part start s v) (part_by (start + 1) parts found)
part-shows {parts = parts} start (no_equals k) = record { name = no_name; value = k.items; start = refl; len = k.len ∙ sym (value-size parts) }
part-shows start (at_equals {value = value} k l) = record { name = a_name k.items; value = l.items; start = refl; len = l.len ∙ sym (value-size value) }

-- ---- open_nodes

no_open_node-shows : {ns : List Node} → ShowsOpenNode ns no_open_node []
no_open_node-shows = record { segment = no_equals no_section-shows; further = no_parts; total = refl }

open_node-item : {ns : List Node} {f : OpenNodeShown} {parts : List Entry} {c : Item} {i : TreeItem} {n : ℕ} → ShowsItem ns c i → n ≡ length (source_of i) → ShowsOpenNode ns f parts → ShowsOpenNode ns (with_item c n f) (item i ∷ parts)
open_node-item {parts = parts} {i = i} h e k = record {
  segment = segment-item h e k.segment;
  further = k.further;
  total = omega (arith, k.total, e, size-cons (item i) parts (length (source_of i)) (size-item i));
}

open_node-equals : {ns : List Node} {f : OpenNodeShown} {parts : List Entry} (start : ℕ) → ShowsOpenNode ns f parts → ShowsOpenNode ns (with_equals start f) (equals start ∷ parts)
open_node-equals {parts = parts} start k = record {
  segment = segment-equals start k.segment;
  further = k.further;
  total = omega (arith, k.total, size-cons (equals start) parts 1 refl);
}

open_node-bar : {ns : List Node} {f : OpenNodeShown} {parts : List Entry} (start : ℕ) → ShowsOpenNode ns f parts → ShowsOpenNode ns (with_bar start f) (bar start ∷ parts)
open_node-bar {parts = parts} start k = record {
  segment = no_equals no_section-shows;
  further = part_more (part-shows start k.segment) k.further;
  total = omega (arith, k.total, size-cons (bar start) parts 1 refl);
}

-- ---- nodes

kind-argument : (kind : NodeKind) → braces_of (is_argument kind) ≡ 2 * width kind
kind-argument template = refl
kind-argument argument = refl

node-size : (kind : NodeKind) (start : ℕ) (content : Content) → length (source_of (node kind start content)) ≡ 2 * width kind + length (content_source content)
unfolding source_of
node-size kind start content =
    omega (arith, length-append (opening_braces kind) (content_source content ++ closing_braces kind), length-append (content_source content) (closing_braces kind), length-replicate {A = ℕ} (width kind) 123, length-replicate {A = ℕ} (width kind) 125)

node-shows : {ns : List Node} {f : OpenNodeShown} (kind : NodeKind) (start : ℕ) (content : Content) → ShowsOpenNode ns f (entries content) → ShowsNode ns (new_node (is_argument kind) start f) (record { kind = kind; start = start; content = content })
node-shows kind start content k = record {
  argument = refl;
  start = refl;
  len = omega (arith, k.total, kind-argument kind, ap length (entries-text content));
  title = (joined-shows k.segment).items;
  parts = k.further;
}

eqb_is : (a b : ℕ) → a ≡ b → (a == b) ≡ true
eqb_is a b e = grind (arith, nat_tests)

eqb_not : (a b : ℕ) → a ≢ b → (a == b) ≡ false
eqb_not a b e = grind (arith, nat_tests)

-- the node that stands behind some others in a list
from_end-at : {X : Type 0} (before behind : List X) (x : X) (n : ℕ) → n ≡ length behind → from_end (before ++ x ∷ behind) n ≡ Some x
from_end-at [] behind x n e = ap (λ b. if b then Some x else from_end behind n) (eqb_is n (length behind) e)
from_end-at (y ∷ before) behind x n e =
    let long : length (before ++ x ∷ behind) ≡ length before + suc (length behind) = length-append before (x ∷ behind) in
    ap (λ b. if b then Some y else from_end (before ++ x ∷ behind) n) (eqb_not n (length (before ++ x ∷ behind)) (λ same. absurd (omega arith)))
    ∙ from_end-at before behind x n e

pub nodes-long : {ns : List Node} {ss : List NodeShown} {rest : List Node} → ShowsNodes ns ss rest → length ss ≡ length rest
nodes-long no_nodes = refl
nodes-long (node_more h k) = ap suc (nodes-long k)

-- ---- tokens

fills-laid : (n : ℕ) (tokens : List Token) → laid (replicate n Fill ++ tokens) ≡ laid tokens
fills-laid zero tokens = refl
fills-laid (suc n) tokens = fills-laid n tokens

source-laid : (source : List ℕ) (tokens : List Token) → laid (fills source ++ tokens) ≡ laid tokens
source-laid [] tokens = refl
source-laid (b ∷ source) tokens = by_test (opens b)
  where
    by_test : (t : Bool) → laid ((if t then replicate (length source) Fill else []) ++ tokens) ≡ laid tokens
    by_test true = fills-laid (length source) tokens
    by_test false = refl

pub plain-laid : (start : ℕ) (source : List ℕ) (tokens : List Token) → laid (text_tokens start source ++ tokens) ≡ record (laid tokens) { open_node = with_item (code.Plain start (length source)) (length source) (laid tokens).open_node }
plain-laid start source tokens = ap (λ (l : LayoutShown). record l { open_node = with_item (code.Plain start (length source)) (length source) l.open_node }) (source-laid source tokens)

-- what is laid out with an item in front
layout-item : {ns : List Node} {l : LayoutShown} {parts : List Entry} {outer : List (List Entry)} {met : List Node} {c : Item} {i : TreeItem} (n : ℕ) → ShowsItem ns c i → n ≡ length (source_of i) → ShowsLayout ns l parts outer met
    → ShowsLayout ns (record l { open_node = with_item c n l.open_node }) (item i ∷ parts) outer met
layout-item n h e k = record { open_node = open_node-item h e k.open_node; around = k.around; nodes = k.nodes }

start-laid : (kind : NodeKind) (start : ℕ) (tokens : List Token) → laid (opening_tokens kind start ++ tokens) ≡ with_node (is_argument kind) start (laid tokens)
start-laid template start tokens = refl
start-laid argument start tokens = refl

node-laid : {ns : List Node} {f : OpenNodeShown} {open_nodes : List OpenNodeShown} {shown : List NodeShown} {parts : List Entry} {outer : List (List Entry)} {met : List Node} (before : List Node) (kind : NodeKind) (start : ℕ) (content : Content)
    → ns ≡ before ++ record { kind = kind; start = start; content = content } ∷ met
    → ShowsOpenNodes ns open_nodes (parts ∷ outer) → ShowsOpenNode ns f (entries content) → ShowsNodes ns shown met
    → ShowsLayout ns (with_node (is_argument kind) start (record { open_node = f; outer = open_nodes; nodes = shown })) (item (node kind start content) ∷ parts) outer (record { kind = kind; start = start; content = content } ∷ met)
node-laid {ns = ns} {shown = shown} {met = met} before kind start content e (open_node_more h k) g nodes =
    let made : Node = record { kind = kind; start = start; content = content } in
    let shows = node-shows kind start content g in
    let at : from_end ns (length shown) ≡ Some made = ap (λ l. from_end l (length shown)) e ∙ from_end-at before met made (length shown) (nodes-long nodes) in
    record {
      open_node = open_node-item (shows_node (record { 0 = length shown }) kind start content at) (shows.len ∙ sym (node-size kind start content)) h;
      around = k;
      nodes = node_more shows nodes;
    }

mutual
  unfolding item_tokens content_tokens nodes_of content_nodes source_of

  item-laid : (ns : List Node) (i : TreeItem) (before : List Node) (ts : List Token) {parts : List Entry} {outer : List (List Entry)} {met : List Node} → ns ≡ before ++ (nodes_of i ++ met) → ShowsLayout ns (laid ts) parts outer met
      → ShowsLayout ns (laid (item_tokens i ++ ts)) (item i ∷ parts) outer (nodes_of i ++ met)
  item-laid ns (plain start source) before ts {parts = parts} {outer = outer} {met = met} e k =
      subst (λ l. ShowsLayout ns l (item (plain start source) ∷ parts) outer met) (sym (plain-laid start source ts)) (layout-item (length source) (shows_plain start source) refl k)
  item-laid ns (sealed start source) before ts e k = layout-item (length source) (shows_sealed start source) refl k
  item-laid ns (nothing start source) before ts e k = layout-item (length source) (shows_nothing start source) refl k
  item-laid ns (node kind start content) before ts {parts = parts} {outer = outer} {met = met} e k =
      let made : Node = record { kind = kind; start = start; content = content } in
      let behind : List Token = content_tokens content ++ NodeEnd ∷ ts in
      let opened : ShowsLayout ns (laid (NodeEnd ∷ ts)) [] (parts ∷ outer) met = record { open_node = no_open_node-shows; around = open_node_more k.open_node k.around; nodes = k.nodes } in
      let inner = content-laid ns content (before ++ made ∷ []) (NodeEnd ∷ ts) (e ∙ sym (append_assoc before (made ∷ []) (content_nodes content ++ met))) opened in
      let open_node = subst (λ es. ShowsOpenNode ns (laid behind).open_node es) (append-nil (entries content)) inner.open_node in
      subst (λ l. ShowsLayout ns l (item (node kind start content) ∷ parts) outer (made ∷ (content_nodes content ++ met)))
      (sym (ap laid (append_assoc (opening_tokens kind start) (content_tokens content ++ NodeEnd ∷ []) ts ∙ ap (λ t. opening_tokens kind start ++ t) (append_assoc (content_tokens content) (NodeEnd ∷ []) ts)) ∙ start-laid kind start behind))
      (node-laid before kind start content e inner.around open_node inner.nodes)

  content-laid : (ns : List Node) (r : Content) (before : List Node) (ts : List Token) {parts : List Entry} {outer : List (List Entry)} {met : List Node} → ns ≡ before ++ (content_nodes r ++ met) → ShowsLayout ns (laid ts) parts outer met
      → ShowsLayout ns (laid (content_tokens r ++ ts)) (entries r ++ parts) outer (content_nodes r ++ met)
  content-laid ns empty_content before ts e k = k
  content-laid ns (item_then i rest) before ts {parts = parts} {outer = outer} {met = met} e k =
      let f : ns ≡ before ++ (nodes_of i ++ (content_nodes rest ++ met)) = e ∙ ap (λ t. before ++ t) (append_assoc (nodes_of i) (content_nodes rest) met) in
      let later = content-laid ns rest (before ++ nodes_of i) ts (f ∙ sym (append_assoc before (nodes_of i) (content_nodes rest ++ met))) k in
      subst (λ m. ShowsLayout ns (laid ((item_tokens i ++ content_tokens rest) ++ ts)) (item i ∷ (entries rest ++ parts)) outer m) (sym (append_assoc (nodes_of i) (content_nodes rest) met))
      (subst (λ t. ShowsLayout ns (laid t) (item i ∷ (entries rest ++ parts)) outer (nodes_of i ++ (content_nodes rest ++ met))) (sym (append_assoc (item_tokens i) (content_tokens rest) ts))
      (item-laid ns i before (content_tokens rest ++ ts) f later))
  content-laid ns (bar_then start rest) before ts e k =
      let later = content-laid ns rest before ts e k in
      record { open_node = open_node-bar start later.open_node; around = later.around; nodes = later.nodes }
  content-laid ns (equals_then start rest) before ts e k =
      let later = content-laid ns rest before ts e k in
      record { open_node = open_node-equals start later.open_node; around = later.around; nodes = later.nodes }

items-laid : (ns : List Node) (items : List TreeItem) (before : List Node) → ns ≡ before ++ nodes items → ShowsLayout ns (laid (items_tokens items)) (map item items) [] (nodes items)
items-laid ns [] before e = record { open_node = no_open_node-shows; around = no_open_nodes; nodes = no_nodes }
items-laid ns (i ∷ items) before e =
    item-laid ns i before (items_tokens items) e (items-laid ns items (before ++ nodes_of i) (e ∙ sym (append_assoc before (nodes_of i) (nodes items))))

first-items : (items : List TreeItem) → (split_at_bars (map item items)).first ≡ map item items
first-items [] = refl
first-items (i ∷ items) = ap (λ t. item i ∷ t) (first-items items)

plain-items : (items : List TreeItem) → map plain_entry (map item items) ≡ items
plain-items [] = refl
plain-items (i ∷ items) = ap (λ t. i ∷ t) (plain-items items)

put-nodes : (i : TreeItem) (items : List TreeItem) → nodes (put_before i items) ≡ nodes_of i ++ nodes items
unfolding nodes_of
put-nodes (plain start source) [] = refl
put-nodes (plain start source) (plain next more ∷ items) = refl
put-nodes (plain start source) (sealed next more ∷ items) = refl
put-nodes (plain start source) (nothing next more ∷ items) = refl
put-nodes (plain start source) (node kind next content ∷ items) = refl
put-nodes (sealed start source) items = refl
put-nodes (nothing start source) items = refl
put-nodes (node kind start content) items = refl

merged-nodes : (items : List TreeItem) → nodes (merged items) ≡ nodes items
merged-nodes [] = refl
merged-nodes (i ∷ items) = put-nodes i (merged items) ∙ ap (λ t. nodes_of i ++ t) (merged-nodes items)

pub is-laid : (items : List TreeItem) (tokens : List Token) (l : LayoutShown) (root : List Item) (found : List NodeShown) → laid tokens ≡ laid (items_tokens items) → l ≡ laid tokens
    → root ≡ (joined l.open_node.section l.open_node.value).items → found ≡ l.nodes → IsLaidAs items root found
is-laid items tokens l root found t e r f =
    let is : l ≡ laid (items_tokens items) = e ∙ t in
    let same = merged-nodes items in
    let ns : List Node = nodes (merged items) in
    let k = items-laid ns items [] same in
    let first : ShowsItems ns (joined (laid (items_tokens items)).open_node.section (laid (items_tokens items)).open_node.value).items (merged items) =
    subst (λ t. ShowsItems ns (joined (laid (items_tokens items)).open_node.section (laid (items_tokens items)).open_node.value).items (merged t)) (ap (map plain_entry) (first-items items) ∙ plain-items items)
    (joined-shows k.open_node.segment).items in
    record {
      root_shows = subst (λ x. ShowsItems ns x (merged items)) (sym (r ∙ ap (λ (m : LayoutShown). (joined m.open_node.section m.open_node.value).items) is)) first;
      nodes_show = subst (λ x. ShowsNodes ns x ns) (sym (f ∙ ap (λ (m : LayoutShown). m.nodes) is)) (subst (λ m. ShowsNodes ns (laid (items_tokens items)).nodes m) (sym same) k.nodes);
    }

-- the last token before a place, with what stands from there on
pub laid-more : (tokens : List Token) (at : ℕ) (x : Token) → 0 < at → at ≤ length tokens → get_or tokens (at - 1) (Plain 0 0) ≡ x → laid (drop (at - 1) tokens) ≡ with_token x (laid (drop at tokens))
laid-more tokens at x some within is =
    let next : suc (at - 1) ≡ at = omega (arith, some) in
    ap laid (drop-cons tokens (at - 1) (Plain 0 0) (omega (arith, some, within)))
    ∙ ap (λ y. with_token y (laid (drop (suc (at - 1)) tokens))) is
    ∙ ap (λ n. with_token x (laid (drop n tokens))) next

-- what is laid out once a node is met
pub with-node-is : (is_argument : Bool) (start : ℕ) (l : LayoutShown) (open_node : OpenNodeShown) (outer : List OpenNodeShown) (found : List NodeShown) → open_node ≡ with_item (code.Node (record { 0 = length l.nodes })) (new_node is_argument start l.open_node).len (first_open_node l.outer) → outer ≡ other_open_nodes l.outer → found ≡ new_node is_argument start l.open_node ∷ l.nodes → record { open_node = open_node; outer = outer; nodes = found } ≡ with_node is_argument start l
with-node-is is_argument start l open_node outer found a b c = cc
