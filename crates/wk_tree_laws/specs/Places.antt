-- Spans and items that stand one behind the other.
use Rattle.std.specs.Prelude.{◌≡◌, ℕ, ◌+◌, ◌<◌, ◌≤◌, List, [], ◌∷◌, ◌++◌, length, slice_range}
use Rattle.std.specs.List.{AllByRecursion}
use Rattle.wk_text_rules.specs.Shapes.{Span}
use Rattle.wk_tree_rules.specs.Tree.{Part, Node, further_parts}
use Rattle.wk_tree_rules.specs.Trees.{Item, Content, empty_content, item_then, bar_then, equals_then, width, opening_braces, closing_braces, source_of, content_source, items_source}

-- each span has elements, and starts where the one before it ends; the first starts at a place
abbrev pub AreSpansAt : {K X : Type 0} → ℕ → List (Span K X) → Type 0
AreSpansAt start [] = Unit {0}
AreSpansAt start (span ∷ spans) = (span.start ≡ start) × (0 < length span.source) × AreSpansAt (start + length span.source) spans

abbrev mutual
  -- an item that starts at a place, and so does each within it where those before it end
  pub IsItemAt : ℕ → Item → Type 0
  IsItemAt at (Item.plain start source) = start ≡ at
  IsItemAt at (Item.sealed start source) = start ≡ at
  IsItemAt at (Item.nothing start source) = start ≡ at
  IsItemAt at (Item.node kind start content) = (start ≡ at) × IsContentAt (at + width kind) content

  pub IsContentAt : ℕ → Content → Type 0
  IsContentAt at empty_content = Unit {0}
  IsContentAt at (item_then i rest) = IsItemAt at i × IsContentAt (at + length (source_of i)) rest
  IsContentAt at (bar_then start rest) = (start ≡ at) × IsContentAt (at + 1) rest
  IsContentAt at (equals_then start rest) = (start ≡ at) × IsContentAt (at + 1) rest

-- each item starts where the one before it ends; the first starts at a place
abbrev pub AreItemsAt : ℕ → List Item → Type 0
AreItemsAt at [] = Unit {0}
AreItemsAt at (i ∷ items) = IsItemAt at i × AreItemsAt (at + length (source_of i)) items

-- ---- places in a text

-- the place at which an item starts
abbrev pub start_of : Item → ℕ
start_of (Item.plain start source) = start
start_of (Item.sealed start source) = start
start_of (Item.nothing start source) = start
start_of (Item.node kind start content) = start

-- the part stands in the text at the place
pub record IsPartAt (text : List ℕ) (at : ℕ) (part : List ℕ) : Type 0 where
  pub within : at + length part ≤ length text
  pub same : slice_range text at (at + length part) ≡ part

-- an item stands in the text where it says
abbrev pub IsItemIn : List ℕ → Item → Type 0
IsItemIn text i = IsPartAt text (start_of i) (source_of i)

-- items stand in the text one behind the other, the first at a place
pub record AreItemsIn (text : List ℕ) (items : List Item) : Type 0 where
  pub at : ℕ
  pub placed : AreItemsAt at items
  pub source : IsPartAt text at (items_source items)

-- a part's value stands in the text at its start
abbrev pub IsValueIn : List ℕ → Part → Type 0
IsValueIn text part = IsPartAt text part.start (items_source part.value)

-- a node stands in the text where it says, and so do the values of its further parts
pub record IsNodeIn (text : List ℕ) (n : Node) : Type 0 where
  pub whole : IsPartAt text n.start (opening_braces n.kind ++ (content_source n.content ++ closing_braces n.kind))
  pub values : AllByRecursion (IsValueIn text) (further_parts n.content)

-- ---- plain text as long as it can be

-- an item and the first of those behind it aren't both plain text
abbrev pub AreNotBothPlain : Item → List Item → Type 0
AreNotBothPlain (Item.plain start source) (Item.plain next more ∷ items) = ⊥
AreNotBothPlain i items = Unit {0}

-- no two items one behind the other are both plain text
abbrev pub IsMerged : List Item → Type 0
IsMerged [] = Unit {0}
IsMerged (i ∷ items) = AreNotBothPlain i items × IsMerged items
