-- Trees of a text (MediaWiki's Preprocessor ABNF: templates and template arguments; the shape of the types is own).
use Rattle.std.specs.Prelude.{ℕ, suc, max, replicate, List, [], ◌∷◌, ◌++◌, map, flat_map, codes}

pub data NodeKind : Type 0 where
  -- two braces: `{{..}}`
  template : NodeKind
  -- three braces: `{{{..}}}`
  argument : NodeKind

-- An item of a tree, with the place in the selected text at which it starts: text that is plain, text that is
-- sealed, text that gives nothing, or a node. A node's content is kept whole, with its bars and equals signs; its
-- parts are read from it.
mutual
  pub data Item : Type 0 where
    plain : ℕ → List ℕ → Item
    sealed : ℕ → List ℕ → Item
    nothing : ℕ → List ℕ → Item
    node : NodeKind → ℕ → Content → Item

  -- the content of a node: items, and the places of bars and of equals signs
  pub data Content : Type 0 where
    empty_content : Content
    item_then : Item → Content → Content
    bar_then : ℕ → Content → Content
    equals_then : ℕ → Content → Content

-- one entry of a content
pub data Entry : Type 0 where
  item : Item → Entry
  bar : ℕ → Entry
  equals : ℕ → Entry

-- a content as the list of its entries, and back
abbrev pub entries : Content → List Entry
entries empty_content = []
entries (item_then i rest) = item i ∷ entries rest
entries (bar_then start rest) = bar start ∷ entries rest
entries (equals_then start rest) = equals start ∷ entries rest

abbrev pub content_of : List Entry → Content
content_of [] = empty_content
content_of (item i ∷ rest) = item_then i (content_of rest)
content_of (bar start ∷ rest) = bar_then start (content_of rest)
content_of (equals start ∷ rest) = equals_then start (content_of rest)

-- ---- delimiters

-- how many braces a node has on each side
abbrev pub width : NodeKind → ℕ
width template = 2
width argument = 3

abbrev pub opening_braces : NodeKind → List ℕ
opening_braces kind = replicate (width kind) 123

abbrev pub closing_braces : NodeKind → List ℕ
closing_braces kind = replicate (width kind) 125

-- ---- source and height

unfoldable mutual
  -- the text that an item stands for
  pub source_of : Item → List ℕ
  source_of (plain start source) = source
  source_of (sealed start source) = source
  source_of (nothing start source) = source
  source_of (node kind start content) = opening_braces kind ++ (content_source content ++ closing_braces kind)

  pub content_source : Content → List ℕ
  content_source empty_content = []
  content_source (item_then i rest) = source_of i ++ content_source rest
  content_source (bar_then start rest) = codes "|" ++ content_source rest
  content_source (equals_then start rest) = codes "=" ++ content_source rest

-- the text that a list of items stands for
abbrev pub items_source : List Item → List ℕ
items_source items = flat_map source_of items

unfoldable mutual
  -- the height of a node is one more than that of its content, and that of other items is 0
  pub height : Item → ℕ
  height (plain start source) = 0
  height (sealed start source) = 0
  height (nothing start source) = 0
  height (node kind start content) = suc (content_height content)

  -- the height of the highest item
  pub content_height : Content → ℕ
  content_height empty_content = 0
  content_height (item_then i rest) = max (height i) (content_height rest)
  content_height (bar_then start rest) = content_height rest
  content_height (equals_then start rest) = content_height rest

-- the height of the highest item of a list
abbrev pub items_height : List Item → ℕ
items_height [] = 0
items_height (i ∷ items) = max (height i) (items_height items)

-- ---- plain text

-- an entry outside nodes: a bar and an equals sign are plain bytes there
abbrev pub plain_entry : Entry → Item
plain_entry (item i) = i
plain_entry (bar start) = plain start (codes "|")
plain_entry (equals start) = plain start (codes "=")

-- an item before others: plain text goes together with plain text behind it
abbrev pub put_before : Item → List Item → List Item
put_before (plain start source) (plain next more ∷ items) = plain start (source ++ more) ∷ items
put_before i items = i ∷ items

-- the items with each longest stretch of plain ones as one item
abbrev pub merged : List Item → List Item
merged [] = []
merged (i ∷ items) = put_before i (merged items)

-- the items of a list of entries outside nodes
abbrev pub plain_items : List Entry → List Item
plain_items parts = merged (map plain_entry parts)
