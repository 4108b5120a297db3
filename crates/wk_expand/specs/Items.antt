-- The items of a list, as the code finds them.
use Rattle.std.specs.Prelude.{◌≡◌, ℕ, ◌+◌, ◌≤◌, List, [], ◌∷◌, length, slice_get, slice_range, Option, Some, option_and_then}
use Rattle.std.specs.Str.{IsUtf8}
use Rattle.wk_text_rules.specs.Blank.{trimmed}
use Rattle.wk_tree.specs.Parsed.{ParsedText, list_with, node_with, source_of}
use Rattle.wk_tree.specs.declared.item.Item.{Item}
use Rattle.wk_tree.specs.declared.item.Item.TheVariants.{Plain, Sealed, Nothing, Node}
use Rattle.wk_tree.specs.declared.item.ListId.{ListId}
use Rattle.wk_tree_rules.specs.Tree as rule
use Rattle.wk_tree_rules.specs.Trees.{Item as TreeItem, plain, sealed, nothing, node}

-- an item of a list; the first is item 0
abbrev pub item_with : ParsedText → ListId → ℕ → Option TreeItem
item_with parsed list at = option_and_then (λ items. slice_get items at) (list_with parsed list)

-- so many bytes of the text that is read, from a place on
abbrev pub text_at : ParsedText → ℕ → ℕ → List ℕ
text_at parsed start len = slice_range (source_of parsed) start (start + len)

-- the bytes are there, and are UTF-8
pub record IsTextAt (parsed : ParsedText) (start len : ℕ) : Type 0 where
  pub within : start + len ≤ length (source_of parsed)
  pub utf8 : IsUtf8 (text_at parsed start len)

-- a list is one plain part, this text
pub record IsPlainText (parsed : ParsedText) (list : ListId) (text : List ℕ) : Type 0 where
  pub start : ℕ
  pub there : list_with parsed list ≡ Some (plain start text ∷ [])

-- a list is one plain part, some text, of which this is what stands between the blank bytes at both ends
pub record IsPlainName (parsed : ParsedText) (list : ListId) (name : List ℕ) : Type 0 where
  pub text : List ℕ
  pub alone : IsPlainText parsed list text
  pub is : name ≡ trimmed text

-- what an item stands for
abbrev pub IsItem : ParsedText → Item → TreeItem → Type 0
IsItem parsed (Plain start len) i = (i ≡ plain start (text_at parsed start len)) × IsTextAt parsed start len
IsItem parsed (Sealed start len) i = (i ≡ sealed start (text_at parsed start len)) × IsTextAt parsed start len
IsItem parsed (Nothing start len) i = i ≡ nothing start (text_at parsed start len)
IsItem parsed (Node id) i = (m : rule.Node) × (node_with parsed id ≡ Some m) × (i ≡ node m.kind m.start m.content)
