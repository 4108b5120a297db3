-- The tokens of a text whose delimiters are matched (own).
use Rattle.std.specs.Prelude.{ℕ, zero, suc, ◌==◌, if◌then◌else◌, Bool, true, false, List, [], ◌∷◌, ◌++◌, length, replicate, flat_map}
use Rattle.wk_tree.specs.declared.token.Token.{Token}
use Rattle.wk_tree.specs.declared.token.Token.TheVariants.{Plain, Sealed, Nothing, Bar, Equals, NodeStart, NodeEnd, Fill}
use Rattle.wk_tree_rules.specs.Trees.{Item, plain, sealed, nothing, node, Content, empty_content, item_then, bar_then, equals_then, NodeKind, template, argument, Entry, item, bar, equals}

-- opening delimiters as plain text, with a token for each
abbrev pub plain_tokens : ℕ → ℕ → List Token
plain_tokens start zero = Plain start 0 ∷ []
plain_tokens start (suc n) = Plain start (suc n) ∷ replicate n Fill

-- whether a byte is a delimiter that opens
abbrev pub opens : ℕ → Bool
opens b = if b == 123 then true else b == 91

-- the places of the delimiters behind the first, where they open
abbrev pub fills : List ℕ → List Token
fills [] = []
fills (b ∷ source) = if opens b then replicate (length source) Fill else []

-- plain text: opening delimiters have a token each, and other text has one
abbrev pub text_tokens : ℕ → List ℕ → List Token
text_tokens start source = Plain start (length source) ∷ fills source

abbrev pub is_argument : NodeKind → Bool
is_argument template = false
is_argument argument = true

-- the opening braces of a node, with a token for each
abbrev pub opening_tokens : NodeKind → ℕ → List Token
opening_tokens template start = NodeStart false start ∷ Fill ∷ []
opening_tokens argument start = NodeStart true start ∷ Fill ∷ Fill ∷ []

unfoldable mutual
  pub item_tokens : Item → List Token
  item_tokens (plain start source) = text_tokens start source
  item_tokens (sealed start source) = Sealed start (length source) ∷ []
  item_tokens (nothing start source) = Nothing start (length source) ∷ []
  item_tokens (node kind start content) = opening_tokens kind start ++ (content_tokens content ++ NodeEnd ∷ [])

  pub content_tokens : Content → List Token
  content_tokens empty_content = []
  content_tokens (item_then i rest) = item_tokens i ++ content_tokens rest
  content_tokens (bar_then start rest) = Bar start ∷ content_tokens rest
  content_tokens (equals_then start rest) = Equals start ∷ content_tokens rest

abbrev pub entry_tokens : Entry → List Token
entry_tokens (item i) = item_tokens i
entry_tokens (bar start) = Bar start ∷ []
entry_tokens (equals start) = Equals start ∷ []

abbrev pub entries_tokens : List Entry → List Token
entries_tokens parts = flat_map entry_tokens parts

abbrev pub items_tokens : List Item → List Token
items_tokens items = flat_map item_tokens items
