-- What of a text is read (MediaWiki's Help:Templates, 'onlyinclude'; the corners are the profile's own).
use Rattle.std.specs.Prelude.{ℕ, List, [], ◌∷◌, drop, filter_map, codes, Option, Some, None, option_and_then, unwrap_or}
use Rattle.std.specs.List.{concat}
use Rattle.wk_text_rules.specs.Shapes.{exactly, split_at_nearest, spans}
use Rattle.wk_tree_rules.specs.declared.Mode.{Mode}
use Rattle.wk_tree_rules.specs.declared.Mode.TheVariants.{View, Include}

-- the part between the tag that begins a text and the nearest end tag, and what follows; both are spelled exactly,
-- and are found also in comments (own)
abbrev pub part_between : List ℕ → Option (List ℕ × List ℕ)
part_between text =
    option_and_then (split_at_nearest (exactly (codes "</onlyinclude>"))) (exactly (codes "<onlyinclude>") text)

-- at a place a part begins, or none does and one byte is passed over
abbrev pub part_at : Option ℕ → List ℕ → Option (List ℕ) × List ℕ
part_at before text = elim (part_between text) [
  | Some found ↦ (Some found.0, found.1)
  | None ↦ (None, drop 1 text)
]

-- the parts, from the left; after one the search goes on behind its end tag
abbrev pub selected_parts : List ℕ → List (List ℕ)
selected_parts text = filter_map (λ span. span.kind) (spans part_at text)

-- the parts joined, where there is one
abbrev pub joined_parts : List (List ℕ) → Option (List ℕ)
joined_parts [] = None
joined_parts (part ∷ parts) = Some (concat (part ∷ parts))

-- what is read in the place of the whole text, if anything is: for inclusion, the parts joined
unfoldable pub selection : Mode → List ℕ → Option (List ℕ)
selection View text = None
selection Include text = joined_parts (selected_parts text)

-- the text that is read
abbrev pub selected : Mode → List ℕ → List ℕ
selected mode text = unwrap_or (selection mode text) text
