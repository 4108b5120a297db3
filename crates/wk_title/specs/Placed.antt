-- The first five rules of a title, one after the other.
use Rattle.std.specs.Prelude.{ℕ, ℤ, List, chars}
use Rattle.wk_text_rules.specs.Titles.{without_fragment, squeezed, after_leading_colon, after_namespace, capitalized, to_nfc}

-- the namespace that the text asks for, and the key that is left
unfoldable pub placed_key : List ℕ → ℤ → ℤ × List ℕ
placed_key text default_ns =
    let placed = after_namespace (after_leading_colon (default_ns, squeezed (without_fragment (chars text)))) in
    (placed.0, to_nfc (capitalized placed.1))
