-- What a link or a redirect may hold as its target, and the pages that texts name (MediaWiki's Help:Links and
-- Manual:Page title; that such a byte ends a target, whatever follows it, is own).
use Rattle.std.specs.Prelude.{ℕ, ◌==◌, pos, Bool, ◌||◌, not, List, codes, Option, Some, None, option_and_then, if◌then◌else◌}
use Rattle.std.specs.List.{list_any}
use Rattle.wk_text_rules.specs.Titles.{PageTitle, normal, is_virtual}

-- a byte other than the brackets, braces, the bar, the angle brackets and the newline
abbrev pub is_target_byte : ℕ → Bool
is_target_byte b = not (b == 10 || list_any (λ a. b == a) (codes "[]|{}<>"))

-- the page that a text names: a title in main by default, and none in a negative namespace
abbrev pub page_named : List ℕ → Option PageTitle
page_named text = option_and_then (λ title. if is_virtual title then None else Some title) (normal text (pos 0))
