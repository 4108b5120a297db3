-- Where a redirect leads (MediaWiki's Help:Redirects; the details are the profile's own).
use Rattle.std.specs.Prelude.{ℕ, List, length, drop, codes, Option, None, option_and_then, is_some, if◌then◌else◌}
use Rattle.std.specs.List.{take_while}
use Rattle.wk_text_rules.specs.Blank.{is_blank_byte}
use Rattle.wk_text_rules.specs.Shapes.{Shape, exactly, in_any_case, run_of, ◌and_then◌, ◌or_else◌, perhaps, up_to, without_byte}
use Rattle.wk_text_rules.specs.Targets.{is_target_byte, page_named}
use Rattle.wk_text_rules.specs.Titles.{PageTitle}

abbrev pub blanks : Shape ℕ
blanks = run_of is_blank_byte

-- what stands before the target: `#redirect` in any case, at most one colon, and brackets, with blank bytes between
abbrev pub redirect_start : Shape ℕ
redirect_start =
    blanks and_then in_any_case (codes "#redirect")
    and_then blanks and_then perhaps (exactly (codes ":"))
    and_then blanks and_then exactly (codes "[[")

-- what ends the target: the closing brackets, or a bar and a label without newline, which may be empty, up to the
-- nearest closing brackets. What follows isn't looked at.
abbrev pub target_end : Shape ℕ
target_end = exactly (codes "]]") or_else exactly (codes "|") and_then without_byte 10 (up_to (exactly (codes "]]")))

-- the title that a text redirects to, where it begins as a redirect. It is the raw text: a comment makes it none.
unfoldable pub redirect_target : List ℕ → Option PageTitle
redirect_target text =
    option_and_then
    (λ inside.
    let target = take_while is_target_byte inside in
    if is_some (target_end (drop (length target) inside)) then page_named target else None)
    (redirect_start text)
