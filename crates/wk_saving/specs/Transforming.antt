-- Edits whose text is transformed before they are judged (own).
use Rattle.std.specs.Prelude.{nat_lt, Option, Some, None, if◌then◌else◌}
use Rattle.wk_page_rules.specs.Verdict.{EditAsked, body_bytes, max_text, real_title}
use Rattle.wk_answer_rules.specs.ApiErrors.{ApiError, contenttoobig, invalidtitle}

-- What is refused before a text is transformed: a title that names no page, and a text that is too long as it is given.
abbrev pub error_before : EditAsked → Option ApiError
error_before edit = elim (real_title edit.title) [
  | None ↦ Some invalidtitle
  | Some title ↦ if nat_lt max_text (body_bytes edit.body) then Some contenttoobig else None
]
