-- The text that a wiki keeps of a text that is saved (MediaWiki's TextContent::normalizeLineEndings, which makes
-- newlines of carriage returns and trims the end; MediaWiki brings all input to NFC; which bytes are blank is own).
use Rattle.std.specs.Prelude.{ℕ, ◌&&◌, ◌==◌, List, [], ◌∷◌, chars, encode_utf8_all, if◌then◌else◌}
use Rattle.wk_text_rules.specs.Blank.{trimmed_end}
use Rattle.wk_text_rules.specs.Titles.{to_nfc}

-- a carriage return with the newline behind it is a newline, and so is any other carriage return
abbrev pub with_newlines : List ℕ → List ℕ
with_newlines [] = []
with_newlines (c ∷ []) = (if c == 13 then 10 else c) ∷ []
with_newlines (c ∷ d ∷ cs) =
    let later = with_newlines (d ∷ cs) in if c == 13 && d == 10 then later else (if c == 13 then 10 else c) ∷ later

-- newlines alone, in NFC, and no blank bytes at the end
unfoldable pub kept : List ℕ → List ℕ
kept text = trimmed_end (encode_utf8_all (to_nfc (with_newlines (chars text))))
