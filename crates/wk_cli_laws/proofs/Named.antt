-- The title of a page that is generated.
use Rattle.std.proofs.Common.{◌≡◌, ℕ, pos, ◌^◌, ◌<◌, ◌≤◌, true, false, not, ◌==◌, nat_le, nat_lt, List, [], ◌∷◌, ◌++◌, length, codes, encode_utf8_all, filter, Some, refl, sym, ap, ◌∙◌, arith}
use Rattle.std.proofs.lemmas.Bool.{and_parts}
use Rattle.std.proofs.lemmas.Bool.Decides.{nat_tests}
use Rattle.std.proofs.lemmas.Fmt.{decimal_nonempty, length-decimal-le}
use Rattle.std.specs.Char.{is_ascii}
use Rattle.std.specs.Fmt.{decimal}
use Rattle.std.specs.List.{list_all}
use Rattle.wk_text_rules.specs.Titles.{to_nfc, is_direction_mark, has_dot_part, without_fragment, with_spaces, squeezed, after_namespace, is_legal_key, normal}
use Rattle.wk_page_rules.specs.Verdict.{real_title}
use Rattle.wk_title.proofs.NormalLemmas.{title_from, placed_key_from}
use Rattle.wk_title_laws.proofs.Gaps.{gaps_ok, squeezed-with_spaces}
use Rattle.wk_title_laws.proofs.Lists.{filter_all, take_while_all, list_all-weaker}
use Rattle.wk_title_laws.proofs.Names.{is_plain}
use Rattle.wk_tool_rules.specs.Generator.{page_name}
use Rattle.wk_cli_laws.proofs.Safe.{AreDigits, AreSafe, IsSafe, allowed-safe, ascii-safe, chars-safe, codes-safe, digits-of, encode-safe, no_colon-safe, plain-safe, references-safe, safe-digits, tildes-safe, whole-safe}

-- a page's name as a key, by the digits of its number
abbrev pub key_of : List ℕ → List ℕ
key_of ds = codes "Page_" ++ ds

abbrev pub name_of : List ℕ → List ℕ
name_of ds = codes "Page " ++ ds

safe-80 : IsSafe 80
safe-80 = record { ascii = refl; plain = refl; no_space = refl; no_colon = refl; no_slash = refl; no_percent = refl; no_ampersand = refl; no_tilde = refl; allowed = refl }

safe-97 : IsSafe 97
safe-97 = record { ascii = refl; plain = refl; no_space = refl; no_colon = refl; no_slash = refl; no_percent = refl; no_ampersand = refl; no_tilde = refl; allowed = refl }

safe-103 : IsSafe 103
safe-103 = record { ascii = refl; plain = refl; no_space = refl; no_colon = refl; no_slash = refl; no_percent = refl; no_ampersand = refl; no_tilde = refl; allowed = refl }

safe-101 : IsSafe 101
safe-101 = record { ascii = refl; plain = refl; no_space = refl; no_colon = refl; no_slash = refl; no_percent = refl; no_ampersand = refl; no_tilde = refl; allowed = refl }

safe-95 : IsSafe 95
safe-95 = record { ascii = refl; plain = refl; no_space = refl; no_colon = refl; no_slash = refl; no_percent = refl; no_ampersand = refl; no_tilde = refl; allowed = refl }

safe_key : (ds : List ℕ) → AreDigits ds → AreSafe (key_of ds)
safe_key ds all = (safe-80, (safe-97, (safe-103, (safe-101, (safe-95, safe-digits ds all)))))

safe-32 : (is_ascii 32 ≡ true) × (is_plain 32 ≡ true)
safe-32 = (refl, refl)

-- ---- the first two rules

ascii_name : (ds : List ℕ) → AreDigits ds → list_all is_ascii (name_of ds) ≡ true
ascii_name ds all = ascii-safe ds (safe-digits ds all)

plain_name : (ds : List ℕ) → AreDigits ds → list_all is_plain (name_of ds) ≡ true
plain_name ds all = plain-safe ds (safe-digits ds all)

nfc-of : (cs : List ℕ) → list_all is_ascii cs ≡ true → to_nfc cs ≡ cs
unfolding to_nfc
nfc-of cs all = rw all refl

stays : (cs : List ℕ) → list_all is_ascii cs ≡ true → list_all is_plain cs ≡ true → without_fragment cs ≡ cs
stays cs ascii plain =
    let no_fragment = λ (c : ℕ). not (c == 35) in
    let no_mark = λ (c : ℕ). not (is_direction_mark c) in
    let first = list_all-weaker is_plain no_fragment (λ c h. (and_parts (no_fragment c) (no_mark c) h).0) cs plain in
    let second = list_all-weaker is_plain no_mark (λ c h. (and_parts (no_fragment c) (no_mark c) h).1) cs plain in
    ap (λ l. to_nfc (filter no_mark l)) (take_while_all no_fragment cs first) ∙ ap to_nfc (filter_all no_mark cs second) ∙ nfc-of cs ascii

spaced : (ds : List ℕ) → AreDigits ds → with_spaces ds ≡ ds
spaced [] all = refl
spaced (c ∷ cs) all = rw all.0.no_underscore (ap (λ l. c ∷ l) (spaced cs all.1))

gaps : (ds : List ℕ) → AreDigits ds → gaps_ok true ds ≡ true
gaps [] all = refl
gaps (c ∷ cs) all = rw (all.0.no_underscore, all.0.safe.no_space) (gaps cs all.1)

-- a name ends in a digit
gaps_at : (ds : List ℕ) → AreDigits ds → 0 < length ds → gaps_ok false ds ≡ true
gaps_at [] all some = absurd (omega (arith, some))
gaps_at (c ∷ cs) all some = rw (all.0.no_underscore, all.0.safe.no_space) (gaps cs all.1)

words : (ds : List ℕ) → AreDigits ds → 0 < length ds → squeezed (name_of ds) ≡ key_of ds
words ds all some =
    let whole : with_spaces (key_of ds) ≡ name_of ds = ap (λ l. codes "Page " ++ l) (spaced ds all) in
    ap squeezed (sym whole) ∙ squeezed-with_spaces (key_of ds) (gaps_at ds all some)

-- ---- the other rules

uncalled : (ds : List ℕ) → AreDigits ds → (pos 0, key_of ds) ≡ after_namespace (pos 0, key_of ds)
uncalled ds all = let none = no_colon-safe ds (safe-digits ds all) in rw none refl

legal : (ds : List ℕ) → AreDigits ds → length ds ≤ 20 → is_legal_key (key_of ds) ≡ true
legal ds all few =
    let safe = safe_key ds all in
    let bytes = encode-safe (key_of ds) safe in
    let short : nat_le (length (encode_utf8_all (key_of ds))) 255 ≡ true = rw bytes (grind (arith, nat_tests)) in
    let some : nat_lt 0 (length (key_of ds)) ≡ true = grind (arith, nat_tests) in
    let parts : has_dot_part (key_of ds) ≡ false = rw (whole-safe (key_of ds) safe) refl in
    rw (some, short, allowed-safe (key_of ds) safe, tildes-safe (key_of ds) safe, codes-safe (key_of ds) safe, references-safe (key_of ds) safe, parts) refl

pub named : (ds : List ℕ) → AreDigits ds → 0 < length ds → length ds ≤ 20 → normal (name_of ds) (pos 0) ≡ Some (record { ns = pos 0; key = encode_utf8_all (key_of ds) })
named ds all some few =
    let text = name_of ds in
    let read = chars-safe text (ascii_name ds all) in
    title_from text (pos 0) (pos 0) (key_of ds) (
    placed_key_from text (pos 0) text (key_of ds) (pos 0, key_of ds) (pos 0, key_of ds) (key_of ds) (key_of ds)
    (sym (ap without_fragment read ∙ stays text (ascii_name ds all) (plain_name ds all))) (sym (words ds all some)) refl (uncalled ds all)
    refl (sym (nfc-of (key_of ds) (ascii-safe (key_of ds) (safe_key ds all))))
    ) (legal ds all few)

pub page-named : (i : ℕ) → i < 2 ^ 64 → real_title (page_name i) ≡ Some (record { ns = pos 0; key = encode_utf8_all (key_of (decimal i)) })
page-named i small = rw (named (decimal i) (digits-of i small) (decimal_nonempty i small) (length-decimal-le 20 i (omega arith) (omega arith) small), real_title) refl
