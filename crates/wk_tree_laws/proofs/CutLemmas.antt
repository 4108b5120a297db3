-- Where a text of UTF-8 may be cut.
use Rattle.std.proofs.Common.{◌≡◌, ℕ, ◌<◌, ◌≤◌, List, [], ◌∷◌, ◌++◌, length, get_or, refl, ap, sym, subst, arith, length-append, IsUtf8, IsAscii}
use Rattle.std.proofs.Math.Seq.{take-append_seam, drop-append_seam}
use Rattle.std.proofs.lemmas.Str.Ascii.{IsAscii-nil, IsAscii-cons, encode_ascii}
use Rattle.std.proofs.lemmas.Str.{IsCharBoundary-before_ascii, IsCharBoundary-from_take, IsCharBoundary-at_seam, IsCharBoundary-start, IsUtf8-take, IsUtf8-drop, IsUtf8-past_char, IsUtf8-from_ascii}
use Rattle.std.specs.List.{AllByRecursion}

-- a byte of ASCII
abbrev pub IsAsciiByte : ℕ → Type 0
IsAsciiByte b = b < 128

pub ascii-text : (bs : List ℕ) → AllByRecursion IsAsciiByte bs → IsAscii bs
ascii-text [] all = IsAscii-nil
ascii-text (b ∷ bs) all = IsAscii-cons b bs all.0 (ascii-text bs all.1)

pub ascii-utf8 : (bs : List ℕ) → AllByRecursion IsAsciiByte bs → IsUtf8 bs
ascii-utf8 bs all = IsUtf8-from_ascii bs (ascii-text bs all)

get-seam : (xs : List ℕ) (b : ℕ) (ys : List ℕ) → get_or (xs ++ b ∷ ys) (length xs) 0 ≡ b
get-seam [] b ys = refl
get-seam (x ∷ xs) b ys = get-seam xs b ys

seam-within : (xs : List ℕ) (b : ℕ) (ys : List ℕ) → length xs < length (xs ++ b ∷ ys)
seam-within xs b ys = omega (arith, length-append xs (b ∷ ys))

-- ---- before and behind a byte of ASCII

pub front-before_ascii : (xs : List ℕ) (b : ℕ) (ys : List ℕ) → b < 128 → IsUtf8 (xs ++ b ∷ ys) → IsUtf8 xs
front-before_ascii xs b ys low u =
    subst IsUtf8 (take-append_seam xs (b ∷ ys))
    (IsUtf8-take (xs ++ b ∷ ys) (length xs) u (IsCharBoundary-before_ascii (xs ++ b ∷ ys) (length xs) (seam-within xs b ys) (subst (λ n. n < 128) (sym (get-seam xs b ys)) low)))

pub back-at_ascii : (xs : List ℕ) (b : ℕ) (ys : List ℕ) → b < 128 → IsUtf8 (xs ++ b ∷ ys) → IsUtf8 (b ∷ ys)
back-at_ascii xs b ys low u =
    subst IsUtf8 (drop-append_seam xs (b ∷ ys))
    (IsUtf8-drop (xs ++ b ∷ ys) (length xs) u (IsCharBoundary-before_ascii (xs ++ b ∷ ys) (length xs) (seam-within xs b ys) (subst (λ n. n < 128) (sym (get-seam xs b ys)) low)))

pub behind_ascii : (b : ℕ) (ys : List ℕ) → b < 128 → IsUtf8 (b ∷ ys) → IsUtf8 ys
behind_ascii b ys low u = IsUtf8-past_char (b ∷ ys) ys b u (ap (λ t. t ++ ys) (sym (encode_ascii b low)))

-- ---- where one side is UTF-8

pub back-utf8 : (xs ys : List ℕ) → IsUtf8 (xs ++ ys) → IsUtf8 xs → IsUtf8 ys
back-utf8 xs ys u v =
    subst IsUtf8 (drop-append_seam xs ys)
    (IsUtf8-drop (xs ++ ys) (length xs) u (IsCharBoundary-from_take (xs ++ ys) (length xs) u (omega (arith, length-append xs ys)) (subst IsUtf8 (sym (take-append_seam xs ys)) v)))

pub front-utf8 : (xs ys : List ℕ) → IsUtf8 (xs ++ ys) → IsUtf8 ys → IsUtf8 xs
front-utf8 xs ys u v =
    subst IsUtf8 (take-append_seam xs ys)
    (IsUtf8-take (xs ++ ys) (length xs) u (IsCharBoundary-at_seam (xs ++ ys) xs ys refl v))

-- before a text of UTF-8 that isn't empty, whatever follows it
pub front-before_utf8 : (xs : List ℕ) (z : ℕ) (zs ys : List ℕ) → IsUtf8 (z ∷ zs) → IsUtf8 (xs ++ z ∷ ys) → IsUtf8 xs
front-before_utf8 xs z zs ys v u =
    let lead = (IsCharBoundary-start (z ∷ zs) v).1 (omega arith) in
    let e : get_or (xs ++ z ∷ ys) (length xs) 0 ≡ z = get-seam xs z ys in
    let within : length xs < length (xs ++ z ∷ ys) = seam-within xs z ys in
    subst IsUtf8 (take-append_seam xs (z ∷ ys))
    (IsUtf8-take (xs ++ z ∷ ys) (length xs) u (omega arith, λ h high. subst (λ n. 192 ≤ n) (sym e) (lead (subst (λ n. 128 ≤ n) e high))))
