-- The parameters of a request: names and values as forms write them (URL Standard section 5.1; that the query's come
-- before the body's, and that a name's first value counts, is own).
use Rattle.std.specs.Prelude.{ℕ, List, ◌++◌, map, find, bytes_eq, Option, option_map, String, string_bytes}
use Rattle.std.specs.Str.Lossy.{utf8_lossy}
use Rattle.form_urlencoded.specs.Form.{decode, raw_pairs}

-- names and values, in order
abbrev pub Parameters : Type 0
Parameters = List (List ℕ × List ℕ)

-- a name and a value, with their escapes decoded, and U+FFFD in the place of what isn't UTF-8
abbrev pub decoded : List ℕ × List ℕ → List ℕ × List ℕ
decoded pair = (utf8_lossy (decode pair.0), utf8_lossy (decode pair.1))

-- the pairs that a query or a body holds
abbrev pub pairs_in : List ℕ → Parameters
pairs_in bytes = map decoded (raw_pairs bytes)

-- those of the query, and then those of the body
abbrev pub parameters : List ℕ → List ℕ → Parameters
parameters query body = pairs_in query ++ pairs_in body

-- the first value of a name
abbrev pub first_value : List ℕ → Parameters → Option (List ℕ)
first_value name parameters = option_map (λ pair. pair.1) (find (λ pair. bytes_eq pair.0 name) parameters)

-- the bytes of texts in pairs
abbrev pub texts : {A : Type 0} → List (String A × String A) → Parameters
texts pairs = map (λ pair. (string_bytes pair.0, string_bytes pair.1)) pairs
