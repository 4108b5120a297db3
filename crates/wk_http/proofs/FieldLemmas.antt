-- The values of a name, over more and more fields, and what the checks of a head say of them.
use Rattle.std.proofs.Common.{◌≡◌, ℕ, ◌+◌, ◌<◌, Bool, true, false, cond, List, [], ◌∷◌, ◌++◌, length, get_or, take, refl, ap, sym, ◌∙◌}
use Rattle.std.proofs.lemmas.List.{map-append, take_more}
use Rattle.std.proofs.lemmas.List.Elements.{filter-append}
use Rattle.std.proofs.lemmas.Simd.{map-map}
use Rattle.std.specs.Prelude.{map, filter, ◌||◌}
use Rattle.std.specs.Borrow.{Bor}
use Rattle.std.specs.List.{list_any}
use Rattle.httparse.specs.declared.spans.HeaderSpan.{HeaderSpan}
use Rattle.httparse.specs.Spans.{span_bytes, header_bytes}
use Rattle.wk_wire_rules.specs.Heads.{Fields, is_named, values_of}
use Rattle.wk_http.specs.Fields.{fields_in}

values_of-append : (name : List ℕ) (fields more : Fields) → values_of name (fields ++ more) ≡ values_of name fields ++ values_of name more
values_of-append name fields more =
    ap (λ (fs : Fields). map (λ field. field.1) fs) (filter-append (is_named name) fields more)
    ∙ map-append (λ field. field.1) (filter (is_named name) fields) (filter (is_named name) more)

-- the value of one field, where it has the name
abbrev pub value_where : Bool → List ℕ → List (List ℕ)
value_where test value = cond test (value ∷ []) []

values_of-one : (name : List ℕ) (field : List ℕ × List ℕ) → values_of name (field ∷ []) ≡ value_where (is_named name field) field.1
values_of-one name field = cases (is_named name field)
  where
    cases : (test : Bool) → map (λ (f : List ℕ × List ℕ). f.1) (cond test (field ∷ []) []) ≡ value_where test field.1
    cases true = refl
    cases false = refl

-- one field more
pub values_of-more : (name buf : List ℕ) (headers : List HeaderSpan) (i : ℕ) (d : HeaderSpan) → i < length headers →
    values_of name (fields_in buf (take (i + 1) headers))
    ≡ values_of name (fields_in buf (take i headers))
    ++ value_where (is_named name (header_bytes buf (get_or headers i d))) (span_bytes buf (get_or headers i d).value)
values_of-more name buf headers i d inside =
    ap (λ hs. values_of name (fields_in buf hs)) (take_more headers i d inside)
    ∙ (ap (values_of name) (map-append (header_bytes buf) (take i headers) (get_or headers i d ∷ []))
    ∙ (values_of-append name (fields_in buf (take i headers)) (header_bytes buf (get_or headers i d) ∷ [])
    ∙ ap (λ vs. values_of name (fields_in buf (take i headers)) ++ vs) (values_of-one name (header_bytes buf (get_or headers i d)))))

pub list_any-map : {X Y : Type 0} (p : Y → Bool) (f : X → Y) (xs : List X) → list_any (λ x. p (f x)) xs ≡ list_any p (map f xs)
list_any-map p f [] = refl
list_any-map p f (x ∷ xs) = ap (λ b. p (f x) || b) (list_any-map p f xs)

-- a test of the values that references point to
pub list_any-values : (p : List ℕ → Bool) (found read : List (Bor (List ℕ))) (values : List (List ℕ)) → read ≡ found →
    map (λ v. v.now) found ≡ values → list_any (λ v. p v.now) read ≡ list_any p values
list_any-values p found read values same is =
    ap (list_any (λ v. p v.now)) same ∙ (list_any-map p (λ v. v.now) found ∙ ap (list_any p) is)

pub map-values : {Y : Type 0} (f : List ℕ → Y) (found read : List (Bor (List ℕ))) (values : List (List ℕ)) → read ≡ found →
    map (λ v. v.now) found ≡ values → map (λ v. f v.now) read ≡ map f values
map-values f found read values same is =
    ap (map (λ v. f v.now)) same ∙ (sym (map-map f (λ v. v.now) found) ∙ ap (map f) is)
