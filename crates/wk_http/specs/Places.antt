-- Where bytes end that a head can begin with (RFC 9112 sections 2, 3 and 5).
use Rattle.std.specs.Prelude.{◌≡◌, ℕ, List, [], ◌∷◌, ◌++◌}
use Rattle.std.specs.List.{flat_map}
use Rattle.httparse.specs.Ascii.{carriage_return, colon, space}
use Rattle.httparse.specs.Grammar.{AllPass, IsRequestHead, IsToken, LineEnd, RequestHead, is_value_byte, print_blank, print_end, print_field, print_version}
use Rattle.wk_wire_rules.specs.Messages.{EndsWithinTarget}
use Rattle.wk_http.specs.declared.places.Place.{Place}
use Rattle.wk_http.specs.declared.places.Place.TheVariants.{Empty, EmptyReturn, Method, Target, Line, Name, Value, Return}

-- the bytes are empty lines, and then this tail
pub record AreEmptyLines (bytes tail : List ℕ) : Type 0 where
  pub blank : List LineEnd
  pub bytes_are : bytes ≡ print_blank blank ++ tail

-- the bytes are empty lines, and then a method
pub record EndsInMethod (bytes : List ℕ) : Type 0 where
  pub blank : List LineEnd
  pub method : List ℕ
  pub token : IsToken method
  pub bytes_are : bytes ≡ print_blank blank ++ method

-- a head up to its last line end
abbrev pub lines_of : RequestHead → List ℕ
lines_of head =
    print_blank head.blank
    ++ (head.method ++ space ∷ (head.target ++ space ∷ (print_version head.minor ++ (print_end head.line_end ++ flat_map print_field head.fields))))

-- the bytes are such lines: an empty line behind them makes them a head
pub record AreLines (bytes : List ℕ) : Type 0 where
  pub head : RequestHead
  pub is : IsRequestHead head
  pub lines : bytes ≡ lines_of head

-- the bytes are such lines, and then a field's name
pub record EndsInName (bytes : List ℕ) : Type 0 where
  pub front : List ℕ
  pub lines : AreLines front
  pub name : List ℕ
  pub token : IsToken name
  pub bytes_are : bytes ≡ front ++ name

-- the bytes are such lines, and then a field's name, a colon, a value and this tail
pub record EndsInValue (bytes tail : List ℕ) : Type 0 where
  pub front : List ℕ
  pub lines : AreLines front
  pub name : List ℕ
  pub token : IsToken name
  pub raw : List ℕ
  pub all : AllPass is_value_byte raw
  pub bytes_are : bytes ≡ front ++ (name ++ colon ∷ (raw ++ tail))

abbrev pub EndsAt : List ℕ → Place → Type 0
EndsAt bytes Empty = AreEmptyLines bytes []
EndsAt bytes EmptyReturn = AreEmptyLines bytes (carriage_return ∷ [])
EndsAt bytes Method = EndsInMethod bytes
EndsAt bytes Target = EndsWithinTarget bytes
EndsAt bytes Line = AreLines bytes
EndsAt bytes Name = EndsInName bytes
EndsAt bytes Value = EndsInValue bytes []
EndsAt bytes Return = EndsInValue bytes (carriage_return ∷ [])
