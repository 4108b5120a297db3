-- The code that an error's value tells (own).
use Rattle.std.specs.Prelude.{Bool, false, ◌||◌, List, ℕ, bytes_eq, codes, Option, Some, None, option_and_then, if◌then◌else◌}
use Rattle.serde_json.specs.Data.{Data, string, object, Members, no_members, member}

-- the value under a key, if there is one
abbrev pub member_at : List ℕ → Members → Option Data
member_at key no_members = None
member_at key (member other value members) = let later = member_at key members in if bytes_eq other key then Some value else later

-- the same of a value, which may be an object
abbrev pub value_at : List ℕ → Data → Option Data
value_at key (object members) = member_at key members
value_at key _ = None

abbrev pub text_of_value : Data → Option (List ℕ)
text_of_value (string text) = Some text
text_of_value _ = None

-- the code of the error that a value tells, if it tells one
abbrev pub error_code : Data → Option (List ℕ)
error_code value =
    option_and_then text_of_value (option_and_then (value_at (codes "code")) (value_at (codes "error") value))

abbrev pub is_failure_code : Option (List ℕ) → Bool
is_failure_code None = false
is_failure_code (Some code) = bytes_eq code (codes "nomemory") || bytes_eq code (codes "storefault")

-- the value tells of want of memory or of a fault of the store
abbrev pub is_failure : Data → Bool
is_failure value = is_failure_code (error_code value)
