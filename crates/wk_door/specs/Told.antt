-- What a door tells (own).
use Rattle.std.specs.Prelude.{◌≡◌, ℕ, ◌+◌, List, [], ◌∷◌, length, Option, None, Some, option_map}

-- the address at which a door listens, if it does, how many links it has given, and the links that are left
pub record DoorTold (L : Type 0) : Type 0 where
  pub address : Option (List ℕ)
  pub given : ℕ
  pub left : List L

-- a door that tells listens at this address
abbrev pub listening : {L : Type 0} → Option (DoorTold L) → List ℕ → Option (DoorTold L)
listening {L = L} door address = option_map (λ (told : DoorTold L). record told { address = Some address }) door

-- A link was accepted, the first of those that were left, or there was none. A door that doesn't tell always gives one.
abbrev pub IsAccepted : {L : Type 0} → Option (DoorTold L) → Option (DoorTold L) → Option L → Type 0
IsAccepted None later None = ⊥
IsAccepted None later (Some link) = later ≡ None
IsAccepted (Some door) later None = (door.left ≡ []) × (later ≡ Some door)
IsAccepted {L = L} (Some door) later (Some link) =
    (rest : List L) × (door.left ≡ link ∷ rest) × (later ≡ Some (record door { given = door.given + 1; left = rest }))

-- the address, how many links were given, and how many are left
abbrev pub DoorCounts : Type 0
DoorCounts = Option (List ℕ) × (ℕ × ℕ)

-- the counts of a door that tells
abbrev pub counts_of : {L : Type 0} → Option (DoorTold L) → Option DoorCounts
counts_of {L = L} door = option_map (λ (told : DoorTold L). (told.address, (told.given, length told.left))) door
