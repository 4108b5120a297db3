-- Lists that are two parts in a row.
use Rattle.std.proofs.Common.{◌≡◌, ℕ, ◌≤◌, List, [], ◌∷◌, ◌++◌, length, refl, arith}
use Rattle.std.proofs.lemmas.List.Elements.{All-cons, All-head, All-nil, All-tail}
use Rattle.std.specs.Prelude.{All}

-- two ways to part one list: the shorter front is the front of the longer one
pub split_append : (a b c d : List ℕ) → a ++ b ≡ c ++ d → length a ≤ length c → (x : List ℕ) × (c ≡ a ++ x) × (b ≡ x ++ d)
split_append [] b c d e h = (c, refl, e)
split_append (x ∷ a) b [] d e h = absurd (omega arith)
split_append (x ∷ a) b (y ∷ c) d e h =
    let tails = split_append a b c d (cc) (omega arith) in
    (tails.0, cc, tails.2)

-- fronts of one length are the same
pub split_equal : (a b c d : List ℕ) → a ++ b ≡ c ++ d → length a ≡ length c → (a ≡ c) × (b ≡ d)
split_equal [] b [] d e h = (refl, e)
split_equal [] b (y ∷ c) d e h = absurd (omega arith)
split_equal (x ∷ a) b [] d e h = absurd (omega arith)
split_equal (x ∷ a) b (y ∷ c) d e h =
    let tails = split_equal a b c d (cc) (omega arith) in
    (cc, tails.1)

-- what holds of each element of a list holds of each of its front, and of its rest
pub All-front : {X : Type 0} (P : X → Type 0) → (xs ys : List X) → All P (xs ++ ys) → All P xs
All-front P [] ys all = All-nil P
All-front P (x ∷ xs) ys all = All-cons P x xs (All-head P x (xs ++ ys) all) (All-front P xs ys (All-tail P x (xs ++ ys) all))

pub All-rest : {X : Type 0} (P : X → Type 0) → (xs ys : List X) → All P (xs ++ ys) → All P ys
All-rest P [] ys all = all
All-rest P (x ∷ xs) ys all = All-rest P xs ys (All-tail P x (xs ++ ys) all)

pub All-mono : {X : Type 0} (P Q : X → Type 0) → ((x : X) → P x → Q x) → (xs : List X) → All P xs → All Q xs
All-mono P Q step [] all = All-nil Q
All-mono P Q step (x ∷ xs) all = All-cons Q x xs (step x (All-head P x xs all)) (All-mono P Q step xs (All-tail P x xs all))
