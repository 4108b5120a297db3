-- Lists of readers.
use Rattle.std.proofs.Common.{◌≡◌, All, List, [], ◌∷◌, ◌++◌, sym, subst}
use Rattle.std.proofs.lemmas.List.Elements.{All-append, All-cons, All-nil}

-- one more, of which it holds too
pub all-with : {A : Type 0} (P : A → Type 0) (before after : List A) (one : A) → after ≡ before ++ one ∷ [] → All P before → P one → All P after
all-with P before after one is all so = subst (All P) (sym is) (All-append P before (one ∷ []) all (All-cons P one [] so (All-nil P)))
