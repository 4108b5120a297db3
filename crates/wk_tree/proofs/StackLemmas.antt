-- Lists that are kept as stacks, and lists of which each is a range.
use Rattle.std.proofs.Common.{◌≡◌, ◌∙◌, ℕ, zero, suc, ◌+◌, ◌-◌, ◌≤◌, List, [], ◌∷◌, ◌++◌, length, take, drop, reverse, Option, Some, ap, sym, subst, refl, arith}
use Rattle.std.proofs.lemmas.List.{reverse-append, append-nil, append_assoc, length-append}
use Rattle.wk_tree.specs.Layout.{Begins, items_by, under_by}
use Rattle.wk_tree.specs.declared.item.Item.{Item}

pub reverse-push : {X : Type 0} (old new : List X) (x : X) → new ≡ old ++ x ∷ [] → reverse new ≡ x ∷ reverse old
reverse-push old new x e = ap reverse e ∙ reverse-append old (x ∷ [])

pub push-take : {X : Type 0} (n count : ℕ) (old new : List X) (x : X) → count ≡ 1 + n → new ≡ old ++ x ∷ [] → take count (reverse new) ≡ x ∷ take n (reverse old)
push-take n count old new x long e =
    let m : count ≡ suc n = omega (arith, long) in
    ap (λ k. take k (reverse new)) m ∙ ap (take (suc n)) (reverse-push old new x e)

pub push-drop : {X : Type 0} (n count : ℕ) (old new : List X) (x : X) → count ≡ 1 + n → new ≡ old ++ x ∷ [] → drop count (reverse new) ≡ drop n (reverse old)
push-drop n count old new x long e =
    let m : count ≡ suc n = omega (arith, long) in
    ap (λ k. drop k (reverse new)) m ∙ ap (drop (suc n)) (reverse-push old new x e)

-- an item is put on the stack as the next of others
pub another-items : (first : Option Item) (others count : ℕ) (x : Item) (old new : List Item) → first ≡ Some x → count ≡ 1 + others → new ≡ old ++ x ∷ [] → take count (reverse new) ≡ items_by first others (reverse old)
another-items first others count x old new is n pushed =
    push-take others count old new x n pushed ∙ sym (ap (λ f. items_by f others (reverse old)) is)

pub another-under : (first : Option Item) (others count : ℕ) (x : Item) (old new : List Item) → first ≡ Some x → count ≡ 1 + others → new ≡ old ++ x ∷ [] → drop count (reverse new) ≡ under_by first others (reverse old)
another-under first others count x old new is n pushed =
    push-drop others count old new x n pushed ∙ sym (ap (λ f. under_by f others (reverse old)) is)

-- ---- what is taken off a stack

-- one more, where one is left
pub take-more : {X : Type 0} (n : ℕ) (xs ys : List X) (x : X) → drop n xs ≡ x ∷ ys → take (suc n) xs ≡ take n xs ++ x ∷ []
take-more zero [] ys x e = cc
take-more zero (y ∷ zs) ys x e = cc
take-more (suc n) [] ys x e = cc
take-more (suc n) (y ∷ zs) ys x e = ap (λ l. y ∷ l) (take-more n zs ys x e)

pub drop-more : {X : Type 0} (n : ℕ) (xs ys : List X) (x : X) → drop n xs ≡ x ∷ ys → drop (suc n) xs ≡ ys
drop-more zero [] ys x e = cc
drop-more zero (y ∷ zs) ys x e = cc
drop-more (suc n) [] ys x e = cc
drop-more (suc n) (y ∷ zs) ys x e = drop-more n zs ys x e

-- and where none is
pub take-no-more : {X : Type 0} (n : ℕ) (xs : List X) → drop n xs ≡ [] → take (suc n) xs ≡ take n xs
take-no-more zero [] e = refl
take-no-more zero (y ∷ zs) e = cc
take-no-more (suc n) [] e = refl
take-no-more (suc n) (y ∷ zs) e = ap (λ l. y ∷ l) (take-no-more n zs e)

pub drop-no-more : {X : Type 0} (n : ℕ) (xs : List X) → drop n xs ≡ [] → drop (suc n) xs ≡ []
drop-no-more zero [] e = refl
drop-no-more zero (y ∷ zs) e = cc
drop-no-more (suc n) [] e = refl
drop-no-more (suc n) (y ∷ zs) e = drop-no-more n zs e

-- what was taken off a stack, and what stands behind a list
pub record IsUnstacked {X : Type 0} (n : ℕ) (list stack new left : List X) : Type 0 where
  pub gained : new ≡ list ++ take n (reverse stack)
  pub kept : reverse left ≡ drop n (reverse stack)

pub unstacked-none : {X : Type 0} (list stack : List X) → IsUnstacked 0 list stack list stack
unstacked-none list stack = record { gained = sym (append-nil list); kept = refl }

pub unstacked-more : {X : Type 0} (n : ℕ) (list stack new left more : List X) (x : X) → IsUnstacked n list stack new left → left ≡ more ++ x ∷ [] → IsUnstacked (n + 1) list stack (new ++ x ∷ []) more
unstacked-more n list stack new left more x h off =
    let m : suc n ≡ n + 1 = omega arith in
    subst (λ k. IsUnstacked k list stack (new ++ x ∷ []) more) m (
    let next : drop n (reverse stack) ≡ x ∷ reverse more = sym h.kept ∙ reverse-push more left x off in
    record {
      gained = ap (λ l. l ++ x ∷ []) h.gained ∙ append_assoc list (take n (reverse stack)) (x ∷ []) ∙ ap (λ l. list ++ l) (sym (take-more n (reverse stack) (reverse more) x next));
      kept = sym (drop-more n (reverse stack) (reverse more) x next);
    })

nothing-there : {X : Type 0} (xs : List X) → length xs ≡ 0 → xs ≡ []
nothing-there [] e = refl
nothing-there (x ∷ xs) e = cc

pub unstacked-no-more : {X : Type 0} (n : ℕ) (list stack new left more : List X) → IsUnstacked n list stack new left → left ≡ more ++ [] → length left ≡ 0 → IsUnstacked (n + 1) list stack new more
unstacked-no-more n list stack new left more h off none =
    let m : suc n ≡ n + 1 = omega arith in
    let gone : left ≡ [] = nothing-there left none in
    let empty : drop n (reverse stack) ≡ [] = sym h.kept ∙ ap reverse gone in
    subst (λ k. IsUnstacked k list stack new more) m (record {
      gained = h.gained ∙ ap (λ l. list ++ l) (sym (take-no-more n (reverse stack) empty));
      kept = ap reverse (sym (append-nil more) ∙ sym off ∙ gone) ∙ sym (drop-no-more n (reverse stack) empty);
    })

-- ---- ranges

drop-behind : {X : Type 0} (xs ys : List X) → drop (length xs) (xs ++ ys) ≡ ys
drop-behind [] ys = refl
drop-behind (x ∷ xs) ys = drop-behind xs ys

take-before : {X : Type 0} (xs ys : List X) → take (length xs) (xs ++ ys) ≡ xs
take-before [] ys = refl
take-before (x ∷ xs) ys = ap (λ l. x ∷ l) (take-before xs ys)

-- what stands behind a list is a range of all that begins with both
pub range-there : {X : Type 0} (old more new all : List X) (start len : ℕ) → new ≡ old ++ more → start ≡ length old → len ≡ length new - length old → Begins new all → take len (drop start all) ≡ more
range-there old more new all start len is from long begins =
    let whole : all ≡ old ++ (more ++ begins.rest) = begins.is ∙ ap (λ l. l ++ begins.rest) is ∙ append_assoc old more begins.rest in
    let sum : length new ≡ length old + length more = ap length is ∙ length-append old more in
    let count : len ≡ length more = omega (arith, long, sum) in
    ap (λ l. take len (drop start l)) whole
    ∙ ap (λ k. take len (drop k (old ++ (more ++ begins.rest)))) from
    ∙ ap (take len) (drop-behind old (more ++ begins.rest))
    ∙ ap (λ k. take k (more ++ begins.rest)) count
    ∙ take-before more begins.rest

pub begins-before : {X : Type 0} (old more new all : List X) → new ≡ old ++ more → Begins new all → Begins old all
begins-before old more new all is begins =
    record { rest = more ++ begins.rest; is = begins.is ∙ ap (λ l. l ++ begins.rest) is ∙ append_assoc old more begins.rest }

pub unstacked-long : {X : Type 0} (n : ℕ) (list stack new left : List X) → IsUnstacked n list stack new left → length list ≤ length new
unstacked-long n list stack new left h =
    let e : length new ≡ length list + length (take n (reverse stack)) = ap length h.gained ∙ length-append list (take n (reverse stack)) in
    omega (arith, e)
