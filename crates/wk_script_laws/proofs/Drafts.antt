-- The tickets of drafts: lists of them, and which are out behind an event.
use Rattle.std.proofs.Common.{◌≡◌, ℕ, ◌<◌, Bool, true, false, not, cond, eqb, List, [], ◌∷◌, ◌++◌, length, map, Option, Some, None, refl, ap, subst, arith}
use Rattle.std.specs.List.{AllByRecursion}
use Rattle.std.specs.Prelude.{filter, find, slice_get, is_some, IsSome}
use Rattle.std.proofs.lemmas.Bool.{cond_both}
use Rattle.wk_table_laws.specs.InOrder.{Rises}
use Rattle.wk_view_rules.specs.Worlds.{Read}
use Rattle.wk_script_rules.specs.WikiScripts.{TicketDraft, read_further}

-- ---- options

pub some-of : {X : Type 0} (o : Option X) → IsSome o → (x : X) × (o ≡ Some x)
some-of None is = absurd (let e : false ≡ true = is in cc)
some-of (Some x) is = (x, refl)

pub is-some : {X : Type 0} (o : Option X) (x : X) → o ≡ Some x → IsSome o
is-some o x is = ap (λ p. is_some p) is

-- ---- what is true of each draft

abbrev pub ticket : TicketDraft → ℕ
ticket draft = draft.ticket

pub each-push : (P : TicketDraft → Type 0) (drafts : List TicketDraft) (draft : TicketDraft) → AllByRecursion P drafts → P draft → AllByRecursion P (drafts ++ draft ∷ [])
each-push P [] draft all new = (new, tt)
each-push P (d ∷ drafts) draft all new = (all.0, each-push P drafts draft all.1 new)

pub each-kept : (P Q : TicketDraft → Type 0) (test : TicketDraft → Bool) (drafts : List TicketDraft)
    → ((draft : TicketDraft) → P draft → test draft ≡ true → Q draft) → AllByRecursion P drafts → AllByRecursion Q (filter test drafts)
each-kept P Q test [] keeps all = tt
each-kept P Q test (d ∷ drafts) keeps all = by (test d) refl (each-kept P Q test drafts keeps all.1)
  where
    by : (b : Bool) → test d ≡ b → AllByRecursion Q (filter test drafts) → AllByRecursion Q (cond b (d ∷ filter test drafts) (filter test drafts))
    by true is later = (keeps d all.0 is, later)
    by false is later = later

pub each-weaker : (P Q : TicketDraft → Type 0) (drafts : List TicketDraft) → ((draft : TicketDraft) → P draft → Q draft) → AllByRecursion P drafts → AllByRecursion Q drafts
each-weaker P Q [] keeps all = tt
each-weaker P Q (d ∷ drafts) keeps all = (keeps d all.0, each-weaker P Q drafts keeps all.1)

-- what is found is one of them, and passes the test
pub found : (P : TicketDraft → Type 0) (test : TicketDraft → Bool) (drafts : List TicketDraft) (draft : TicketDraft)
    → AllByRecursion P drafts → find test drafts ≡ Some draft → P draft × (test draft ≡ true)
found P test [] draft all is = absurd (let e : None ≡ Some draft = is in cc)
found P test (d ∷ drafts) draft all is = by (test d) refl is (found P test drafts draft all.1)
  where
    by : (b : Bool) → test d ≡ b → cond b (Some d) (find test drafts) ≡ Some draft
        → (find test drafts ≡ Some draft → P draft × (test draft ≡ true)) → P draft × (test draft ≡ true)
    by true passes is later =
        let same : d ≡ draft = (let e : Some d ≡ Some draft = is in cc) in
        (subst P same all.0, subst (λ (x : TicketDraft). test x ≡ true) same passes)
    by false fails is later = later is

-- a fact of the tickets alone holds when one draft has read further
pub each-read : (P : ℕ → Type 0) (t : ℕ) (read : Read) (drafts : List TicketDraft)
    → AllByRecursion (λ draft. P (ticket draft)) drafts → AllByRecursion (λ draft. P (ticket draft)) (map (read_further t read) drafts)
each-read P t read [] all = tt
each-read P t read (d ∷ drafts) all =
    (cond_both (eqb (ticket d) t) _ _ (λ (x : TicketDraft). P (ticket x)) (λ same. all.0) (λ other. all.0), each-read P t read drafts all.1)

pub tickets-read : (t : ℕ) (read : Read) (drafts : List TicketDraft) → map ticket (map (read_further t read) drafts) ≡ map ticket drafts
tickets-read t read [] = refl
tickets-read t read (d ∷ drafts) =
    let same : ticket (read_further t read d) ≡ ticket d =
    cond_both (eqb (ticket d) t) _ _ (λ (x : TicketDraft). ticket x ≡ ticket d) (λ one. refl) (λ other. refl)
    in
    λ i. same i ∷ tickets-read t read drafts i

-- ---- rising tickets

above-push : (n : ℕ) (drafts : List TicketDraft) (draft : TicketDraft) → AllByRecursion (λ m. n < m) (map ticket drafts) → n < ticket draft → AllByRecursion (λ m. n < m) (map ticket (drafts ++ draft ∷ []))
above-push n [] draft all new = (new, tt)
above-push n (d ∷ drafts) draft all new = (all.0, above-push n drafts draft all.1 new)

pub rises-push : (drafts : List TicketDraft) (draft : TicketDraft) → Rises (map ticket drafts) → AllByRecursion (λ d. ticket d < ticket draft) drafts → Rises (map ticket (drafts ++ draft ∷ []))
rises-push [] draft rises below = (tt, tt)
rises-push (d ∷ drafts) draft rises below = (above-push (ticket d) drafts draft rises.0 below.0, rises-push drafts draft rises.1 below.1)

above-kept : (n : ℕ) (test : TicketDraft → Bool) (drafts : List TicketDraft) → AllByRecursion (λ m. n < m) (map ticket drafts) → AllByRecursion (λ m. n < m) (map ticket (filter test drafts))
above-kept n test [] all = tt
above-kept n test (d ∷ drafts) all =
    cond_both (test d) _ _ (λ (ds : List TicketDraft). AllByRecursion (λ m. n < m) (map ticket ds))
    (λ passes. (all.0, above-kept n test drafts all.1)) (λ fails. above-kept n test drafts all.1)

pub rises-kept : (test : TicketDraft → Bool) (drafts : List TicketDraft) → Rises (map ticket drafts) → Rises (map ticket (filter test drafts))
rises-kept test [] rises = tt
rises-kept test (d ∷ drafts) rises =
    cond_both (test d) _ _ (λ (ds : List TicketDraft). Rises (map ticket ds))
    (λ passes. (above-kept (ticket d) test drafts rises.0, rises-kept test drafts rises.1)) (λ fails. rises-kept test drafts rises.1)

-- ---- places of a journal

pub last-at : {X : Type 0} (xs : List X) (x : X) → slice_get (xs ++ x ∷ []) (length xs) ≡ Some x
last-at [] x = refl
last-at (y ∷ xs) x = last-at xs x

-- a ticket that isn't the one that is taken away
pub other-ticket : (a b : ℕ) → not (eqb a b) ≡ true → a ≡ b → ⊥
other-ticket a b other same = by (eqb a b) other (subst (λ c. eqb a c ≡ true) same (eq-self a))
  where
    eq-self : (n : ℕ) → eqb n n ≡ true
    eq-self n = grind arith

    by : (c : Bool) → not c ≡ true → c ≡ true → ⊥
    by true off on = (let e : false ≡ true = off in cc)
    by false off on = (let e : false ≡ true = on in cc)
