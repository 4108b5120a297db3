-- How a command ends that has written its text.
use Rattle.std.proofs.Common.{◌≡◌, ◌≢◌, ◌==◌, ℕ, Bool, true, false, eqb, List, [], ◌∷◌, length, Option, refl, sym, ap, ◌∙◌, subst, arith}
use Rattle.std.proofs.KnownBytes.{Keeps-refl}
use Rattle.std.proofs.lemmas.Bool.{false≢true, ne_eqb}
use Rattle.wk_wiki_rules.specs.States.{State}
use Rattle.wk_tool_rules.specs.Checks.{differing}
use Rattle.wk_commands.specs.Checked.{IsCompared}
use Rattle.wk_commands.specs.Written.{HasWritten, end_of_comparison}
use Rattle.wk_commands.specs.declared.ends.CommandEnd.{CommandEnd}
use Rattle.wk_commands.specs.declared.ends.CommandEnd.TheVariants.{Done, Differs, DoorFault, Full, StoreFault, WriteFault, Memory}

-- ---- the end of a text that is written

-- this end, or a write that failed
abbrev pub IsAt : CommandEnd → CommandEnd → Type 0
IsAt whole end = end ≢ WriteFault → end ≡ whole

pub not-full : (end : CommandEnd) (same : Bool) → IsAt (end_of_comparison same) end → end ≢ Full
not-full Full true is = λ _. let e : Full ≡ Done = is (λ w. cc) in cc
not-full Full false is = λ _. let e : Full ≡ Differs = is (λ w. cc) in cc
not-full Done same is = λ e. cc
not-full Differs same is = λ e. cc
not-full StoreFault same is = λ e. cc
not-full WriteFault same is = λ e. cc
not-full Memory same is = λ e. cc
not-full DoorFault same is = λ e. cc

pub no-fault : (end : CommandEnd) (same : Bool) → IsAt (end_of_comparison same) end → end ≢ StoreFault
no-fault StoreFault true is = λ _. let e : StoreFault ≡ Done = is (λ w. cc) in cc
no-fault StoreFault false is = λ _. let e : StoreFault ≡ Differs = is (λ w. cc) in cc
no-fault Done same is = λ e. cc
no-fault Differs same is = λ e. cc
no-fault Full same is = λ e. cc
no-fault WriteFault same is = λ e. cc
no-fault Memory same is = λ e. cc
no-fault DoorFault same is = λ e. cc

pub no-door : (end : CommandEnd) (same : Bool) → IsAt (end_of_comparison same) end → end ≢ DoorFault
no-door DoorFault true is = λ _. let e : DoorFault ≡ Done = is (λ w. cc) in cc
no-door DoorFault false is = λ _. let e : DoorFault ≡ Differs = is (λ w. cc) in cc
no-door Done same is = λ e. cc
no-door Differs same is = λ e. cc
no-door Full same is = λ e. cc
no-door StoreFault same is = λ e. cc
no-door WriteFault same is = λ e. cc
no-door Memory same is = λ e. cc

pub same-at : (end : CommandEnd) (same : Bool) → IsAt (end_of_comparison same) end → end ≡ Done → same ≡ true
same-at end true is done = refl
same-at end false is done =
    let differs : end ≡ Differs = is (λ w. let e : Done ≡ WriteFault = sym done ∙ w in cc) in
    let e : Done ≡ Differs = sym done ∙ differs in absurd cc

pub differs-at : (end : CommandEnd) (same : Bool) → IsAt (end_of_comparison same) end → end ≡ Differs → same ≡ false
differs-at end false is differs = refl
differs-at end true is differs =
    let done : end ≡ Done = is (λ w. let e : Differs ≡ WriteFault = sym differs ∙ w in cc) in
    let e : Differs ≡ Done = sym differs ∙ done in absurd cc

-- ---- a comparison

none-of : {A : Type 0} (xs : List A) → (length xs == 0) ≡ true → xs ≡ []
none-of [] is = refl
none-of (x ∷ xs) is =
    let some : eqb (length (x ∷ xs)) 0 ≡ false = ne_eqb (length (x ∷ xs)) 0 (λ e. omega (arith, e)) in
    absurd (false≢true (sym some ∙ is))

some-of : {A : Type 0} (xs : List A) → (length xs == 0) ≡ false → xs ≢ []
some-of [] is = λ _. let e : true ≡ false = is in cc
some-of (x ∷ xs) is = λ none. let e : length (x ∷ xs) ≡ 0 = ap length none in omega (arith, e)

pub compared : (state : State) (text told : List ℕ) (before after : Option (List ℕ)) (end : CommandEnd) (same : Bool) → text ≡ told → same ≡ (length (differing state) == 0)
    → HasWritten end text before after → IsAt (end_of_comparison same) end → IsCompared state told before after end
compared state text told before after end same is_told is_same written is = record {
  written = subst (λ t. HasWritten end t before after) is_told written;
  same = λ done. none-of (differing state) (sym is_same ∙ same-at end same is done);
  differs = λ differs. some-of (differing state) (sym is_same ∙ differs-at end same is differs);
  not_full = not-full end same is;
  no_fault = no-fault end same is;
  no_door = no-door end same is;
}

-- want of memory, before anything is written
pub uncompared : (state : State) (text : List ℕ) (before : Option (List ℕ)) → IsCompared state text before before Memory
uncompared state text before = record {
  written = Keeps-refl before;
  same = λ (e : Memory ≡ Done). absurd cc;
  differs = λ (e : Memory ≡ Differs). absurd cc;
  not_full = λ e. cc;
  no_fault = λ e. cc;
  no_door = λ e. cc;
}
