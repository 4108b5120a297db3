-- How the code's answers tell what words come to.
use Rattle.std.proofs.Common.{◌≡◌, ◌∙◌, List, [], ◌∷◌, Option, None, sym, ap, subst, inl, inr, arith}
use Rattle.clap.specs.Words.{HasKind, IsAmong, Kinds, Row, Text, fault_of, kind_of, matches_of}
use Rattle.clap.specs.declared.error.Error.{Error}
use Rattle.clap.specs.declared.error.kind.ErrorKind.{ErrorKind}
use Rattle.clap.specs.declared.error.kind.ErrorKind.TheVariants.{DisplayHelp, DisplayVersion, OutOfMemory}
use Rattle.wk_words.specs.Answers.{Shows, Tells}
use Rattle.wk_words.specs.Options.{wiki_app}
use Rattle.wk_words.specs.Verdicts.{Verdict, Wanted, refused, runs_or_refused, verdict, verdict_by, wanted_in}
use Rattle.wk_words.specs.declared.refusals.Refusal.{Refusal}
use Rattle.wk_words.specs.declared.refusals.Refusal.TheVariants.{Memory}
use Rattle.wk_words.proofs.FaultLengths.{IsShort}
use Rattle.wk_words.proofs.TakenLemmas.{fault-short}

memory_tells : (v : Verdict) (r : Refusal) → r ≡ Memory → Tells v r
memory_tells v r h = rw h tt

-- of one kind
one_tells : (x : ErrorKind) (w : Option Wanted) (r : Refusal) → Shows x r → Tells (verdict_by (x ∷ []) w) r
one_tells DisplayHelp w r h = h
one_tells DisplayVersion w r h = h
one_tells OutOfMemory w r h = memory_tells refused r h
one_tells _ w r h = h

kinds_tell : (ks : Kinds) (w : Option Wanted) (k : ErrorKind) (r : Refusal) → IsShort ks → IsAmong k ks → Shows k r → Tells (verdict_by ks w) r
kinds_tell [] w k r short among h = absurd among
kinds_tell (x ∷ []) w k r short among h = elim among [
  | inl same ↦ one_tells x w r (subst (λ (z : ErrorKind). Shows z r) same h)
  | inr none ↦ absurd none
]
kinds_tell (x ∷ y ∷ ks) w k r short among h = let long = short.at_most_one in absurd (omega arith)

-- an error that `clap` gives
pub error_tells : (words : List Text) (e : Error) (r : Refusal) → HasKind (fault_of wiki_app words) e → Shows (kind_of e) r → Tells (verdict words) r
unfolding verdict
error_tells words e r (inl gone) h = memory_tells _ r (subst (λ (z : ErrorKind). Shows z r) gone h)
error_tells words e r (inr among) h = kinds_tell (fault_of wiki_app words) (wanted_in (matches_of wiki_app words)) (kind_of e) r (fault-short words) among h

-- words that `clap` takes
pub verdict_is : (words : List Text) (rows : List Row) (w : Option Wanted) → fault_of wiki_app words ≡ [] → rows ≡ matches_of wiki_app words → wanted_in rows ≡ w
    → verdict words ≡ runs_or_refused w
unfolding verdict
verdict_is words rows w taken same wanted =
    ap (λ (ks : Kinds). verdict_by ks (wanted_in (matches_of wiki_app words))) taken
    ∙ ap runs_or_refused (ap wanted_in (sym same) ∙ wanted)

pub refusal_tells : (words : List Text) (rows : List Row) (r : Refusal) → fault_of wiki_app words ≡ [] → rows ≡ matches_of wiki_app words → wanted_in rows ≡ None
    → Tells refused r → Tells (verdict words) r
refusal_tells words rows r taken same none h = subst (λ (v : Verdict). Tells v r) (sym (verdict_is words rows None taken same none)) h
