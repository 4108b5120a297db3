-- What a parse of the command line tells.
use Rattle.std.proofs.Common.{◌≡◌, ◌∙◌, true, false, List, [], Result, Ok, Err, refl, ap, subst, inl, inr}
use Rattle.std.specs.Prelude.{IfOk, IfErr, MatchResult, IsErrAnd}
use Rattle.std.specs.List.{All}
use Rattle.clap.specs.Words.{App, BuildsTo, BuildsOrBreaks, FailsBy, HasMatchesOf, IsParsed, Text, app_of, built, fault_of, found_of, has_subcommand, is_broken, is_buildable, is_simple, is_simple_and_free, kind_of, matches_of, rows_of}
use Rattle.clap.proofs.OnLiterals.{clap_on_literals}
use Rattle.clap.specs.declared.builder.command.Command.{Command}
use Rattle.clap.specs.declared.builder.command.Command.TheViews.{out-Command as fields_of}
use Rattle.clap.specs.declared.error.Error.{Error}
use Rattle.clap.specs.declared.error.kind.ErrorKind.TheVariants.{OutOfMemory}
use Rattle.clap.specs.declared.parser.matches.ArgMatches.{ArgMatches}
use Rattle.wk_words.specs.Answers.{KeepsRange}
use Rattle.wk_words.specs.Options.{numbers, wiki_app}
use Rattle.wk_words.proofs.FaultLengths.{IsShort, fault_of-short}
use Rattle.wk_words.proofs.Ranges.{built_rules_fit, keeps_ranges, no_globals, rules_fit}

wiki_app-free : is_simple_and_free wiki_app ≡ true
unfolding clap_on_literals
wiki_app-free = refl

wiki_app-simple : is_simple wiki_app ≡ true
unfolding clap_on_literals
wiki_app-simple = refl

wiki_app-buildable : is_buildable wiki_app ≡ true
unfolding clap_on_literals
wiki_app-buildable = refl

wiki_app-plain : wiki_app.top.is_plain ≡ true
wiki_app-plain = refl

built-plain : (built wiki_app).top.is_plain ≡ true
built-plain = refl

built-leaf : (built wiki_app).top.is_leaf ≡ true
built-leaf = refl

built-alone : (built wiki_app).subs ≡ []
built-alone = refl

-- at most one kind of error fits any words
pub fault-short : (words : List Text) → IsShort (fault_of wiki_app words)
fault-short words = fault_of-short wiki_app words built-alone built-leaf

-- a parse fails by the kind that is stated
pub fails : (a : App) (words : List Text) (r : Result ArgMatches Error) → a ≡ wiki_app → (is_simple_and_free a ≡ true → FailsBy (fault_of a words) r)
    → FailsBy (fault_of wiki_app words) r
fails a words r same h = subst (λ (b : App). FailsBy (fault_of b words) r) same (h (ap is_simple_and_free same ∙ wiki_app-free))

pub ok_of : {T E : Type 0} (r : Result T E) (P : T → Type 0) (Q : E → Type 0) → MatchResult r P Q → IfOk r P
ok_of (Ok x) P Q h = h
ok_of (Err e) P Q h = tt

pub err_of : {T E : Type 0} (r : Result T E) (P : T → Type 0) (Q : E → Type 0) → MatchResult r P Q → IfErr r Q
err_of (Ok x) P Q h = tt
err_of (Err e) P Q h = h

-- and what it finds are the stated matches
pub rows_are : (a : App) (words : List Text) (m : ArgMatches) → a ≡ wiki_app → HasMatchesOf a words m → rows_of (found_of m) ≡ matches_of wiki_app words
rows_are a words m same h = (h (ap is_simple same ∙ wiki_app-simple)).0 ∙ ap (λ (b : App). matches_of b words) same

-- in which each number is one of its range
pub ranges_hold : (old new : Command) (r : Result ArgMatches Error) (words : List Text) → app_of old ≡ wiki_app
    → IfOk r (λ m. (BuildsTo old new) × ((fields_of new).has_globals ≡ false → IsParsed new (found_of m) (has_subcommand m)) × HasMatchesOf (app_of old) words m)
    → BuildsOrBreaks old new → (is_broken new ≡ true → IsErrAnd r (λ e. kind_of e ≡ OutOfMemory))
    → IfOk r (λ m. All (KeepsRange (rows_of (found_of m))) numbers)
ranges_hold old new (Err e) words same ok after broken = tt
ranges_hold old new (Ok m) words same ok (inl gone) broken = absurd (broken gone)
ranges_hold old new (Ok m) words same ok (inr whole) broken =
    let plain = ap (λ (a : App). a.top.is_plain) same ∙ wiki_app-plain in
    let local : (fields_of new).has_globals ≡ false = ok.0.globals ∙ no_globals old plain in
    let parsed = ok.1 local in
    elim whole.2 [
      | inl stays ↦ keeps_ranges new wiki_app (found_of m) (has_subcommand m) (stays ∙ same) wiki_app-plain rules_fit parsed
      | inr makes ↦
          let shape : app_of new ≡ built wiki_app = makes (ap is_buildable same ∙ wiki_app-buildable) ∙ ap built same in
          keeps_ranges new (built wiki_app) (found_of m) (has_subcommand m) shape built-plain built_rules_fit parsed
    ]
