-- What is read of a text among matches.
use Rattle.std.proofs.Common.{◌≡◌, ◌∙◌, ℕ, Option, Some, None, true, sym, refl, subst}
use Rattle.std.specs.Prelude.{unwrap_or, IfSome}
use Rattle.clap.specs.Words.{Text, first_of, first_value, found_of, rows_of}
use Rattle.clap.specs.ValueTests.{is_unsigned_in}
use Rattle.clap.proofs.WalkLemmas.{first_value-rows}
use Rattle.clap.specs.declared.parser.matches.ArgMatches.{ArgMatches}
use Rattle.wk_text_rules.specs.Decimal.{decimal_number}
use Rattle.wk_words.specs.Answers.{IsWithin, KeepsRange}
use Rattle.wk_words.specs.Options.{NumberOption}
use Rattle.wk_words.specs.Verdicts.{number_in, text_in}
use Rattle.wk_words.proofs.NumberLemmas.{in_range, no_number, number_is}

pub first_is : (m : ArgMatches) (id : Text) (o : Option Text) → o ≡ first_value (found_of m) id → first_of id (rows_of (found_of m)) ≡ o
first_is m id o h = sym (first_value-rows (found_of m) id) ∙ sym h

pub text_is : (m : ArgMatches) (id default : Text) (o : Option Text) → o ≡ first_value (found_of m) id
    → unwrap_or o default ≡ text_in id default (rows_of (found_of m))
text_is m id default o h = rw (first_is m id o h) refl

-- no number is given
pub default_is : (m : ArgMatches) (n : NumberOption) → None ≡ first_value (found_of m) n.name → number_in n (rows_of (found_of m)) ≡ Some n.default
default_is m n h = rw (first_is m n.name None h) refl

range_of : (m : ArgMatches) (n : NumberOption) (t : Text) → Some t ≡ first_value (found_of m) n.name → KeepsRange (rows_of (found_of m)) n
    → is_unsigned_in n.least n.most t ≡ true
range_of m n t h keeps = subst (λ (o : Option Text). IfSome o (λ t. is_unsigned_in n.least n.most t ≡ true)) (first_is m n.name (Some t) h) keeps

-- one is given, and read
pub given_is : (m : ArgMatches) (n : NumberOption) (t : Text) (x : ℕ) → Some t ≡ first_value (found_of m) n.name → Some x ≡ decimal_number t
    → number_in n (rows_of (found_of m)) ≡ Some x
given_is m n t x h read =
    let is = number_is t x (sym read) in
    rw (first_is m n.name (Some t) h, is.0, is.1) refl

pub given_within : (m : ArgMatches) (n : NumberOption) (t : Text) (x : ℕ) → Some t ≡ first_value (found_of m) n.name → Some x ≡ decimal_number t
    → KeepsRange (rows_of (found_of m)) n → IsWithin n x
given_within m n t x h read keeps =
    let is = number_is t x (sym read) in
    let within = in_range n.least n.most t is.0 (range_of m n t h keeps) in
    rw (sym is.1) (within.0, within.1)

-- one is given, and isn't read
pub none_given : (m : ArgMatches) (n : NumberOption) (t : Text) → Some t ≡ first_value (found_of m) n.name → None ≡ decimal_number t
    → KeepsRange (rows_of (found_of m)) n → number_in n (rows_of (found_of m)) ≡ None
none_given m n t h read keeps = rw (first_is m n.name (Some t) h, no_number n.least n.most t (sym read) (range_of m n t h keeps)) refl
