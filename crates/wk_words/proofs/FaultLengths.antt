-- A command without subcommands has at most one kind of error at any words.
use Rattle.std.proofs.Common.{◌≡◌, ◌+◌, ◌≤◌, arith, ◌&&◌, ◌||◌, ℕ, Bool, zero, suc, true, false, not, List, [], ◌∷◌, length, drop, Option, Some, None, is_some, sym, subst}
use Rattle.std.specs.Prelude.{if◌then◌else◌, encode_utf8, min}
use Rattle.std.specs.Str.{bytes_eq}
use Rattle.clap.specs.Values.{refused_kind}
use Rattle.clap.specs.ValueTests.{accepts}
use Rattle.clap.specs.declared.error.kind.ErrorKind.{ErrorKind}
use Rattle.clap.specs.declared.error.kind.ErrorKind.TheVariants.{ArgumentConflict, TooManyValues}
use Rattle.std.specs.Option.{option_map_or}
use Rattle.clap.specs.Matches.{count_text}
use Rattle.clap.specs.Facts.{parser_of_value, unwrap_or_range}
use Rattle.clap.specs.Lexer.{long_of, short_of}
use Rattle.clap.specs.Walk.{Held, Row, Rule, Step, Text, Waiting, Walk, action_of, arg_by_id, arg_by_index, arg_by_long, arg_by_short, attached_value, count_of, finished, has_row, idle, is_empty, is_pending, most_values, next, nothing_held, option, positional, reacted, settled, subcommand, takes_several, takes_values, trailing, value, values_or_missing, walk, walk_from, walked, with_default, word_met}
use Rattle.clap.specs.Simple.{App, Shape, argument_words, built}
use Rattle.clap.specs.Kinds.{Kinds, check_kinds, or_else, range_kinds, request_kinds, value_kinds, values_kinds}
use Rattle.clap.specs.Faults.{action_fault, bundle_step_fault, check_fault, count_fault, default_fault, defaults_fault, fault_of, flag_word_fault, flags_fault, level_fault, long_fault, option_fault, other_fault, positional_fault, react_fault, repeat_fault, settle_fault, short_fault, step_fault, stray_fault, turn_fault, use_fault, walk_fault, word_fault}
use Rattle.clap.proofs.FaultLemmas.{leaf_fault}
use Rattle.clap.specs.declared.builder.action.ArgAction.{ArgAction}
use Rattle.clap.specs.declared.builder.action.ArgAction.TheVariants.{Set, Append, SetTrue, SetFalse, Count, Help, HelpShort, HelpLong, Version}
use Rattle.clap.specs.declared.builder.value_parser.ValueParser.{ValueParser}

-- no kind, or one
pub record IsShort (ks : Kinds) : Type 0 where
  pub at_most_one : length ks ≤ 1

no_kind : IsShort []
no_kind = record { at_most_one = omega arith }

one_kind : (k : ErrorKind) → IsShort (k ∷ [])
one_kind k = record { at_most_one = omega arith }

or_else-short : (a b : Kinds) → IsShort a → IsShort b → IsShort (or_else a b)
or_else-short [] b first second = second
or_else-short (k ∷ ks) b first second = first

if-short : (b : Bool) (yes no : Kinds) → IsShort yes → IsShort no → IsShort (if b then yes else no)
if-short true a b first second = first
if-short false a b first second = second

option-short : {X : Type 0} (f : X → Kinds) (o : Option X) → ((x : X) → IsShort (f x)) → IsShort (option_map_or f o [])
option-short f None each = no_kind
option-short f (Some x) each = each x

value_kinds-short : (i : Bool) (p : ValueParser) (t : Text) → IsShort (value_kinds i p t)
value_kinds-short i p t = if-short (accepts i p t) [] (refused_kind p ∷ []) no_kind (one_kind (refused_kind p))

values_kinds-short : (i : Bool) (p : ValueParser) (ts : List Text) → IsShort (values_kinds i p ts)
values_kinds-short i p [] = no_kind
values_kinds-short i p (t ∷ ts) = or_else-short (value_kinds i p t) (values_kinds i p ts) (value_kinds-short i p t) (values_kinds-short i p ts)

range_kinds-short : (least most n : ℕ) → IsShort (range_kinds least most n)
range_kinds-short least most n = search (if-short, no_kind, one_kind)

request_kinds-short : (x : ArgAction) → IsShort (request_kinds x)
request_kinds-short Help = one_kind _
request_kinds-short HelpShort = one_kind _
request_kinds-short HelpLong = one_kind _
request_kinds-short Version = one_kind _
request_kinds-short Set = no_kind
request_kinds-short Append = no_kind
request_kinds-short SetTrue = no_kind
request_kinds-short SetFalse = no_kind
request_kinds-short Count = no_kind

count_fault-short : (a : Rule) (values : List Text) (rows : List Row) → IsShort (count_fault a values rows)
count_fault-short a [] rows = value_kinds-short a.ignore_case (parser_of_value a.parser) (count_text (min (count_of a.id rows + 1) 255))
count_fault-short a (v ∷ vs) rows = values_kinds-short a.ignore_case (parser_of_value a.parser) (v ∷ vs)

repeat_fault-short : (again : Bool) (id : Text) (rows : List Row) → IsShort (repeat_fault again id rows)
repeat_fault-short again id rows = if-short (has_row id rows && not again) (ArgumentConflict ∷ []) [] (one_kind _) no_kind

action_fault-short : (x : ArgAction) (again : Bool) (a : Rule) (values : List Text) (rows : List Row) → IsShort (action_fault x again a values rows)
action_fault-short Set again a values rows = or_else-short _ _ (repeat_fault-short again a.id rows) (values_kinds-short a.ignore_case (parser_of_value a.parser) values)
action_fault-short SetTrue again a values rows = or_else-short _ _ (repeat_fault-short again a.id rows) (values_kinds-short a.ignore_case (parser_of_value a.parser) values)
action_fault-short SetFalse again a values rows = or_else-short _ _ (repeat_fault-short again a.id rows) (values_kinds-short a.ignore_case (parser_of_value a.parser) values)
action_fault-short Append again a values rows = values_kinds-short a.ignore_case (parser_of_value a.parser) values
action_fault-short Count again a values rows = count_fault-short a values rows
action_fault-short Help again a values rows = one_kind _
action_fault-short HelpShort again a values rows = one_kind _
action_fault-short HelpLong again a values rows = one_kind _
action_fault-short Version again a values rows = one_kind _

use_fault-short : (again : Bool) (a : Rule) (values : List Text) (rows : List Row) → IsShort (use_fault again a values rows)
use_fault-short again a values rows =
    or_else-short _ _ (range_kinds-short (unwrap_or_range a.range).start_inclusive (most_values a) (length values)) (action_fault-short (action_of a) again a (values_or_missing a values) rows)

settle_fault-short : (c : List Rule) (again : Bool) (h : Held) → IsShort (settle_fault c again h)
settle_fault-short c again h =
    option-short _ h.pending (λ p. option-short _ (arg_by_id c p.0) (λ a. use_fault-short again a p.1 h.rows))

react_fault-short : (c : List Rule) (again : Bool) (a : Rule) (values : List Text) (h : Held) → IsShort (react_fault c again a values h)
react_fault-short c again a values h = or_else-short _ _ (settle_fault-short c again h) (use_fault-short again a values (settled c h).rows)

option_fault-short : (c : List Rule) (again : Bool) (a : Rule) (v : Option Text) (h : Held) → IsShort (option_fault c again a v h)
option_fault-short c again a (Some v) h = react_fault-short c again a (v ∷ []) h
option_fault-short c again a None h = settle_fault-short c again h

long_fault-short : (c : List Rule) (again : Bool) (o : Option Rule) (v : Option Text) (h : Held) → IsShort (long_fault c again o v h)
long_fault-short c again None v h = one_kind _
long_fault-short c again (Some a) v h =
    if-short (takes_values a) _ _ (option_fault-short c again a v h) (if-short (is_some v) (TooManyValues ∷ []) _ (one_kind _) (react_fault-short c again a [] h))

short_fault-short : (c : List Rule) (again : Bool) (o : Option Rule) (rest : Text) (h : Held) (later : Held → Kinds) → ((x : Held) → IsShort (later x))
    → IsShort (short_fault c again o rest h later)
short_fault-short c again None rest h later each = one_kind _
short_fault-short c again (Some a) rest h later each =
    if-short (takes_values a) _ _ (option_fault-short c again a (attached_value rest) h) (or_else-short _ _ (react_fault-short c again a [] h) (each (reacted c a [] h)))

bundle_step_fault-short : (c : List Rule) (again : Bool) (o : Option ℕ) (flags : Text) (skip : ℕ) (h : Held) (later : Text → ℕ → Held → Kinds)
    → ((t : Text) (n : ℕ) (x : Held) → IsShort (later t n x)) → IsShort (bundle_step_fault c again o flags skip h later)
bundle_step_fault-short c again None flags skip h later each = no_kind
bundle_step_fault-short c again (Some x) flags zero h later each =
    let rest : Text = drop (length (encode_utf8 x)) flags in
    short_fault-short c again (arg_by_short c x) rest h (later rest 0) (each rest 0)
bundle_step_fault-short c again (Some x) flags (suc skip) h later each = each (drop (length (encode_utf8 x)) flags) skip h

flags_fault-short : (c : List Rule) (again : Bool) (k : ℕ) (flags : Text) (skip : ℕ) (h : Held) → IsShort (flags_fault c again k flags skip h)
unfolding flags_fault
flags_fault-short c again zero flags skip h = no_kind
flags_fault-short c again (suc k) flags skip h = bundle_step_fault-short c again _ flags skip h (flags_fault c again k) (flags_fault-short c again k)

flag_word_fault-short : (c : List Rule) (again : Bool) (o : Option (Text × Option Text)) (word : Text) (h : Held) → IsShort (flag_word_fault c again o word h)
flag_word_fault-short c again (Some p) word h = long_fault-short c again (arg_by_long c p.0) p.1 h
flag_word_fault-short c again None word h =
    option-short _ (short_of word) (λ flags. flags_fault-short c again (length flags) flags h.skip (record h { skip = 0 }))

other_fault-short : (s : Shape) (word : Text) (h : Held) → IsShort (other_fault s None word h)
other_fault-short s word h = if-short (bytes_eq word (45 ∷ 45 ∷ [])) [] _ no_kind (flag_word_fault-short s.rules s.args_override_self (long_of word) word h)

word_fault-short : (s : Shape) (is_trailing : Bool) (waiting : Waiting) (word : Text) (h : Held) → IsShort (word_fault s [] is_trailing waiting word h)
word_fault-short s is_trailing idle word h = if-short is_trailing [] _ no_kind (other_fault-short s word h)
word_fault-short s is_trailing (option id) word h = if-short is_trailing [] _ no_kind (other_fault-short s word h)
word_fault-short s is_trailing positional word h = if-short is_trailing [] _ no_kind (other_fault-short s word h)

stray_fault-short : (s : Shape) → s.is_leaf ≡ true → IsShort (stray_fault s)
stray_fault-short s leaf = rw leaf (one_kind _)

positional_fault-short : (c : List Rule) (again : Bool) (a : Rule) (h : Held) → IsShort (positional_fault c again a h)
positional_fault-short c again a h = if-short (is_pending a h.pending && takes_several a) [] _ no_kind (settle_fault-short c again h)

map_or-short : {X : Type 0} (f : X → Kinds) (o : Option X) (none : Kinds) → ((x : X) → IsShort (f x)) → IsShort none → IsShort (option_map_or f o none)
map_or-short f None none each otherwise = otherwise
map_or-short f (Some x) none each otherwise = each x

step_fault-short : (s : Shape) (position : ℕ) (h : Held) (step : Step) → s.is_leaf ≡ true → IsShort (step_fault s position h step)
step_fault-short s position h (next waiting) leaf = no_kind
step_fault-short s position h (trailing p) leaf = no_kind
step_fault-short s position h (subcommand name) leaf = no_kind
step_fault-short s position h value leaf =
    map_or-short _ (arg_by_index s.rules position) _ (λ a. positional_fault-short s.rules s.args_override_self a h) (stray_fault-short s leaf)

turn_fault-short : (s : Shape) (w : Walk) (word : Text) → s.is_leaf ≡ true → IsShort (turn_fault s [] w word)
turn_fault-short s w word leaf =
    let met = word_met s.rules [] w.is_trailing w.waiting w.position word w.held in
    if-short (is_some w.stopped) [] _ no_kind (or_else-short _ _ (word_fault-short s w.is_trailing w.waiting word w.held) (step_fault-short s w.position met.0 met.1 leaf))

walk_fault-short : (s : Shape) (w : Walk) (words : List Text) → s.is_leaf ≡ true → IsShort (walk_fault s [] w words)
unfolding walk_fault
walk_fault-short s w [] leaf = no_kind
walk_fault-short s w (word ∷ rest) leaf =
    or_else-short _ _ (turn_fault-short s w word leaf) (walk_fault-short s (walked s.rules [] w word) rest leaf)

default_fault-short : (rows : List Row) (a : Rule) → IsShort (default_fault rows a)
default_fault-short rows a = if-short (has_row a.id rows || is_empty a.defaults) [] _ no_kind (or_else-short _ _ (request_kinds-short (action_of a)) (values_kinds-short a.ignore_case (parser_of_value a.parser) a.defaults))

defaults_fault-short : (rows : List Row) (rules : List Rule) → IsShort (defaults_fault rows rules)
unfolding defaults_fault
defaults_fault-short rows [] = no_kind
defaults_fault-short rows (a ∷ rest) = or_else-short _ _ (default_fault-short rows a) (defaults_fault-short (with_default rows a) rest)

check_fault-short : (s : Shape) (rows : List Row) (b : Bool) → IsShort (check_fault s rows b)
check_fault-short s rows b = checks _ _ _
  where
    checks : (help sub arg : Bool) → IsShort (check_kinds help sub arg)
    checks true sub arg = one_kind _
    checks false true arg = one_kind _
    checks false false true = one_kind _
    checks false false false = no_kind

level_fault-short : (s : Shape) (h : Held) (words : List Text) → s.is_leaf ≡ true → IsShort (level_fault s [] h words false [])
level_fault-short s h words leaf =
    or_else-short _ _ (walk_fault-short s (walk_from h) words leaf)
    (or_else-short _ _ (settle_fault-short s.rules s.args_override_self (walk s.rules [] h words).held)
    (or_else-short _ _ (defaults_fault-short (settled s.rules (walk s.rules [] h words).held).rows s.rules)
    (check_fault-short s (finished s.rules (walk s.rules [] h words).held) false)))

-- of a command that has no subcommand once it is built
pub fault_of-short : (a : App) (words : List Text) → (built a).subs ≡ [] → (built a).top.is_leaf ≡ true → IsShort (fault_of a words)
fault_of-short a words none leaf =
    subst IsShort (sym (leaf_fault (built a) nothing_held (argument_words a words) none))
    (level_fault-short (built a).top nothing_held (argument_words a words) leaf)
