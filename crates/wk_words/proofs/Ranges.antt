-- What a parse that succeeds finds for an option with a range is a number of that range.
use Rattle.std.proofs.Common.{◌≡◌, ◌<◌, ◌&&◌, ◌==◌, ◌∙◌, ℕ, Bool, true, false, not, List, [], ◌∷◌, length, map, Option, Some, None, refl, sym, ap, subst, inl, inr, arith, nat_lt}
use Rattle.std.specs.Prelude.{if◌then◌else◌, option_map, option_and_then, slice_get, IfSome}
use Rattle.std.specs.List.{All, list_all, slice_index_or}
use Rattle.std.specs.Str.{bytes_eq}
use Rattle.std.specs.Borrow.{Bor}
use Rattle.std.proofs.lemmas.Bool.{eqb-true, ltb-true}
use Rattle.std.proofs.lemmas.Slice.Eq.{bytes_eq-Decides}
use Rattle.std.proofs.lemmas.List.Elements.{All-head}
use Rattle.std.proofs.lemmas.List.Sums.{AllPass-from_list_all}
use Rattle.clap.specs.Walk.{Rule, Text, is_empty, rows_of, rule_of}
use Rattle.clap.specs.Simple.{App, app_of, built, has_plain_fields}
use Rattle.clap.specs.Values.{Accepts}
use Rattle.clap.specs.ValueTests.{is_unsigned_in}
use Rattle.clap.specs.Matches.{matched_of}
use Rattle.clap.specs.Facts.{Entry, EntryPasses, IsParsed, PassesArg, ValuesPass, args_of, groups_of, parser_of_value}
use Rattle.clap.specs.declared.builder.command.Command.TheViews.{out-Command as fields_of}
use Rattle.clap.proofs.CallerLemmas.{entry_by_id}
use Rattle.clap.proofs.OnLiterals.{clap_on_literals}
use Rattle.clap.proofs.TakesLemmas.{each_rule}
use Rattle.clap.proofs.ValueTestLemmas.{Accepts-accepts}
use Rattle.clap.proofs.WalkLemmas.{both, first_value-rows}
use Rattle.clap.specs.declared.builder.arg.Arg.{Arg}
use Rattle.clap.specs.declared.builder.command.Command.{Command}
use Rattle.clap.specs.declared.builder.value_parser.ValueParser.{ValueParser}
use Rattle.clap.specs.declared.builder.value_parser.ValueParser.TheVariants.{Unsigned}
use Rattle.clap.specs.declared.parser.matches.Found.{Found}
use Rattle.clap.specs.declared.parser.matches.MatchedArg.{MatchedArg}
use Rattle.wk_words.specs.Answers.{KeepsRange}
use Rattle.wk_words.specs.Options.{NumberOption, numbers, rules, wiki_app}

-- the parser takes just the numbers of the range
abbrev is_range : ℕ → ℕ → Option ValueParser → Bool
is_range least most (Some (Unsigned low high)) = (low == least) && (high == most)
is_range least most _ = false

is_range-is : (least most : ℕ) (o : Option ValueParser) → is_range least most o ≡ true → o ≡ Some (Unsigned least most)
is_range-is least most None h = cc
is_range-is least most (Some (Unsigned low high)) h =
    let ends = both _ _ h in
    let low_is : low ≡ least = eqb-true _ _ ends.0 in
    let high_is : high ≡ most = eqb-true _ _ ends.1 in
    rw (low_is, high_is) refl
is_range-is least most (Some _) h = cc

-- an argument with the option's name has its range
abbrev fits : NumberOption → Rule → Bool
fits n r = if bytes_eq r.id n.name then is_range n.least n.most r.parser else true

abbrev pub is_kept : List Rule → NumberOption → Bool
is_kept rules n = nat_lt 0 (length n.name) && list_all (fits n) rules

-- before building, and after it
pub rules_fit : list_all (is_kept wiki_app.top.rules) numbers ≡ true
unfolding clap_on_literals
rules_fit = refl

pub built_rules_fit : list_all (is_kept (built wiki_app).top.rules) numbers ≡ true
unfolding clap_on_literals
built_rules_fit = refl

not-true : (b : Bool) → not b ≡ true → b ≡ false
not-true true h = cc
not-true false h = refl

empty_is : {X : Type 0} (xs : List X) → is_empty xs ≡ true → xs ≡ []
empty_is [] h = refl
empty_is (x ∷ xs) h = let none : length (x ∷ xs) ≡ 0 = eqb-true _ _ h in absurd (omega arith)

-- of a command with plain settings
pub no_globals : (c : Command) → has_plain_fields (fields_of c) ≡ true → (fields_of c).has_globals ≡ false
no_globals c plain = not-true _ (both _ _ (both _ _ (both _ _ plain).1).1).0

no_groups : (c : Command) → has_plain_fields (fields_of c) ≡ true → groups_of c ≡ []
no_groups c plain = empty_is _ (both _ _ plain).0

-- a value that an argument with the option's name takes
passes_range : (c : Command) (n : NumberOption) (id t : Text) → id ≡ n.name → list_all (fits n) (map rule_of (args_of c)) ≡ true → PassesArg c id t
    → is_unsigned_in n.least n.most t ≡ true
passes_range c n id t key checked p =
    let all = each_rule (fits n) (args_of c) checked in
    let here : fits n (rule_of p.1) ≡ true = subst (λ (a : Arg). fits n (rule_of a) ≡ true) p.3 (all p.0 p.1 p.2) in
    let same : bytes_eq p.1.id.now n.name ≡ true = subst (λ (w : Text). bytes_eq p.1.id.now w ≡ true) key p.4.0 in
    let parser : p.1.value_parser ≡ Some (Unsigned n.least n.most) = is_range-is n.least n.most p.1.value_parser (rw same at here) in
    Accepts-accepts p.1.ignore_case (Unsigned n.least n.most) t
    (subst (λ (o : Option ValueParser). Accepts p.1.ignore_case (parser_of_value o) t) parser p.4.1)

first_passes : (c : Command) (n : NumberOption) (id : Text) (vs : List (Bor Text)) → id ≡ n.name → list_all (fits n) (map rule_of (args_of c)) ≡ true
    → All (λ v. PassesArg c id v.now) vs → IfSome (option_map (λ s. s.now) (slice_get vs 0)) (λ t. is_unsigned_in n.least n.most t ≡ true)
first_passes c n id [] key checked h = tt
first_passes c n id (v ∷ vs) key checked h = passes_range c n id v.now key checked (All-head (λ (w : Bor Text). PassesArg c id w.now) v vs h)

-- the values of the option's entry
entry_values : (c : Command) (n : NumberOption) (e : Entry) → groups_of c ≡ [] → 0 < length n.name → e.0.now ≡ n.name → EntryPasses c e
    → All (λ v. PassesArg c e.0.now v.now) e.1.vals.items
entry_values c n e none named key passes = elim passes.0 [ inl g ↦ absurd (no_group g) | inr vals ↦ vals ]
  where
    no_group : e.1.is_group ≡ true → ⊥
    no_group g = elim (passes.3 g) [
      | inl empty ↦
          let bad : length n.name ≡ 0 = ap length (sym key ∙ empty) in
          absurd (omega arith)
      | inr lots ↦
          let bad : 0 < 0 = rw none at lots in
          absurd (omega arith)
    ]

first_of_entry : (c : Command) (n : NumberOption) (e : Entry) (x : MatchedArg) → list_all (fits n) (map rule_of (args_of c)) ≡ true → e.1 ≡ x → e.0.now ≡ n.name
    → All (λ v. PassesArg c e.0.now v.now) e.1.vals.items
    → IfSome (option_map (λ s. s.now) (slice_get x.vals.items 0)) (λ t. is_unsigned_in n.least n.most t ≡ true)
first_of_entry c n e x checked same key all =
    first_passes c n e.0.now x.vals.items key checked (subst (λ (y : MatchedArg). All (λ v. PassesArg c e.0.now v.now) y.vals.items) same all)

-- what is found for the option
entry_passes : (c : Command) (f : Found) (n : NumberOption) → groups_of c ≡ [] → 0 < length n.name → list_all (fits n) (map rule_of (args_of c)) ≡ true
    → ValuesPass c f → (o : Option MatchedArg) → matched_of f n.name ≡ o
    → IfSome (option_and_then (λ (a : MatchedArg). option_map (λ s. s.now) (slice_get a.vals.items 0)) o) (λ t. is_unsigned_in n.least n.most t ≡ true)
entry_passes c f n none named checked values None e = tt
entry_passes c f n none named checked values (Some x) e =
    let got = entry_by_id (EntryPasses c) f.entries.items n.name x values e in
    let key : got.0.0.now ≡ n.name = (bytes_eq-Decides got.0.0.now n.name).0 got.2 in
    first_of_entry c n got.0 x checked got.1 key (entry_values c n got.0 none named key got.3)

-- and so for each option
pub keeps_ranges : (c : Command) (a : App) (f : Found) (s : Bool) → app_of c ≡ a → a.top.is_plain ≡ true → list_all (is_kept a.top.rules) numbers ≡ true
    → IsParsed c f s → All (KeepsRange (rows_of f)) numbers
keeps_ranges c a f s same plain kept parsed = λ k d lt.
    let own_plain : has_plain_fields (fields_of c) ≡ true = ap (λ (b : App). b.top.is_plain) same ∙ plain in
    let own_kept : list_all (is_kept (map rule_of (args_of c))) numbers ≡ true = ap (λ (b : App). list_all (is_kept b.top.rules) numbers) same ∙ kept in
    let n : NumberOption = slice_index_or numbers k d in
    let one : is_kept (map rule_of (args_of c)) n ≡ true = AllPass-from_list_all (is_kept (map rule_of (args_of c))) numbers own_kept k d lt in
    subst (λ (o : Option Text). IfSome o (λ t. is_unsigned_in n.least n.most t ≡ true)) (first_value-rows f n.name)
    (entry_passes c f n (no_groups c own_plain) (ltb-true _ _ (both _ _ one).0) (both _ _ one).1 parsed.values (matched_of f n.name) refl)
