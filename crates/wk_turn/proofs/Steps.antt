-- Each step keeps the rule of the table.
use Rattle.std.proofs.Common.{◌≡◌, ◌≢◌, ℕ, suc, ◌+◌, ◌-◌, ◌%◌, ◌^◌, ◌<◌, ◌≤◌, eqb, ltb, cond, Bool, true, false, List, [], ◌∷◌, ◌++◌, length, get_or, set, max, Option, Some, None, refl, ap, sym, ◌∙◌, subst, arith, ◌⊎◌, inl, inr, ⊎_elim, length-set, length-append, eq-eqb, ne_eqb}
use Rattle.std.specs.List.{sum_by}
use Rattle.std.proofs.lemmas.Bool.Decides.{nat_tests}
use mathlib.Core.List.{IsPrefix}
use mathlib.Core.Logic.{dite}
use mathlib.Core.Option.{some, none, some-injective, some-ne-none}
use mathlib.Core.Option as maybe
use native.Mathlib.Decide.{ℕ_discrete, dec_le}
use lib.ListN.{get_elem?}
use lib.Seq.{set-get_or}
use prog.Atomic.{either}
use Rattle.atomic_table.specs.Table.{State, Me, step, keeps, takes, gives, stepped, put_back, opening, Allows, Splits, Joins, Final, Seen}
use Rattle.atomic_table.proofs.Lists.{at_set, set_else, set_again, at_snoc, one_turn}
use Rattle.wk_turn.specs.declared.board.View.{View}
use Rattle.wk_turn.specs.declared.board.Stage.{Stage}
use Rattle.wk_turn.specs.declared.board.Stage.TheVariants.{Idle, Waits, Holds, Marked, Ended}
use Rattle.wk_turn.specs.Journal.{times, IsListed, added, longer, ClosesOwn, AreOwn}
use Rattle.wk_turn.specs.Line.{in_line, busy, away, AtStage, Knows, Kept, newcomer, spent, joined, called, counted, drew, looked, Finds, marked, handed_on, ended, told, staged}
use Rattle.wk_turn.proofs.Lists.{prefix_nil, prefix_self, prefix_trans, prefix_shorter, prefix_length, sum_set, two_le_sum, some_term, sum_le_length, sum_push, times-append, times-range_out}
use Rattle.wk_turn.proofs.Owning.{own_none, own_before, own_after, own_more, own_both}

-- the owner of the number q becomes x
put : (ℕ → ℕ) → ℕ → ℕ → ℕ → ℕ
put f q x n = cond (eqb n q) x (f n)

put_here : (f : ℕ → ℕ) (q x : ℕ) → put f q x q ≡ x
unfolding put
put_here f q x = ap (λ b. cond b x (f q)) (eq-eqb q q refl)

put_else : (f : ℕ → ℕ) (q x n : ℕ) → n ≢ q → put f q x n ≡ f n
unfolding put
put_else f q x n other = ap (λ b. cond b x (f n)) (ne_eqb n q other)

next_word : (t : ℕ) → (t % 2 ^ 64 + 1) % 2 ^ 64 ≡ (t + 1) % 2 ^ 64
next_word t = omega arith

module _ {E : Type 0} where
  abbrev number_or : ℕ → Stage E → ℕ
  number_or d (Waits n) = n
  number_or d (Holds n at) = n
  number_or d (Marked n) = n
  number_or d _ = d

  abbrev found_or : List E → Stage E → List E
  found_or d (Holds n at) = at
  found_or d _ = d

  in_line_le : (st : Stage E) → in_line st ≤ 1
  in_line_le Idle = omega arith
  in_line_le (Waits n) = omega arith
  in_line_le (Holds n at) = omega arith
  in_line_le (Marked n) = omega arith
  in_line_le (Ended n) = omega arith

  module _ {S : Type 0} (serving ticket : ℕ) (log : List E) (home : maybe.Option (Option S)) (owner : ℕ → ℕ) where
    -- who has taken the slot has the number that is served
    busy_owner : (j : ℕ) (seen : List E) (st : Stage E) → 0 < busy st → AtStage serving ticket log home owner j seen st → owner serving ≡ j
    busy_owner j seen Idle b k = absurd (omega arith)
    busy_owner j seen (Waits n) b k = absurd (omega arith)
    busy_owner j seen (Holds n at) b k = ap owner (sym k.0) ∙ k.2
    busy_owner j seen (Marked n) b k = ap owner (sym k.0) ∙ k.2
    busy_owner j seen (Ended n) b k = ap owner (sym k.0) ∙ k.2

    -- what the others know of the line stays so while one seat has the number that is served, and once it is handed on
    alone : (log' : List E) (home' : maybe.Option (Option S)) (serving' : ℕ) → serving' ≤ serving + 1 → (me j : ℕ) → j ≢ me → owner serving ≡ me → (seen : List E) (st : Stage E)
        → AtStage serving ticket log home owner j seen st → AtStage serving' ticket log' home' owner j seen st
    alone log' home' serving' near me j other mine seen Idle k = tt
    alone log' home' serving' near me j other mine seen (Waits n) k =
        let low = k.0 in let n' : n ≢ serving = λ e. other (sym k.2 ∙ (ap owner e ∙ mine)) in (omega arith, k.1, k.2)
    alone log' home' serving' near me j other mine seen (Holds n at) k = absurd (other (sym k.2 ∙ (ap owner k.0 ∙ mine)))
    alone log' home' serving' near me j other mine seen (Marked n) k = absurd (other (sym k.2 ∙ (ap owner k.0 ∙ mine)))
    alone log' home' serving' near me j other mine seen (Ended n) k = absurd (other (sym k.2 ∙ (ap owner k.0 ∙ mine)))

    -- the same where one more number is drawn
    longer_line : (me : ℕ) (j : ℕ) (seen : List E) (st : Stage E) → AtStage serving ticket log home owner j seen st → AtStage serving (ticket + 1) log home (put owner ticket me) j seen st
    longer_line me j seen Idle k = tt
    longer_line me j seen (Waits n) k = let high = k.1 in (k.0, omega arith, put_else owner ticket me n (λ e. omega arith) ∙ k.2)
    longer_line me j seen (Holds n at) k = let high = k.1 in (k.0, omega arith, put_else owner ticket me n (λ e. omega arith) ∙ k.2, k.3, k.4)
    longer_line me j seen (Marked n) k = let high = k.1 in (k.0, omega arith, put_else owner ticket me n (λ e. omega arith) ∙ k.2, k.3, k.4)
    longer_line me j seen (Ended n) k = let high = k.1 in (k.0, omega arith, put_else owner ticket me n (λ e. omega arith) ∙ k.2, k.3)

module _ {S : Type 0} where
  abbrev some_or : S → Option S → S
  some_or d (Some x) = x
  some_or d None = d

  abbrev home_or : S → maybe.Option (Option S) → S
  home_or d (some x) = some_or d x
  home_or d none = d

  abbrev taken_or : S → List (ℕ × Option S) → S
  taken_or d (x ∷ xs) = some_or d x.1
  taken_or d [] = d

at_home : {S : Type 0} (home : maybe.Option (Option S)) → away home ≡ 0 → (x : S) × (home ≡ some (Some x))
at_home none e = absurd (omega arith)
at_home (some None) e = absurd (omega arith)
at_home (some (Some x)) e = (x, refl)

module _ {E : Type 0} where
  longer_length : (one two : List E) → (length one ≤ length (longer one two)) × (length two ≤ length (longer one two))
  longer_length one two = longer_by (ltb (length one) (length two)) refl
    where
      longer_by : (b : Bool) → ltb (length one) (length two) ≡ b → (length one ≤ length (cond b two one)) × (length two ≤ length (cond b two one))
      longer_by true e = (grind (arith, nat_tests), omega arith)
      longer_by false e = (omega arith, grind (arith, nat_tests))

  longer_first : (one two seen log : List E) → IsPrefix one log → IsPrefix seen log → seen ≡ longer one two → IsPrefix one seen
  longer_first one two seen log a b e = let l = longer_length one two in let f : length seen ≡ length (longer one two) = ap length e in prefix_shorter one seen log a b (let l0 = l.0 in omega arith)

  longer_second : (one two seen log : List E) → IsPrefix two log → IsPrefix seen log → seen ≡ longer one two → IsPrefix two seen
  longer_second one two seen log a b e = let l = longer_length one two in let f : length seen ≡ length (longer one two) = ap length e in prefix_shorter two seen log a b (let l1 = l.1 in omega arith)

  longer_is : (P : List E → Type 0) (one two : List E) → P one → P two → P (longer one two)
  longer_is P one two a b = longer_by (ltb (length one) (length two))
    where
      longer_by : (c : Bool) → P (cond c two one)
      longer_by true = b
      longer_by false = a

module _ {A E S : Type 0} (start_of : S → A) (journal_of : S → List E) (closes : E → Option ℕ) (start : A) where
  abbrev D : Type 0
  D = View A E

  abbrev Home : Type 0
  Home = maybe.Option (Option S)

  abbrev St : Type 0
  St = State (Option S) D

  abbrev M : Type 0
  M = Me (Option S) D

  abbrev Rule : St → Type 0
  Rule = Kept start_of journal_of closes start

  abbrev K : ℕ → ℕ → List E → Home → (ℕ → ℕ) → ℕ → D → Type 0
  K = Knows start_of journal_of closes start

  views_stay : (P : ℕ → D → Type 0) (vs : List D) (me : ℕ) (w : D) → P me w → ((j : ℕ) (d : D) → j ≢ me → get_elem? vs j ≡ some d → P j d)
      → (j : ℕ) (d : D) → get_elem? (set vs me w) j ≡ some d → P j d
  views_stay P vs me w mine others j d e = ⊎_elim (λ (t : (j ≡ me) × (w ≡ d)). subst (λ (x : ℕ × D). P x.0 x.1) (λ i. (sym t.0 i, t.1 i)) mine)
      (λ (t : (j ≢ me) × (get_elem? vs j ≡ some d)). others j d t.0 t.1) (at_set vs me j w d e)

  -- what a view knows, once the journal and the line went on
  goes_on : (serving ticket : ℕ) (log : List E) (home : Home) (owner : ℕ → ℕ) (j : ℕ) (v : D) → K serving ticket log home owner j v
      → (serving' ticket' : ℕ) (log' : List E) (home' : Home) (owner' : ℕ → ℕ) → IsPrefix log log' → ((own : List ℕ) → AreOwn closes log own → ((p : ℕ) → IsListed own p → IsListed v.own p) → AreOwn closes log' own) → AtStage serving' ticket' log' home' owner' j v.seen v.stage
      → K serving' ticket' log' home' owner' j v
  goes_on serving ticket log home owner j v k serving' ticket' log' home' owner' pre own stage = record {
    start_is = k.start_is;
    seen = prefix_trans v.seen log log' k.seen pre;
    one = prefix_trans v.one log log' k.one pre;
    two = prefix_trans v.two log log' k.two pre;
    own = own v.own k.own (λ p l. l);
    own_one = own v.own_one k.own_one k.one_in;
    own_two = own v.own_two k.own_two k.two_in;
    one_in = k.one_in;
    two_in = k.two_in;
    within = k.within;
    stage = stage;
  }

  -- what a seat knows at another stage
  restaged : (serving ticket : ℕ) (log : List E) (home : Home) (owner : ℕ → ℕ) (j : ℕ) (v : D) → K serving ticket log home owner j v
      → (serving' ticket' : ℕ) (home' : Home) (owner' : ℕ → ℕ) (st : Stage E) → AtStage serving' ticket' log home' owner' j v.seen st → K serving' ticket' log home' owner' j (record v { stage = st })
  restaged serving ticket log home owner j v k serving' ticket' home' owner' st stage = record {
    start_is = k.start_is;
    seen = k.seen;
    one = k.one;
    two = k.two;
    own = k.own;
    own_one = k.own_one;
    own_two = k.own_two;
    one_in = k.one_in;
    two_in = k.two_in;
    within = k.within;
    stage = stage;
  }

  -- a step that changes nothing
  unmoved : (s : St) → Rule s → (i id : ℕ) (v : D) (cs : List (ℕ × Option S)) → get_elem? s.views id ≡ some v → Rule (stepped s i (get_or s.words i 0) id cs v keeps)
  unmoved s r i id v cs at = subst (λ (z : List ℕ × List D). Rule record { words = z.0; homes = s.homes; views = z.1 }) (λ k. (sym (set-get_or s.words i 0) k, sym (set_again s.views id v at) k)) r

  at_words : (s : St) (r : Rule s) (i : ℕ) → get_or s.words i 0 ≡ get_or (r.seats ∷ (r.ticket % 2 ^ 64) ∷ (r.serving % 2 ^ 64) ∷ (length r.log) ∷ r.calls) i 0
  at_words s r i = ap (λ ws. get_or ws i 0) r.words

  -- the numbers in line are few enough to differ in the words
  line_is_short : (s : St) (r : Rule s) → r.ticket < r.serving + 2 ^ 64
  line_is_short s r = let a = sum_le_length (λ (v : D). in_line v.stage) s.views (λ v. in_line_le v.stage) in let b = r.line in let c = r.room in let d = r.few in omega arith

  -- where who waits has the number that is served, the state is at home
  served_at_home : (s : St) (r : Rule s) (id n : ℕ) (v : D) → get_elem? s.views id ≡ some v → v.stage ≡ Waits n → n ≡ r.serving → (x : S) × (r.home ≡ some (Some x))
  served_at_home s r id n v at is turn = at_home r.home (sym r.turn ∙ none_busy)
    where
      mine : AtStage r.serving r.ticket r.log r.home r.owner id v.seen (Waits n)
      mine = subst (AtStage r.serving r.ticket r.log r.home r.owner id v.seen) is (r.each id v at).stage

      none_busy : sum_by (λ (u : D). busy u.stage) s.views ≡ 0
      none_busy = dite (ℕ_discrete (sum_by (λ (u : D). busy u.stage) s.views) 0) (λ e. e) (λ more.
          let t = some_term (λ (u : D). busy u.stage) s.views (omega arith) in
          let theirs = busy_owner r.serving r.ticket r.log r.home r.owner t.0 t.1.seen t.1.stage t.3 (r.each t.0 t.1 t.2).stage in
          let same : t.0 ≡ id = sym theirs ∙ (ap r.owner (sym turn) ∙ mine.2) in
          let this : t.1 ≡ v = some-injective t.1 v (sym t.2 ∙ (ap (get_elem? s.views) same ∙ at)) in
          let idle : busy t.1.stage ≡ 0 = ap (λ (u : D). busy u.stage) this ∙ ap busy is in
          let pos = t.3 in absurd (omega arith))

  -- the table as the turn begins
  pub opens : (state : S) (point : ℕ) (calls : List ℕ) (first : S) → point ≡ length (journal_of first) → first ≡ state → start_of first ≡ start
      → Rule (opening (1 ∷ 0 ∷ 0 ∷ point ∷ calls) (Some state ∷ []) (newcomer (Some (start_of first)) (journal_of first)))
  opens state point calls first len same begun = record {
    seats = 1;
    ticket = 0;
    serving = 0;
    log = journal_of first;
    home = some (Some state);
    owner = λ _. 0;
    calls = calls;
    words = ap (λ n. 1 ∷ 0 ∷ 0 ∷ n ∷ calls) len;
    homes = refl;
    room = refl;
    few = omega arith;
    line = refl;
    turn = refl;
    value = λ x e. let is : x ≡ first = cc in (ap start_of is ∙ begun, ap journal_of is);
    apart = λ p. omega arith;
    each = λ j d e. only j d e;
  }
    where
      only : (j : ℕ) (d : D) → get_elem? (newcomer (Some (start_of first)) (journal_of first) ∷ []) j ≡ some d → K 0 0 (journal_of first) (some (Some state)) (λ _. 0) j d
      only Rattle.std.proofs.Common.zero d e = subst (K 0 0 (journal_of first) (some (Some state)) (λ _. 0) 0) (some-injective _ d e) record {
        start_is = λ a is. let b : a ≡ start_of first = cc in b ∙ begun;
        seen = prefix_self (journal_of first);
        one = prefix_nil (journal_of first);
        two = prefix_nil (journal_of first);
        own = own_none closes (journal_of first);
        own_one = own_none closes (journal_of first);
        own_two = own_none closes (journal_of first);
        one_in = λ p l. l;
        two_in = λ p l. l;
        within = λ p l. absurd (omega arith);
        stage = tt;
      }
      only (suc j) d e = absurd (some-ne-none d (sym e))

  abbrev past_four : ℕ → ℕ
  past_four k = suc (suc (suc (suc k)))

  -- a word that callers sleep on changes
  calls_at : (slots id k : ℕ) (me : M) → Allows Rule slots id me (past_four k) (λ x. (x + 1) % 2 ^ 64) (called (step slots (past_four k) 1 0 none) me)
  calls_at slots id k me s r _ at _ = (
    me.0,
    keeps,
    tt,
    record {
      seats = r.seats;
      ticket = r.ticket;
      serving = r.serving;
      log = r.log;
      home = r.home;
      owner = r.owner;
      calls = set r.calls k ((get_or s.words (past_four k) 0 + 1) % 2 ^ 64);
      words = ap (λ ws. set ws (past_four k) ((get_or s.words (past_four k) 0 + 1) % 2 ^ 64)) r.words;
      homes = r.homes;
      room = subst (λ (vs : List D). length vs + sum_by (λ (u : D). u.seats) vs ≡ r.seats) (sym same) r.room;
      few = r.few;
      line = subst (λ (vs : List D). r.serving + sum_by (λ (u : D). in_line u.stage) vs ≡ r.ticket) (sym same) r.line;
      turn = subst (λ (vs : List D). sum_by (λ (u : D). busy u.stage) vs ≡ away r.home) (sym same) r.turn;
      value = r.value;
      apart = λ p. subst (λ (vs : List D). sum_by (λ (u : D). times p u.own) vs ≤ 1) (sym same) (r.apart p);
      each = subst (λ (vs : List D). (j : ℕ) (d : D) → get_elem? vs j ≡ some d → K r.serving r.ticket r.log r.home r.owner j d) (sym same) r.each;
    },
    refl,
  )
    where
      same : set s.views id me.0 ≡ s.views
      same = set_again s.views id me.0 at

  pub calls : (slots id i k : ℕ) (me : M) → i ≡ 4 + k → Allows Rule slots id me i (λ x. (x + 1) % 2 ^ 64) (called (step slots i 1 0 none) me)
  calls slots id i k me past =
      let at : past_four k ≡ i = omega arith in
      subst (λ (n : ℕ). Allows Rule slots id me n (λ x. (x + 1) % 2 ^ 64) (called (step slots n 1 0 none) me)) at (calls_at slots id k me)

  -- a number is drawn
  pub draws : (slots id : ℕ) (me : M) → me.0.stage ≡ Idle → Allows Rule slots id me 1 (λ x. (x + 1) % 2 ^ 64) (drew (step slots 1 1 0 none) me)
  draws slots id me idle s r _ at _ =
      let v : D = me.0 in let w : D = record v { stage = Waits r.ticket } in let k = r.each id v at in let t : ℕ = r.ticket in let line = r.line in
      let was : in_line v.stage ≡ 0 = ap in_line idle in let lazy : busy v.stage ≡ 0 = ap busy idle in
      let in_all = sum_set (λ (u : D). in_line u.stage) s.views id v w at in let busy_all = sum_set (λ (u : D). busy u.stage) s.views id v w at in
      let seats_all = sum_set (λ (u : D). u.seats) s.views id v w at in (
        w,
        keeps,
        tt,
        record {
          seats = r.seats;
          ticket = t + 1;
          serving = r.serving;
          log = r.log;
          home = r.home;
          owner = put r.owner t id;
          calls = r.calls;
          words = ap (λ ws. set ws 1 ((get_or ws 1 0 + 1) % 2 ^ 64)) r.words ∙ ap (λ n. r.seats ∷ n ∷ (r.serving % 2 ^ 64) ∷ (length r.log) ∷ r.calls) (next_word t);
          homes = r.homes;
          room = let room = r.room in let len = length-set s.views id w in omega arith;
          few = r.few;
          line = omega arith;
          turn = let turn = r.turn in omega arith;
          value = r.value;
          apart = λ p. let a = r.apart p in let b = sum_set (λ (u : D). times p u.own) s.views id v w at in omega arith;
          each = views_stay (K r.serving (t + 1) r.log r.home (put r.owner t id)) s.views id w
              (restaged r.serving t r.log r.home r.owner id v k r.serving (t + 1) r.home (put r.owner t id) (Waits t) (omega arith, omega arith, put_here r.owner t id))
              (λ j d _ there. let o = r.each j d there in goes_on r.serving t r.log r.home r.owner j d o r.serving (t + 1) r.log r.home (put r.owner t id) (prefix_self r.log) (λ _ own _. own)
              (longer_line r.serving t r.log r.home r.owner id j d.seen d.stage o.stage));
        },
        (t, at_words s r 1, refl),
      )

  -- the number that is served is looked at, and the slot taken by whom it is
  pub looks : (slots id : ℕ) (me : M) (n : ℕ) → me.0.stage ≡ Waits n → Allows Rule slots id me 2 (λ x. x) (looked start_of journal_of closes (step slots 2 0 0 none) me)
  looks slots id me n is s r _ at _ = dite (ℕ_discrete (get_or s.words 2 0) (n % 2 ^ 64)) hit (λ miss.
      (v, keeps, tt, unmoved s r 2 id v me.1 at, λ n' is'. ((λ e. absurd (miss (e ∙ ap (λ (z : ℕ). z % 2 ^ 64) (sym (same n' is'))))), λ _. refl)))
    where
      v : D
      v = me.0

      same : (n' : ℕ) → v.stage ≡ Waits n' → n ≡ n'
      same n' is' = ap (number_or 0) (sym is ∙ is')

      hit : get_or s.words 2 0 ≡ n % 2 ^ 64
          → (w : D) × (a : Rattle.atomic_table.specs.Table.Act (Option S)) × Rattle.atomic_table.specs.Table.Valid s.homes me.1 a × Rule (stepped s 2 (get_or s.words 2 0) id me.1 w a)
          × looked start_of journal_of closes (step slots 2 0 0 none) me (get_or s.words 2 0) (w, Rattle.atomic_table.specs.Table.carried_after me.1 a)
      hit found =
          let k = r.each id v at in
          let mine : AtStage r.serving r.ticket r.log r.home r.owner id v.seen (Waits n) = subst (AtStage r.serving r.ticket r.log r.home r.owner id v.seen) is k.stage in
          let high = mine.1 in let short = line_is_short s r in
          let turn : n ≡ r.serving = sym (one_turn r.serving n (2 ^ 64) mine.0 (omega arith) (sym (at_words s r 2) ∙ found)) in
          let home = served_at_home s r id n v at is turn in
          let x : S = home.0 in
          let w : D = record v { stage = Holds n (journal_of x) } in
          let kept = r.value x home.1 in
          let was : in_line v.stage ≡ 1 = ap in_line is in let lazy : busy v.stage ≡ 0 = ap busy is in
          let in_all = sum_set (λ (u : D). in_line u.stage) s.views id v w at in let busy_all = sum_set (λ (u : D). busy u.stage) s.views id v w at in
          let seats_all = sum_set (λ (u : D). u.seats) s.views id v w at in (
            w,
            takes 0 (Some x),
            ap (λ hs. get_elem? hs 0) r.homes ∙ ap some home.1,
            record {
              seats = r.seats;
              ticket = r.ticket;
              serving = r.serving;
              log = r.log;
              home = none;
              owner = r.owner;
              calls = r.calls;
              words = set-get_or s.words 2 0 ∙ r.words;
              homes = ap (λ hs. set hs 0 none) r.homes;
              room = let room = r.room in let len = length-set s.views id w in omega arith;
              few = r.few;
              line = let line = r.line in omega arith;
              turn = let turn = r.turn in let free : away r.home ≡ 0 = ap away home.1 in omega arith;
              value = λ y e. absurd (some-ne-none (Some y) (sym e));
              apart = λ p. let a = r.apart p in let b = sum_set (λ (u : D). times p u.own) s.views id v w at in omega arith;
              each = views_stay (K r.serving r.ticket r.log none r.owner) s.views id w
                  (restaged r.serving r.ticket r.log r.home r.owner id v k r.serving r.ticket none r.owner (Holds n (journal_of x)) (turn, mine.1, mine.2, refl, kept.1))
                  (λ j d other there. let o = r.each j d there in goes_on r.serving r.ticket r.log r.home r.owner j d o r.serving r.ticket r.log none r.owner (prefix_self r.log) (λ _ own _. own)
                  (alone r.serving r.ticket r.log r.home r.owner r.log none r.serving (omega arith) id j other (ap r.owner (sym turn) ∙ mine.2) d.seen d.stage o.stage));
            },
            λ n' is'. subst (λ (z : ℕ). (get_or s.words 2 0 ≡ z % 2 ^ 64 → (y : S) × ((w, (0, Some x) ∷ me.1) ≡ staged me (Holds z (journal_of y)) ((0, Some y) ∷ me.1)) × Finds start_of journal_of closes v y) × (get_or s.words 2 0 ≢ z % 2 ^ 64 → (w, (0, Some x) ∷ me.1) ≡ me)) (same n' is') (
              (λ _. (
                x,
                refl,
                record {
                  start_is = λ a e. k.start_is a e ∙ sym kept.0;
                  seen = subst (IsPrefix v.seen) (sym kept.1) k.seen;
                  own = subst (λ (l : List E). AreOwn closes l v.own) (sym kept.1) k.own;
                },
              )),
              λ miss. absurd {A = ◌≡◌ {A = M} (w, (0, Some x) ∷ me.1) me} (miss found),
            ),
          )

  -- the length of the journal is marked, with the state in the slot that is out
  pub marks : (slots id : ℕ) (me : M) (n : ℕ) (at : List E) (y : S) (len : ℕ) → me.0.stage ≡ Holds n at → me.1 ≡ (0, Some y) ∷ [] → IsPrefix at (journal_of y) → ClosesOwn closes at (journal_of y) me.0.own → len ≡ length (journal_of y)
      → Allows Rule slots id me 3 (λ x. max x len) (marked start_of journal_of closes (step slots 3 len 0 none) me)
  marks slots id me n at y len is carried begins asked count s r _ here _ =
      let v : D = me.0 in let log : List E = r.log in let log' : List E = journal_of y in let k = r.each id v here in
      let mine : AtStage r.serving r.ticket log r.home r.owner id v.seen (Holds n at) = subst (AtStage r.serving r.ticket log r.home r.owner id v.seen) is k.stage in
      let pre : IsPrefix log log' = subst (λ (l : List E). IsPrefix l log') mine.4 begins in
      let asked' : ClosesOwn closes log log' v.own = subst (λ (l : List E). ClosesOwn closes l log' v.own) mine.4 asked in
      let own' : AreOwn closes log' (v.own ++ added log log') = own_more closes log log' v.own k.own pre asked' in
      let own : AreOwn closes log' (v.own ++ added at log') = subst (λ (l : List E). AreOwn closes log' (v.own ++ added l log')) (sym mine.4) own' in
      let w : D = record v { seen = log'; own = v.own ++ added at log'; own_one = []; own_two = []; stage = Marked n } in
      let le = prefix_length log log' pre in
      let was : in_line v.stage ≡ 1 = ap in_line is in let held : busy v.stage ≡ 1 = ap busy is in
      let in_all = sum_set (λ (u : D). in_line u.stage) s.views id v w here in let busy_all = sum_set (λ (u : D). busy u.stage) s.views id v w here in
      let seats_all = sum_set (λ (u : D). u.seats) s.views id v w here in
      let served : r.owner r.serving ≡ id = ap r.owner (sym mine.0) ∙ mine.2 in (
        w,
        keeps,
        tt,
        record {
          seats = r.seats;
          ticket = r.ticket;
          serving = r.serving;
          log = log';
          home = r.home;
          owner = r.owner;
          calls = r.calls;
          words = ap (λ ws. set ws 3 (max (get_or ws 3 0) len)) r.words ∙ ap (λ z. r.seats ∷ (r.ticket % 2 ^ 64) ∷ (r.serving % 2 ^ 64) ∷ z ∷ r.calls) (let high : max (length log) len ≡ length log' = omega arith in high);
          homes = r.homes;
          room = let room = r.room in let size = length-set s.views id w in omega arith;
          few = r.few;
          line = let line = r.line in omega arith;
          turn = let turn = r.turn in omega arith;
          value = λ x e. absurd (some-ne-none (Some x) (sym e ∙ mine.3));
          apart = λ p. dite (dec_le (length log) p)
              (λ beyond. let none_yet = beyond_log s r p beyond in let b = sum_set (λ (u : D). times p u.own) s.views id v w here in let t = own.single p in omega arith)
              (λ before. let a = r.apart p in let b = sum_set (λ (u : D). times p u.own) s.views id v w here in let t = times-append p v.own (added at log') in let size : length at ≡ length log = ap length mine.4 in
              let o = times-range_out p (length at) (length log' - length at) (inl (omega arith)) in omega arith);
          each = views_stay (K r.serving r.ticket log' r.home r.owner) s.views id w
              record {
                start_is = k.start_is;
                seen = prefix_self log';
                one = prefix_trans v.one log log' k.one pre;
                two = prefix_trans v.two log log' k.two pre;
                own = own;
                own_one = own_none closes log';
                own_two = own_none closes log';
                one_in = λ p l. absurd (omega arith);
                two_in = λ p l. absurd (omega arith);
                within = own.there;
                stage = (mine.0, mine.1, mine.2, mine.3, refl);
              }
              (λ j d other there. let o = r.each j d there in goes_on r.serving r.ticket log r.home r.owner j d o r.serving r.ticket log' r.home r.owner pre
              (λ places theirs within. own_after closes log log' places theirs pre (λ q p beyond c l. ⊎_elim
              (λ (mine_too : IsListed v.own p). let too = within p l in let both = two_le_sum (λ (u : D). times p u.own) s.views id j v d other here there in let a = r.apart p in omega arith)
              (λ (new : length log ≤ p). let old = theirs.there p l in omega arith) (asked' q p beyond c).0))
              (alone r.serving r.ticket log r.home r.owner log' r.home r.serving (omega arith) id j other served d.seen d.stage o.stage));
        },
        λ n' at' y' is' carried'.
            let z : n ≡ n' = ap (number_or 0) (sym is ∙ is') in let f : at ≡ at' = ap (found_or []) (sym is ∙ is') in let g : y ≡ y' = ap (taken_or y) (sym carried ∙ carried') in
            subst (λ (u : ℕ × List E × S). (◌≡◌ {A = M} (w, me.1) (record v { seen = journal_of u.2; own = v.own ++ added u.1 (journal_of u.2); own_one = []; own_two = []; stage = Marked u.0 }, me.1)) × IsPrefix v.seen (journal_of u.2) × AreOwn closes (journal_of u.2) (v.own ++ added u.1 (journal_of u.2)))
            (λ i. (z i, f i, g i)) (refl, prefix_trans v.seen log log' k.seen pre, own),
      )
    where
      beyond_log : (s : St) (r : Rule s) (p : ℕ) → length r.log ≤ p → sum_by (λ (u : D). times p u.own) s.views ≡ 0
      beyond_log s r p beyond = dite (ℕ_discrete (sum_by (λ (u : D). times p u.own) s.views) 0) (λ e. e) (λ more.
          let t = some_term (λ (u : D). times p u.own) s.views (omega arith) in let low = (r.each t.0 t.1 t.2).own.there p t.3 in absurd (omega arith))

  -- the slot comes back, and the next number is served
  pub hands_on : (slots id : ℕ) (me : M) (n : ℕ) (y : S) → me.0.stage ≡ Marked n → me.1 ≡ (0, Some y) ∷ [] → me.0.start ≡ Some (start_of y) → me.0.seen ≡ journal_of y
      → Allows Rule slots id me 2 (λ x. (x + 1) % 2 ^ 64) (handed_on (step slots 2 1 0 none) me)
  hands_on slots id me n y is carried begun saw s r _ at _ =
      let v : D = me.0 in let k = r.each id v at in
      let mine : AtStage r.serving r.ticket r.log r.home r.owner id v.seen (Marked n) = subst (AtStage r.serving r.ticket r.log r.home r.owner id v.seen) is k.stage in
      let w : D = record v { stage = Idle } in let back : Home = some (Some y) in
      let was : in_line v.stage ≡ 1 = ap in_line is in let held : busy v.stage ≡ 1 = ap busy is in
      let in_all = sum_set (λ (u : D). in_line u.stage) s.views id v w at in let busy_all = sum_set (λ (u : D). busy u.stage) s.views id v w at in
      let seats_all = sum_set (λ (u : D). u.seats) s.views id v w at in
      let served : r.owner r.serving ≡ id = ap r.owner (sym mine.0) ∙ mine.2 in (
        w,
        gives,
        tt,
        record {
          seats = r.seats;
          ticket = r.ticket;
          serving = r.serving + 1;
          log = r.log;
          home = back;
          owner = r.owner;
          calls = r.calls;
          words = ap (λ ws. set ws 2 ((get_or ws 2 0 + 1) % 2 ^ 64)) r.words ∙ ap (λ z. r.seats ∷ (r.ticket % 2 ^ 64) ∷ z ∷ (length r.log) ∷ r.calls) (next_word r.serving);
          homes = ap (put_back s.homes) carried ∙ ap (λ hs. set hs 0 back) r.homes;
          room = let room = r.room in let size = length-set s.views id w in omega arith;
          few = r.few;
          line = let line = r.line in omega arith;
          turn = let turn = r.turn in let out : away r.home ≡ 1 = ap away mine.3 in omega arith;
          value = λ x e. let same : y ≡ x = ap (home_or y) e in (ap start_of (sym same) ∙ k.start_is _ begun, ap journal_of (sym same) ∙ (sym saw ∙ mine.4));
          apart = λ p. let a = r.apart p in let b = sum_set (λ (u : D). times p u.own) s.views id v w at in omega arith;
          each = views_stay (K (r.serving + 1) r.ticket r.log back r.owner) s.views id w
              (restaged r.serving r.ticket r.log r.home r.owner id v k (r.serving + 1) r.ticket back r.owner Idle tt)
              (λ j d other there. let o = r.each j d there in goes_on r.serving r.ticket r.log r.home r.owner j d o (r.serving + 1) r.ticket r.log back r.owner (prefix_self r.log) (λ _ own _. own)
              (alone r.serving r.ticket r.log r.home r.owner r.log back (r.serving + 1) (omega arith) id j other served d.seen d.stage o.stage));
        },
        ap (λ cs. (w, Rattle.atomic_table.specs.Table.rest cs)) carried,
      )

  -- the slot comes back empty
  pub ends : (slots id : ℕ) (me : M) (n : ℕ) (at : List E) → me.0.stage ≡ Holds n at → me.1 ≡ (0, None) ∷ [] → Allows Rule slots id me 0 (λ x. x) (ended (step slots 0 0 0 none) me)
  ends slots id me n at is carried s r _ here _ =
      let v : D = me.0 in let k = r.each id v here in
      let mine : AtStage r.serving r.ticket r.log r.home r.owner id v.seen (Holds n at) = subst (AtStage r.serving r.ticket r.log r.home r.owner id v.seen) is k.stage in
      let w : D = record v { stage = Ended n } in let back : Home = some None in
      let was : in_line v.stage ≡ 1 = ap in_line is in let held : busy v.stage ≡ 1 = ap busy is in
      let in_all = sum_set (λ (u : D). in_line u.stage) s.views id v w here in let busy_all = sum_set (λ (u : D). busy u.stage) s.views id v w here in
      let seats_all = sum_set (λ (u : D). u.seats) s.views id v w here in
      let served : r.owner r.serving ≡ id = ap r.owner (sym mine.0) ∙ mine.2 in (
        w,
        gives,
        tt,
        record {
          seats = r.seats;
          ticket = r.ticket;
          serving = r.serving;
          log = r.log;
          home = back;
          owner = r.owner;
          calls = r.calls;
          words = set-get_or s.words 0 0 ∙ r.words;
          homes = ap (put_back s.homes) carried ∙ ap (λ hs. set hs 0 back) r.homes;
          room = let room = r.room in let size = length-set s.views id w in omega arith;
          few = r.few;
          line = let line = r.line in omega arith;
          turn = let turn = r.turn in let out : away r.home ≡ 1 = ap away mine.3 in omega arith;
          value = λ x e. let off : 1 ≡ 0 = ap away e in absurd (omega arith);
          apart = λ p. let a = r.apart p in let b = sum_set (λ (u : D). times p u.own) s.views id v w here in omega arith;
          each = views_stay (K r.serving r.ticket r.log back r.owner) s.views id w
              (restaged r.serving r.ticket r.log r.home r.owner id v k r.serving r.ticket back r.owner (Ended n) (mine.0, mine.1, mine.2, refl))
              (λ j d other there. let o = r.each j d there in goes_on r.serving r.ticket r.log r.home r.owner j d o r.serving r.ticket r.log back r.owner (prefix_self r.log) (λ _ own _. own)
              (alone r.serving r.ticket r.log r.home r.owner r.log back r.serving (omega arith) id j other served d.seen d.stage o.stage));
        },
        (n, ap (λ cs. (w, Rattle.atomic_table.specs.Table.rest cs)) carried),
      )

  -- once a seat has given the slot back empty, it is empty at the end
  pub empties : (id n : ℕ) (v : D) (words : List ℕ) (slots : List (Option S)) → v.stage ≡ Ended n → Final (Seen Rule id v) words slots → get_elem? slots 0 ≡ some None
  empties id n v words slots is last =
      let s = last.0 in let r = last.1.0 in let k = r.each id v last.1.1 in
      let mine : AtStage r.serving r.ticket r.log r.home r.owner id v.seen (Ended n) = subst (AtStage r.serving r.ticket r.log r.home r.owner id v.seen) is k.stage in
      last.4 0 None (ap (λ hs. get_elem? hs 0) r.homes ∙ ap some mine.3)

  -- what was joined is told
  pub tells : (slots id : ℕ) (me : M) → Allows Rule slots id me 0 (λ x. x) (told start_of journal_of closes (step slots 0 0 0 none) me)
  tells slots id me s r _ at _ = let v : D = me.0 in let k = r.each id v at in (
    v,
    keeps,
    tt,
    unmoved s r 0 id v me.1 at,
    λ e _. (
      refl,
      first k e,
      second k e,
      own_before closes v.seen r.log v.own_one k.own_one k.seen (λ p l. k.within p (k.one_in p l)),
      own_before closes v.seen r.log v.own_two k.own_two k.seen (λ p l. k.within p (k.two_in p l)),
      own_before closes v.seen r.log v.own k.own k.seen k.within,
    ),
  )
    where
      first : {serving ticket : ℕ} {log : List E} {home : Home} {owner : ℕ → ℕ} → K serving ticket log home owner id me.0 → me.0.seen ≡ longer me.0.one me.0.two → IsPrefix me.0.one me.0.seen
      first {serving} {ticket} {log} k e = longer_first me.0.one me.0.two me.0.seen log k.one k.seen e

      second : {serving ticket : ℕ} {log : List E} {home : Home} {owner : ℕ → ℕ} → K serving ticket log home owner id me.0 → me.0.seen ≡ longer me.0.one me.0.two → IsPrefix me.0.two me.0.seen
      second {serving} {ticket} {log} k e = longer_second me.0.one me.0.two me.0.seen log k.two k.seen e

  -- one more seat is counted
  pub counts : (slots id : ℕ) (me : M) (old new : ℕ) → me.0.seats ≡ 0 → new ≡ old + 1 → new < 2 ^ 64 → Allows Rule slots id me 0 (λ x. either (eqb x old) new x) (counted (step slots 0 old new none) me)
  counts slots id me old new bare up small s r _ at _ = dite (ℕ_discrete x old)
      (λ hit. (
        w,
        keeps,
        tt,
        record {
          seats = new;
          ticket = r.ticket;
          serving = r.serving;
          log = r.log;
          home = r.home;
          owner = r.owner;
          calls = r.calls;
          words = ap (λ b. set s.words 0 (either b new x)) (eq-eqb x old hit) ∙ ap (λ ws. set ws 0 new) r.words;
          homes = r.homes;
          room = let room = r.room in let len = length-set s.views id w in let now = at_words s r 0 in let all = seats_all in omega arith;
          few = small;
          line = let line = r.line in let all = in_all in omega arith;
          turn = let turn = r.turn in let all = busy_all in omega arith;
          apart = λ p. let a = r.apart p in let b = sum_set (λ (u : D). times p u.own) s.views id v w at in omega arith;
          value = r.value;
          each = views_stay (K r.serving r.ticket r.log r.home r.owner) s.views id w
              record { start_is = k.start_is; seen = k.seen; one = k.one; two = k.two; own = k.own; own_one = k.own_one; own_two = k.own_two; one_in = k.one_in; two_in = k.two_in; within = k.within; stage = k.stage }
              (λ j d _ there. r.each j d there);
        },
        ((λ _. refl), λ miss. absurd (miss hit)),
      ))
      (λ miss. (v, keeps, tt, subst (λ b. Rule (stepped s 0 (either b new x) id me.1 v keeps)) (sym (ne_eqb x old miss)) (unmoved s r 0 id v me.1 at), ((λ hit. absurd (miss hit)), λ _. refl)))
    where
      v : D
      v = me.0

      w : D
      w = record v { seats = 1 }

      x : ℕ
      x = get_or s.words 0 0

      k : K r.serving r.ticket r.log r.home r.owner id v
      k = r.each id v at

      in_all : sum_by (λ (u : D). in_line u.stage) (set s.views id w) + in_line v.stage ≡ sum_by (λ (u : D). in_line u.stage) s.views + in_line v.stage
      in_all = sum_set (λ (u : D). in_line u.stage) s.views id v w at

      busy_all : sum_by (λ (u : D). busy u.stage) (set s.views id w) + busy v.stage ≡ sum_by (λ (u : D). busy u.stage) s.views + busy v.stage
      busy_all = sum_set (λ (u : D). busy u.stage) s.views id v w at

      seats_all : sum_by (λ (u : D). u.seats) (set s.views id w) + v.seats ≡ sum_by (λ (u : D). u.seats) s.views + 1
      seats_all = sum_set (λ (u : D). u.seats) s.views id v w at

  -- the seat that was counted is made
  pub splits : (id : ℕ) (v : D) → v.seats ≡ 1 → Splits Rule id v (record v { seats = 0 }) (newcomer v.start v.seen)
  splits id v counted_one s r at =
      let w : D = record v { seats = 0 } in let new : D = newcomer v.start v.seen in let k = r.each id v at in let vs : List D = set s.views id w in
      let in_all = sum_set (λ (u : D). in_line u.stage) s.views id v w at in let busy_all = sum_set (λ (u : D). busy u.stage) s.views id v w at in
      let seats_all = sum_set (λ (u : D). u.seats) s.views id v w at in
      let in_more = sum_push (λ (u : D). in_line u.stage) vs new in let busy_more = sum_push (λ (u : D). busy u.stage) vs new in let seats_more = sum_push (λ (u : D). u.seats) vs new in record {
        seats = r.seats;
        ticket = r.ticket;
        serving = r.serving;
        log = r.log;
        home = r.home;
        owner = r.owner;
        calls = r.calls;
        words = r.words;
        homes = r.homes;
        room = let room = r.room in let size = length-set s.views id w in let more = length-append vs (new ∷ []) in omega arith;
        few = r.few;
        line = let line = r.line in omega arith;
        turn = let turn = r.turn in omega arith;
        value = r.value;
        apart = λ p. let a = r.apart p in let b = sum_set (λ (u : D). times p u.own) s.views id v w at in let c = sum_push (λ (u : D). times p u.own) vs new in omega arith;
        each = λ j d e. ⊎_elim
            (views_stay (K r.serving r.ticket r.log r.home r.owner) s.views id w
            record { start_is = k.start_is; seen = k.seen; one = k.one; two = k.two; own = k.own; own_one = k.own_one; own_two = k.own_two; one_in = k.one_in; two_in = k.two_in; within = k.within; stage = k.stage }
            (λ i u _ there. r.each i u there) j d)
            (λ (t : new ≡ d). subst (K r.serving r.ticket r.log r.home r.owner j) t
            record { start_is = k.start_is; seen = k.seen; one = prefix_nil r.log; two = prefix_nil r.log; own = own_none closes r.log; own_one = own_none closes r.log; own_two = own_none closes r.log; one_in = λ p l. l; two_in = λ p l. l; within = λ p l. absurd (omega arith); stage = tt })
            (at_snoc vs new d j e);
      }

  -- a seat takes in another
  pub joins : (id : ℕ) (v : D) (other : ℕ) (w : D) → v.stage ≡ Idle → w.stage ≡ Idle → w.seats ≡ 0 → Joins Rule id v other w (joined v w) spent
  joins id v other w still idle bare s r at distinct there' =
      let both : D = joined v w in let gone : D = spent in let vs : List D = set s.views id both in let P = K r.serving r.ticket r.log r.home r.owner in
      let there : get_elem? s.views other ≡ some w = sym (set_else s.views id other both distinct) ∙ there' in
      let k = r.each id v at in let l = r.each other w there in
      let in_one = sum_set (λ (u : D). in_line u.stage) s.views id v both at in let in_two = sum_set (λ (u : D). in_line u.stage) vs other w gone there' in let was : in_line w.stage ≡ 0 = ap in_line idle in
      let busy_one = sum_set (λ (u : D). busy u.stage) s.views id v both at in let busy_two = sum_set (λ (u : D). busy u.stage) vs other w gone there' in let lazy : busy w.stage ≡ 0 = ap busy idle in
      let seats_one = sum_set (λ (u : D). u.seats) s.views id v both at in let seats_two = sum_set (λ (u : D). u.seats) vs other w gone there' in record {
        seats = r.seats;
        ticket = r.ticket;
        serving = r.serving;
        log = r.log;
        home = r.home;
        owner = r.owner;
        calls = r.calls;
        words = r.words;
        homes = r.homes;
        room = let room = r.room in let size = length-set s.views id both in let same = length-set vs other gone in omega arith;
        few = r.few;
        line = let line = r.line in omega arith;
        turn = let turn = r.turn in omega arith;
        value = r.value;
        apart = λ p. let a = r.apart p in let b = sum_set (λ (u : D). times p u.own) s.views id v both at in let c = sum_set (λ (u : D). times p u.own) vs other w gone there' in
            let d = times-append p v.own w.own in omega arith;
        each = views_stay P vs other gone
            record { start_is = λ a e. absurd cc; seen = prefix_nil r.log; one = prefix_nil r.log; two = prefix_nil r.log; own = own_none closes r.log; own_one = own_none closes r.log; own_two = own_none closes r.log; one_in = λ p l. l; two_in = λ p l. l; within = λ p m. absurd (omega arith); stage = tt }
            (λ j d _. views_stay P s.views id both
            record {
              start_is = k.start_is;
              seen = longer_is (λ (xs : List E). IsPrefix xs r.log) v.seen w.seen k.seen l.seen;
              one = k.seen;
              two = l.seen;
              own = own_both closes r.log v.own w.own k.own l.own (λ p. let a = r.apart p in let b = two_le_sum (λ (u : D). times p u.own) s.views id other v w distinct at there in omega arith);
              own_one = k.own;
              own_two = l.own;
              one_in = λ p m. let d = times-append p v.own w.own in omega arith;
              two_in = λ p m. let d = times-append p v.own w.own in omega arith;
              within = λ p m. let d = times-append p v.own w.own in let z = longer_length v.seen w.seen in let z0 = z.0 in let z1 = z.1 in dite (ℕ_discrete (times p v.own) 0)
                  (λ e. let h = l.within p (omega arith) in omega arith) (λ n. let h = k.within p (omega arith) in omega arith);
              stage = subst (AtStage r.serving r.ticket r.log r.home r.owner id (longer v.seen w.seen)) (sym still) tt;
            }
            (λ i u _ here. r.each i u here) j d);
      }
