use Rattle.std.proofs.Common.{◌≡◌, ℕ, ◌+◌, Bool, true, false, ◌||◌, leb, ltb, le-leb, length, refl, sym, ap, ◌∙◌, arith}
use Rattle.wk_page_rules.specs.Verdict.{is_journal_full, max_job}
use Rattle.wk_wiki_rules.specs.Verdicts.{journal_use}
use Rattle.wk_wiki_rules.specs.Room.{tickets_out}
use Rattle.wk_life_laws.specs.Lives.{IsLife, journal_of}
use Rattle.wk_life_laws.proofs.Lives.{counted_life}
use Rattle.wk_jobs.specs.HeldJobs.{HeldJobs}
use Rattle.wk_core.specs.LifeHeld.{LifeHeld}
use Rattle.wk_core.specs.LifeInside.{held}
use Rattle.wk_core.proofs.life.Life.is_full.Goals as goal

or-same : (a b : Bool) → a ≡ true → a ≡ (a || b)
or-same true b is = refl
or-same false b is = absurd (let e : false ≡ true = is in cc)

or-other : (a b : Bool) → a ≡ false → b ≡ (a || b)
or-other false b is = refl
or-other true b is = absurd (let e : true ≡ false = is in cc)

in-numbers : (limit used next : ℕ) (h : LifeHeld) → limit ≡ h.life.limits.journal → used ≡ length (journal_of h.life) + tickets_out h.life.state → next ≡ h.life.state.jobs.next
    → (leb limit used || ltb max_job next) ≡ is_journal_full h.life.limits (journal_use h.life.state (length (journal_of h.life)))
in-numbers limit used next h most many number = rw (most, many, number) refl

used-is : (h told : LifeHeld) (used : ℕ) → IsLife h.life → h ≡ told → used ≡ length told.life.entries + tickets_out told.life.state → used ≡ length (journal_of told.life) + tickets_out told.life.state
used-is h told used is same many =
    let counted = ap (λ (l : LifeHeld). length l.life.entries) (sym same) ∙ (sym (counted_life h.life is) ∙ ap (λ (l : LifeHeld). length (journal_of l.life)) same) in
    many ∙ ap (λ n. n + tickets_out told.life.state) counted

pub returns-then-self-used : goal.returns-then-self-used
returns-then-self-used c =
    let within = c.if-self-used.true in
    let full : leb c.self.inside.limits.journal c.used.result ≡ true = le-leb c.self.inside.limits.journal c.used.result within in
    or-same (leb c.self.inside.limits.journal c.used.result) (ltb max_job c.self.inside.live.state.jobs.next) full
    ∙ in-numbers c.self.inside.limits.journal c.used.result c.self.inside.live.state.jobs.next c.args.self.now (ap (λ (h : LifeHeld). h.life.limits.journal) c.self.view_is) (used-is (held c.self.inside) c.args.self.now c.used.result c.self.invariant.life c.self.view_is c.used.ensures.used) (ap (λ (h : LifeHeld). h.life.state.jobs.next) c.self.view_is)

pub returns-else-self-used : goal.returns-else-self-used
returns-else-self-used c =
    let past = c.if-self-used.false in
    let free : leb c.self.inside.limits.journal c.used.result ≡ false = grind arith in
    let number = c.next_number.ensures.next ∙ ap (λ (j : HeldJobs). j.lists.next) c.jobs.ensures in
    or-other (leb c.self.inside.limits.journal c.used.result) (ltb max_job c.next_number.result) free
    ∙ in-numbers c.self.inside.limits.journal c.used.result c.next_number.result c.args.self.now (ap (λ (h : LifeHeld). h.life.limits.journal) c.self.view_is) (used-is (held c.self.inside) c.args.self.now c.used.result c.self.invariant.life c.self.view_is c.used.ensures.used) (number ∙ ap (λ (h : LifeHeld). h.life.state.jobs.next) c.self.view_is)
