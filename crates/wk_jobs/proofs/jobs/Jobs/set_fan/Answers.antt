use Rattle.std.proofs.Common.{◌≡◌, ◌+◌, [], ◌∷◌, ◌++◌, true, false, map, sym, ap, ◌∙◌, subst}
use Rattle.std.specs.Prelude.{Result, Ok, Err, OnErr}
use Rattle.std.specs.List.{list_any}
use Rattle.wk_text_rules.specs.Titles.{title_eq}
use Rattle.wk_wiki_rules.specs.Jobs.{FanEntry, IsNumbered, has_fan, set_anew, fan_set}
use Rattle.wk_wiki_rules.proofs.JobLemmas.{IsNumbered-fan_set}
use Rattle.wk_jobs.specs.Held.{held}
use Rattle.wk_jobs.proofs.Numbered.{lists_with, numbered-fans, fan_set-there, fan_set-new}
use Rattle.wk_jobs.proofs.jobs.Jobs.set_fan.Goals as goal

refused : {T E : Type 0} (r : Result T E) (P : Type 0) → P → OnErr r P
refused (Ok x) P p = tt
refused (Err e) P p = p

pub invariant_of-self : goal.invariant_of-self
invariant_of-self c =
    let lists = (held c.self.inside).lists in
    let there : has_fan lists c.args.title ≡ true = sym c.restart.ensures.there ∙ c.if-restart.true in
    numbered-fans lists.refreshes (map (set_anew c.args.title c.args.reach) lists.fans) c.restart.new.self.jobs lists.next c.restart.ensures.jobs
    (subst IsNumbered (fan_set-there lists c.args.title c.args.reach there) (IsNumbered-fan_set lists c.args.title c.args.reach c.self.invariant))

pub invariant_of-self-in_err-reserve : goal.invariant_of-self-in_err-reserve
invariant_of-self-in_err-reserve c =
    let lists = (held c.self.inside).lists in
    numbered-fans lists.refreshes lists.fans c.reserve.new.self.jobs lists.next (c.reserve.ensures.jobs ∙ c.restart.ensures.none c.if-restart.false) c.self.invariant

pub returns-in_err-reserve-clause-refused : goal.returns-in_err-reserve-clause-refused
returns-in_err-reserve-clause-refused c =
    let lists = (held c.self.inside).lists in
    refused c.from_residual.result _
    (ap (λ fans. lists_with lists.refreshes fans lists.next) (c.reserve.ensures.jobs ∙ c.restart.ensures.none c.if-restart.false) ∙ ap (λ h. h.lists) c.self.view_is)

pub push-requires-clause-none : goal.push-requires-clause-none
push-requires-clause-none c =
    ap (list_any (λ (other : FanEntry). title_eq other.title c.args.title)) (c.in_ok-reserve.ensures.jobs ∙ c.restart.ensures.none c.if-restart.false)
    ∙ sym c.restart.ensures.there ∙ c.if-restart.false

pub invariant_of-self-2 : goal.invariant_of-self-2
invariant_of-self-2 c =
    let lists = (held c.self.inside).lists in
    let none : has_fan lists c.args.title ≡ false = sym c.restart.ensures.there ∙ c.if-restart.false in
    let new : FanEntry = record { number = lists.next; title = c.args.title; reach = c.args.reach; cursor = 0 } in
    let pushed = c.push.ensures.jobs ∙ ap (λ fans. fans ++ new ∷ []) (c.in_ok-reserve.ensures.jobs ∙ c.restart.ensures.none c.if-restart.false) in
    numbered-fans lists.refreshes (lists.fans ++ new ∷ []) c.push.new.self.jobs (lists.next + 1) pushed
    (subst IsNumbered (fan_set-new lists c.args.title c.args.reach none) (IsNumbered-fan_set lists c.args.title c.args.reach c.self.invariant))

pub returns-clause-lists : goal.returns-clause-lists
returns-clause-lists c =
    let lists = (held c.self.inside).lists in
    let none : has_fan lists c.args.title ≡ false = sym c.restart.ensures.there ∙ c.if-restart.false in
    let new : FanEntry = record { number = lists.next; title = c.args.title; reach = c.args.reach; cursor = 0 } in
    let pushed = c.push.ensures.jobs ∙ ap (λ fans. fans ++ new ∷ []) (c.in_ok-reserve.ensures.jobs ∙ c.restart.ensures.none c.if-restart.false) in
    ap (λ fans. lists_with lists.refreshes fans (lists.next + 1)) pushed ∙ sym (fan_set-new lists c.args.title c.args.reach none)
    ∙ ap (λ h. fan_set h.lists c.args.title c.args.reach) c.self.view_is
