use Rattle.std.proofs.Common.{rules, refl, ◌≡◌, ◌∙◌, ap, subst, sym, string_bytes, string_cmp}
use Rattle.std.specs.BTreeMap.Entry.{map_with_value}
use Rattle.std.specs.BTreeMap.{insert_entry}
use Rattle.wk_replies.proofs.Puts.{put_at_entry}
use Rattle.wk_replies.proofs.members.put.Goals as goal

pub returns-in-Vacant : goal.returns-in-Vacant
returns-in-Vacant c =
    put_at_entry c.args.members.now.entries _ _ c.in_ok-key.key c.args.name.now c.args.value c.insert.result.now
    (subst (λ e. (map_with_value e c.insert.result.now).entries ≡ insert_entry string_cmp c.args.members.now.entries c.in_ok-key.key c.insert.result.now) c.in-Vacant.is (c.in_ok-place.ensures.update.1 c.insert.result.now))
    c.insert.ensures.value
    (search rules)
    (search rules)

pub returns-in-Occupied : goal.returns-in-Occupied
returns-in-Occupied c =
    put_at_entry c.args.members.now.entries _ _ c.in_ok-key.key c.args.name.now c.args.value c.args.value
    (subst (λ e. (map_with_value e c.args.value).entries ≡ insert_entry string_cmp c.args.members.now.entries c.in_ok-key.key c.args.value) c.in-Occupied.is (c.in_ok-place.ensures.update.1 c.args.value))
    refl
    (search rules)
    (search rules)
