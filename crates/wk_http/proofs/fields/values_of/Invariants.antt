use Rattle.std.proofs.Common.{◌≡◌, take}
use Rattle.std.specs.Prelude.{map}
use Rattle.wk_wire_rules.specs.Heads.{values_of}
use Rattle.wk_http.specs.Fields.{fields_in}
use Rattle.wk_http.proofs.fields.values_of.Given as goal

-- the values of the fields so far
abbrev pub invariant-loop-header : goal.invariant-loop-header
invariant-loop-header l =
    map (λ v. v.now) l.values.items ≡ values_of l.name (fields_in l.buf (take l.header-index l.headers))
