use Rattle.std.proofs.Common.{◌≤◌, length, sym, ◌∙◌, arith}
use Rattle.std.proofs.lemmas.Bool.{ne_eqb}
use Rattle.wk_title.proofs.OnePass.{loop-hash, loop-end, loop-space, loop-colon, loop-dubious, loop-plain, length-put}
use Rattle.wk_title.proofs.ascii.squeezed.Goals as goal
use Rattle.wk_title.proofs.ascii.squeezed.Goals.{then-is_plain, else-is_plain+then-is_space, else-is_plain+else-is_space+else-byte-eq35+then-byte-eq58, else-is_plain+else-is_space+else-byte-eq35+else-byte-eq58}

pub returns-then-byte-eq35-clause-words : goal.returns-then-byte-eq35-clause-words
returns-then-byte-eq35-clause-words c =
    loop-hash c.args.text.now _ c.loop-byte.byte-index c.loop-byte.is_further _ _ c.loop-byte-test.true c.if-byte-eq35.true c.loop-byte.invariant.3

pub loop-byte-preserved : goal.loop-byte-preserved
loop-byte-preserved c =
    let fits : c.loop-byte.len ≤ length c.loop-byte.into = omega (arith, c.loop-byte.invariant.0, c.loop-byte.invariant.2, c.loop-byte-test.true, c.requires) in
    elim c.if-is_plain.branch [
      | then-is_plain w ↦
          let next =
          loop-plain c.args.text.now c.loop-byte.into w.put-len.new.into c.loop-byte.byte-index c.loop-byte.len w.put-len.result c.loop-byte.is_further c.loop-byte.has_colon c.loop-byte.is_dubious
          c.loop-byte-test.true (sym c.is_plain.ensures ∙ w.if-is_plain.true) w.put-len.ensures.words c.loop-byte.invariant.3 in
          let len = length-put c.loop-byte.byte-index c.loop-byte.len w.put-len.result c.loop-byte.is_further c.loop-byte.invariant.0 c.loop-byte.invariant.1 w.put-len.ensures.one w.put-len.ensures.two in
          rw (w.len-is, w.into-is, w.is_further-is, w.has_colon-is, w.is_dubious-is) (len, (λ h. cc), w.put-len.array_long, next)
      | else-is_plain+then-is_space w ↦
          let next =
          loop-space c.args.text.now c.loop-byte.into c.loop-byte.byte-index c.loop-byte.len c.loop-byte.is_further c.loop-byte.has_colon c.loop-byte.is_dubious
          c.loop-byte-test.true fits (sym w.is_space.ensures ∙ w.if-is_space.true) c.loop-byte.invariant.3 in
          rw (w.len-is, w.into-is, w.is_further-is, w.has_colon-is, w.is_dubious-is)
          (omega (arith, c.loop-byte.invariant.0), (λ h. omega (arith, c.loop-byte.invariant.0)), c.loop-byte.invariant.2, next)
      | else-is_plain+else-is_space+else-byte-eq35+then-byte-eq58 w ↦
          let next =
          loop-colon c.args.text.now c.loop-byte.into w.put-len-else-byte-eq35.new.into c.loop-byte.byte-index c.loop-byte.len w.put-len-else-byte-eq35.result c.loop-byte.is_further c.loop-byte.has_colon c.loop-byte.is_dubious
          c.loop-byte-test.true w.if-byte-eq58.true w.put-len-else-byte-eq35.ensures.words c.loop-byte.invariant.3 in
          let len = length-put c.loop-byte.byte-index c.loop-byte.len w.put-len-else-byte-eq35.result c.loop-byte.is_further c.loop-byte.invariant.0 c.loop-byte.invariant.1 w.put-len-else-byte-eq35.ensures.one w.put-len-else-byte-eq35.ensures.two in
          rw (w.len-is, w.into-is, w.is_further-is, w.has_colon-is, w.is_dubious-is) (len, (λ h. cc), w.put-len-else-byte-eq35.array_long, next)
      | else-is_plain+else-is_space+else-byte-eq35+else-byte-eq58 w ↦
          let next =
          loop-dubious c.args.text.now c.loop-byte.into w.put-len-else-byte-eq35.new.into c.loop-byte.byte-index c.loop-byte.len w.put-len-else-byte-eq35.result c.loop-byte.is_further c.loop-byte.has_colon c.loop-byte.is_dubious
          c.loop-byte-test.true (sym c.is_plain.ensures ∙ w.if-is_plain.false) (sym w.is_space.ensures ∙ w.if-is_space.false) (ne_eqb _ _ w.if-byte-eq35.false) (ne_eqb _ _ w.if-byte-eq58.false)
          w.put-len-else-byte-eq35.ensures.words c.loop-byte.invariant.3 in
          let len = length-put c.loop-byte.byte-index c.loop-byte.len w.put-len-else-byte-eq35.result c.loop-byte.is_further c.loop-byte.invariant.0 c.loop-byte.invariant.1 w.put-len-else-byte-eq35.ensures.one w.put-len-else-byte-eq35.ensures.two in
          rw (w.len-is, w.into-is, w.is_further-is, w.has_colon-is, w.is_dubious-is) (len, (λ h. cc), w.put-len-else-byte-eq35.array_long, next)
    ]

pub returns-clause-words : goal.returns-clause-words
returns-clause-words c =
    loop-end c.args.text.now _ c.loop-byte.byte-index c.loop-byte.is_further _ _ (omega (arith, c.loop-byte-test.false)) c.loop-byte.invariant.3
