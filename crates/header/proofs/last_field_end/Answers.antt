use Rattle.std.proofs.Common.{◌≡◌, ◌+◌, ◌-◌, sym, ◌∙◌, arith}
use Rattle.header.specs.AsciiFieldsLaws.{last_found}
use Rattle.header.proofs.last_field_end.Goals as goal

pub returns-then-ends_at : goal.returns-then-ends_at
returns-then-ends_at c =
    let i = c.loop-i.i in
    let e : i - 1 + 1 ≡ i = omega arith in
    rw e (last_found (i - 1 - 1) c.loop-i.invariant (omega arith) (omega arith) (omega arith) (sym c.ends_at.ensures ∙ c.if-ends_at.true))
