use Rattle.xtext.proofs.XtextLaws.{decoded_le, alt_long, alt_fault_lem, alt_tested}
use Rattle.buffer.specs.BufferLaws.{length_wrote}
use lib.Seq.{length-take-le}
use mathlib.Core.Path.{refl, sym, ◌∙◌}
use native.Mathlib.Omega.{arith}
use Rattle.xtext.proofs.is_alt_address.Goals as goal

pub returns-then-value-gt-LIMIT : goal.returns-then-value-gt-LIMIT
returns-then-value-gt-LIMIT c = alt_long _ c.if-value-gt-LIMIT.true

pub returns-in_default : goal.returns-in_default
returns-in_default c =
    let w = rw c.in_default.is at c.decode.ensures in
    alt_fault_lem _ c.if-value-gt-LIMIT.false w.1

pub slice_bounds-bytes-end : goal.slice_bounds-bytes-end
slice_bounds-bytes-end c =
    let w = rw c.in-Ok.is at c.decode.ensures in
    omega (arith, w.0.size, decoded_le c.args.value.now, length_wrote w.0, c.if-value-gt-LIMIT.false)

pub slice_bounds-is_ascii_address-end : goal.slice_bounds-is_ascii_address-end
slice_bounds-is_ascii_address-end c =
    let w = rw c.in-Ok.is at c.decode.ensures in
    sym (length-take-le _ c.decode.new.out (omega (arith, w.0.size, decoded_le c.args.value.now, length_wrote w.0, c.if-value-gt-LIMIT.false)))

pub returns : goal.returns
returns c =
    let w = rw c.in-Ok.is at c.decode.ensures in
    c.is_ascii_address.ensures ∙ alt_tested _ c.if-value-gt-LIMIT.false w.1 w.0 refl
