use Rattle.std.proofs.Common.{arith, refl}
use Rattle.xtext.proofs.XtextLaws.{decoded_none, decoded_fault, decoded_more, decoded_whole, length_decoded}
use Rattle.xtext.proofs.decode.Goals as goal

pub loop-i-init : goal.loop-i-init
loop-i-init c = decoded_none _ _

pub returns-in_default : goal.returns-in_default
returns-in_default c =
    let none = rw c.in_default.is at c.unit_at.ensures in
    decoded_fault c.loop-i.invariant none c.loop-i-test.true refl

pub overflow_add-i : goal.overflow_add-i
overflow_add-i c =
    let found = rw c.in-Some.is at c.unit_at.ensures in
    omega (arith, found.0.fits)

pub loop-i-smaller : goal.loop-i-smaller
loop-i-smaller c =
    let found = rw c.in-Some.is at c.unit_at.ensures in
    omega (arith, found.1, found.0.fits)

pub loop-i-preserved : goal.loop-i-preserved
loop-i-preserved c =
    let found = rw c.in-Some.is at c.unit_at.ensures in
    decoded_more c.loop-i.invariant found.0 c.loop-i-test.true (λ z. omega (arith, found.1)) (omega arith) c.add_byte-n.ensures

pub shape_of-out : goal.shape_of-out
shape_of-out c = length_decoded c.loop-i.invariant

pub shape_of-out-in_default : goal.shape_of-out-in_default
shape_of-out-in_default c = length_decoded c.loop-i.invariant

pub returns : goal.returns
returns c = decoded_whole c.loop-i.invariant c.loop-i-test.false
