use Rattle.std.proofs.Common.{◌≡◌, ◌∙◌, sym, refl, arith, length, min, rules}
use Rattle.base64_digits.proofs.WritingLaws.{part_front, part_digits, filled, none_left}
use Rattle.buffer.specs.BufferLaws.{length_appended, capped_start, capped_turn, capped_end}
use Rattle.base64_digits.proofs.add_clipped.Goals as goal

pub loop-rest-init : goal.loop-rest-init
loop-rest-init c = (refl, capped_start _ _ _ (omega arith))

pub loop-rest-preserved : goal.loop-rest-preserved
loop-rest-preserved c =
    let rest = c.loop-rest.rest.now in
    let size : c.min.result ≡ min 3 (length rest) = search rules in
    let front = part_front rest c.loop-rest-test.true size c.split_at.ensures.front c.split_at.ensures.back in
    let four = part_digits rest c.loop-rest-test.true size c.split_at.ensures.front in (
      length_appended c.put_roomy.ensures ∙ c.loop-rest.invariant.0,
      capped_turn c.loop-rest.invariant.1 front (filled c.put_roomy.ensures (four ∙ sym c.loop-rest.invariant.0) c.add_slice-next.ensures) (omega arith),
    )

pub returns : goal.returns
returns c = capped_end c.loop-rest.invariant.1 (none_left c.loop-rest.rest.now c.loop-rest-test.false)
