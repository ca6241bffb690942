use Rattle.std.proofs.Common.{◌≡◌, ◌+◌, length}
use Rattle.base64_digits.specs.Base64.{in_base64, base64_length}
use Rattle.buffer.specs.Buffer.{Reached}
use Rattle.base64_digits.proofs.put_roomy.Given as goal

abbrev pub invariant-loop-five : goal.invariant-loop-five
invariant-loop-five l = (l.next + base64_length (length l.rest) ≡ l.at + base64_length (length l.bytes)) × Reached (in_base64 l.bytes) (in_base64 l.rest) l.at l.initial.out l.out l.next

abbrev pub decreases-loop-five : goal.decreases-loop-five
decreases-loop-five l = length l.rest
