use Rattle.std.proofs.Common.{◌≡◌, length}
use Rattle.base64_digits.specs.Base64.{in_base64}
use Rattle.buffer.specs.Buffer.{ReachedCapped}
use Rattle.base64_digits.proofs.add_clipped.Given as goal

abbrev pub invariant-loop-rest : goal.invariant-loop-rest
invariant-loop-rest l = (length l.group ≡ 4) × ReachedCapped (in_base64 l.bytes) (in_base64 l.rest) l.at l.initial.out l.out l.next

abbrev pub decreases-loop-rest : goal.decreases-loop-rest
decreases-loop-rest l = length l.rest
