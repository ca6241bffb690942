use Rattle.std.proofs.Common.{arith, ◌%◌}
use Rattle.base64_digits.specs.Base64.{digit64}
use Rattle.base64_digits.specs.WritingLaws.{digits64}
use Rattle.base64_digits.proofs.WritingLaws.{digits_at}
use Rattle.base64_digits.proofs.digit.Goals as goal

pub returns : goal.returns
unfolding digits64 digit64
returns c = digits_at (c.args.bits % 64) (omega arith)
