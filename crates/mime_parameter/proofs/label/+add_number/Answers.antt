use Rattle.std.proofs.Common.{arith}
use Rattle.mime_parameter.specs.WritingLaws.{number_low, number_high}
use Rattle.mime_parameter.proofs.label.+add_number.Goals as goal

pub returns-then-n-lt10 : goal.returns-then-n-lt10
returns-then-n-lt10 t c = number_low _ c.if-n-lt10.true c.add_byte.ensures

pub returns : goal.returns
returns t c = number_high _ c.if-n-lt10.false (omega arith) c.add_number-next.ensures c.add_byte-2.ensures
