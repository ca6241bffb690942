use Rattle.std.proofs.Common.{refl, arith}
use Rattle.parameterized_field.specs.WritingLaws.{stays_added}
use Rattle.parameterized_field.proofs.writer.add_parameter.Goals as goal

pub returns : goal.returns
returns c = λ is. stays_added _ is refl c.args.fresh (omega arith) c.add_new_line-next.ensures c.add_slice.ensures
