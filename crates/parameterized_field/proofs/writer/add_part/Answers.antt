use Rattle.std.proofs.Common.{◌≡◌, true, false, refl, arith}
use Rattle.parameterized_field.specs.WritingLaws.{converted_added, part_parameter}
use Rattle.field_parameter.specs.Parameter.{is_converted}
use Rattle.parameterized_field.proofs.writer.add_part.Goals as goal

pub returns-in-Converted : goal.returns-in-Converted
returns-in-Converted c =
    λ what.
    let e : true ≡ is_converted c.args.part.now = (rw c.in-Converted.is at what) refl in
    rw c.in-Converted.is (part_parameter _ _ _ _ refl (converted_added _ e refl c.args.state.fresh c.add_converted.ensures))

pub returns-in-Stays : goal.returns-in-Stays
returns-in-Stays c =
    λ what.
    let e : false ≡ is_converted c.args.part.now = (rw c.in-Stays.is at what) refl in
    rw c.in-Stays.is (part_parameter _ _ _ _ refl (c.add_parameter.ensures e))
