use Rattle.std.proofs.Common.{◌≡◌, true, refl, inl, inr, arith}
use Rattle.buffer.specs.BufferLaws.{capped_none, capped_then, capped_same}
use Rattle.parameterized_field.specs.Part.{is_parameter}
use Rattle.parameterized_field.specs.WritingLaws.{name_is, name_size}
use Rattle.parameterized_field.specs.NamesLaws.{part_marked, part_unmarked}
use Rattle.parameterized_field.proofs.names.add_name.Goals as goal

pub returns-in-Token : goal.returns-in-Token
returns-in-Token c = capped_same (part_unmarked _ (rw c.in-Token.is refl)) (capped_none _ _ (omega arith))

pub slice_bounds-add_slice-end : goal.slice_bounds-add_slice-end
slice_bounds-add_slice-end c = name_size _ _ c.token_end-name.ensures

pub returns-in-Converted : goal.returns-in-Converted
returns-in-Converted c =
    let e : is_parameter c.args.kind ≡ true = elim c.in-Converted.is [ inl e ↦ rw e refl | inr e ↦ rw e refl ] in
    capped_same (part_marked _ e) (capped_then (rw (name_is _ _ c.token_end-name.ensures) at c.add_slice-next.ensures) c.add_byte.ensures (omega arith))
