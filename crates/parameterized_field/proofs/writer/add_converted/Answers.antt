use Rattle.parameterized_field.specs.WritingLaws.{name_size, text_made, lines_added}
use borrow.Author.Rules.{rules}
use Rattle.parameterized_field.proofs.writer.add_converted.Goals as goal

pub make_text-n-requires : goal.make_text-n-requires
make_text-n-requires c = c.requires.0

pub slice_bounds-add_parameter-end : goal.slice_bounds-add_parameter-end
slice_bounds-add_parameter-end c = name_size _ _ c.token_end-name.ensures

pub slice_bounds-add_parameter-end-2 : goal.slice_bounds-add_parameter-end-2
slice_bounds-add_parameter-end-2 c = (text_made _ c.make_text-n.ensures c.requires.0 c.requires.1).within

pub slice_bounds-add_parameter-end-3 : goal.slice_bounds-add_parameter-end-3
slice_bounds-add_parameter-end-3 c = (text_made _ c.make_text-n.ensures c.requires.0 c.requires.1).size

pub returns : goal.returns
returns c = lines_added _ _ c.token_end-name.ensures c.requires.0 (text_made _ c.make_text-n.ensures c.requires.0 c.requires.1) c.add_parameter.ensures
