use Rattle.parameterized_field.specs.NamesLaws.{names_made, names_by}
use borrow.Author.Rules.{rules}
use Rattle.parameterized_field.proofs.names.names_differ.Goals as goal

pub slice_bounds-names_differ-end : goal.slice_bounds-names_differ-end
slice_bounds-names_differ-end c = (names_made _ _ c.add_names-n.ensures.0 c.add_names-n.ensures.1 c.requires.0 c.requires.1).within

pub slice_bounds-names_differ-end-2 : goal.slice_bounds-names_differ-end-2
slice_bounds-names_differ-end-2 c = (names_made _ _ c.add_names-n.ensures.0 c.add_names-n.ensures.1 c.requires.0 c.requires.1).size

pub returns : goal.returns
returns c = names_by _ _ (names_made _ _ c.add_names-n.ensures.0 c.add_names-n.ensures.1 c.requires.0 c.requires.1) c.names_differ.ensures
