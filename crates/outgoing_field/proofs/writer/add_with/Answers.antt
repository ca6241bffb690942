use Rattle.outgoing_field.proofs.FateLaws.{served, text_placed, text_made, made_within, made_size}
use mathlib.Core.Path.{sym, ◌∙◌}
use borrow.Author.Rules.{rules}
use Rattle.outgoing_field.proofs.writer.add_with.Goals as goal

pub add_by_method-requires : goal.add_by_method-requires
add_by_method-requires c = served c.requires _ (text_placed _ (sym c.place.ensures ∙ c.in-Some.is) c.part.ensures)

pub slice_bounds-add_by_method-end : goal.slice_bounds-add_by_method-end
slice_bounds-add_by_method-end c = made_within c.requires c.put-size.ensures

pub slice_bounds-add_by_method-end-in-None : goal.slice_bounds-add_by_method-end-in-None
slice_bounds-add_by_method-end-in-None c = made_size c.requires c.put-size.ensures

pub add_by_method-requires-in-None : goal.add_by_method-requires-in-None
add_by_method-requires-in-None c = served c.requires _ (text_made c.requires c.put-size.ensures)
