use Rattle.outgoing_field.proofs.FateLaws.{served_placed, text_placed}
use mathlib.Core.Path.{sym, ◌∙◌}
use borrow.Author.Rules.{rules}
use Rattle.outgoing_field.proofs.writer.add_non_ascii.Goals as goal

pub add_by_method-requires : goal.add_by_method-requires
add_by_method-requires c = served_placed _ _ (sym c.needs_scratch.ensures ∙ c.if-not-needs_scratch.true) c.requires (text_placed _ (sym c.place.ensures ∙ c.in-Some.is) c.part.ensures)
