use Rattle.header.specs.FieldLaws.{name_size}
use Rattle.outgoing_field.proofs.FateLaws.{ascii_not_held, held_by_method}
use Rattle.outgoing_field.proofs.MostLaws.{ascii_most, most_by_method}
use mathlib.Core.Path.{sym, ◌∙◌}
use borrow.Author.Rules.{rules}
use Rattle.outgoing_field.proofs.held.look.Goals as goal

pub returns-then-value_is_ascii : goal.returns-then-value_is_ascii
returns-then-value_is_ascii c = let ascii = sym c.value_is_ascii.ensures ∙ c.if-value_is_ascii.true in (sym (ascii_not_held _ _ ascii), ascii_most _ _ ascii)

pub slice_bounds-kind_of-end : goal.slice_bounds-kind_of-end
slice_bounds-kind_of-end c = name_size _ _ c.name_len-n.ensures

pub returns-then-holds : goal.returns-then-holds
returns-then-holds c = let other = sym c.value_is_ascii.ensures ∙ c.if-value_is_ascii.false in sym (held_by_method _ _ _ other c.name_len-n.ensures c.kind_of-kind.ensures c.method_of-method.ensures c.holds.ensures) ∙ c.if-holds.true

pub returns : goal.returns
returns c = let other = sym c.value_is_ascii.ensures ∙ c.if-value_is_ascii.false in (sym (held_by_method _ _ _ other c.name_len-n.ensures c.kind_of-kind.ensures c.method_of-method.ensures c.holds.ensures) ∙ c.if-holds.false, most_by_method _ _ _ other c.name_len-n.ensures c.kind_of-kind.ensures c.method_of-method.ensures c.method_most.ensures)
