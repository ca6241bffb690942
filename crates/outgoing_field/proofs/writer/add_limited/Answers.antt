use Rattle.outgoing_field.proofs.FateLaws.{added_copied, added_by_method}
use Rattle.header.specs.FieldLaws.{name_size}
use mathlib.Core.Path.{sym, ◌∙◌}
use borrow.Author.Rules.{rules}
use Rattle.outgoing_field.proofs.writer.add_limited.Goals as goal

pub returns-then-value_is_ascii : goal.returns-then-value_is_ascii
returns-then-value_is_ascii c = added_copied _ _ (sym c.value_is_ascii.ensures ∙ c.if-value_is_ascii.true) c.add_slice.ensures

pub slice_bounds-kind_of-end : goal.slice_bounds-kind_of-end
slice_bounds-kind_of-end c = name_size _ _ c.name_len-n.ensures

pub returns : goal.returns
returns c = added_by_method _ _ _ (sym c.value_is_ascii.ensures ∙ c.if-value_is_ascii.false) c.name_len-n.ensures c.kind_of-kind.ensures c.method_of.ensures c.add_non_ascii.ensures
