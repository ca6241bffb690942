use mathlib.Core.Path.{sym, ◌∙◌}
use Rattle.downgraded_field.specs.ShownLaws.{read_malformed, read_formed}
use Rattle.downgraded_field.specs.FormedLaws.{formed_text_short}
use Rattle.downgraded_field.proofs.check.Goals as goal

pub returns-then-not-is_formed : goal.returns-then-not-is_formed
returns-then-not-is_formed c = read_malformed _ c.is_formed.ensures c.if-not-is_formed.true

pub check_turns-requires : goal.check_turns-requires
check_turns-requires c = formed_text_short _ c.text_of.ensures (sym c.is_formed.ensures ∙ c.if-not-is_formed.false)

pub returns : goal.returns
returns c = read_formed _ c.text_of.ensures c.is_formed.ensures c.if-not-is_formed.false c.check_turns.ensures
