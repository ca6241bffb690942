use Rattle.address.specs.AddressLaws.{byte_within, byte_then_lem, byte_other}
use Rattle.address.specs.Address.{quoted_scan}
use mathlib.Core.Path.{sym, ◌∙◌}
use native.Mathlib.Omega.{arith}
use Rattle.address.proofs.quoted.quoted.Goals as goal

pub returns-then-byte_at-ne34 : goal.returns-then-byte_at-ne34
unfolding quoted_scan
returns-then-byte_at-ne34 c = sym (byte_other _ _ 34 _ (λ e. c.if-byte_at-ne34.true (c.byte_at.ensures ∙ e)))

pub overflow_add-at : goal.overflow_add-at
overflow_add-at c = omega (arith, byte_within c.args.s.now _ 33 (sym c.byte_at.ensures ∙ c.if-byte_at-ne34.false))

pub returns : goal.returns
unfolding quoted_scan
returns c = c.inside.ensures ∙ sym (byte_then_lem _ _ 34 _ (sym c.byte_at.ensures ∙ c.if-byte_at-ne34.false))
