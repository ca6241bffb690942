use Rattle.address.specs.AddressLaws.{byte_within, byte_then_lem, byte_other}
use mathlib.Core.Path.{sym, ◌∙◌}
use native.Mathlib.Omega.{arith}
use Rattle.address.proofs.at_domain.Goals as goal

pub returns-then-byte_at-ne64 : goal.returns-then-byte_at-ne64
returns-then-byte_at-ne64 c = sym (byte_other _ _ 64 _ (λ e. c.if-byte_at-ne64.true (c.byte_at.ensures ∙ e)))

pub overflow_add-at : goal.overflow_add-at
overflow_add-at c = omega (arith, byte_within c.args.s.now _ 63 (sym c.byte_at.ensures ∙ c.if-byte_at-ne64.false))

pub returns : goal.returns
returns c = c.domain.ensures ∙ sym (byte_then_lem _ _ 64 _ (sym c.byte_at.ensures ∙ c.if-byte_at-ne64.false))
