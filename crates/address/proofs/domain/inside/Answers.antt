use Rattle.address.specs.AddressLaws.{byte_within, literal_close, literal_stop}
use mathlib.Core.Path.{sym, ◌∙◌}
use native.Mathlib.Omega.{arith}
use Rattle.address.proofs.domain.inside.Goals as goal

pub overflow_add-result : goal.overflow_add-result
overflow_add-result c = omega (arith, byte_within c.args.s.now _ 92 (sym c.byte_at.ensures ∙ c.if-byte_at-eq93.true))

pub returns-then-byte_at-eq93 : goal.returns-then-byte_at-eq93
returns-then-byte_at-eq93 c = sym (literal_close _ _ _ c.run_end-e.ensures (sym c.byte_at.ensures ∙ c.if-byte_at-eq93.true))

pub returns : goal.returns
returns c = sym (literal_stop _ _ _ c.run_end-e.ensures (λ e. c.if-byte_at-eq93.false (c.byte_at.ensures ∙ e)))
