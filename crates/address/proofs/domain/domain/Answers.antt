use Rattle.address.specs.AddressLaws.{byte_within, domain_literal, domain_atoms}
use mathlib.Core.Path.{sym, ◌∙◌}
use native.Mathlib.Omega.{arith}
use Rattle.address.proofs.domain.domain.Goals as goal

pub overflow_add-at : goal.overflow_add-at
overflow_add-at c = omega (arith, byte_within c.args.s.now _ 90 (sym c.byte_at.ensures ∙ c.if-byte_at-eq91.true))

pub returns-then-byte_at-eq91 : goal.returns-then-byte_at-eq91
returns-then-byte_at-eq91 c = c.inside.ensures ∙ sym (domain_literal _ _ (sym c.byte_at.ensures ∙ c.if-byte_at-eq91.true))

pub returns : goal.returns
returns c = c.dot_atom.ensures ∙ sym (domain_atoms _ _ (λ e. c.if-byte_at-eq91.false (c.byte_at.ensures ∙ e)))
