use Rattle.address.specs.AddressLaws.{local_quoted, local_atoms}
use mathlib.Core.Path.{sym, ◌∙◌}
use Rattle.address.proofs.local.Goals as goal

pub returns-then-byte_at-eq34 : goal.returns-then-byte_at-eq34
returns-then-byte_at-eq34 c = c.quoted.ensures ∙ sym (local_quoted _ _ (sym c.byte_at.ensures ∙ c.if-byte_at-eq34.true))

pub returns : goal.returns
returns c = c.dot_atom.ensures ∙ sym (local_atoms _ _ (λ e. c.if-byte_at-eq34.false (c.byte_at.ensures ∙ e)))
