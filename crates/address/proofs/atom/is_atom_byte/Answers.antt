use Rattle.address.specs.AtomBits.{by_bits, by_bits_lem}
use borrow.Author.Rules.{rules}
use Rattle.address.proofs.atom.is_atom_byte.Goals as goal

pub returns : goal.returns
unfolding by_bits
returns c = rw c.bits-row.ensures (by_bits_lem _ (search rules))
