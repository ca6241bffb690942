use Rattle.std.proofs.Common.{◌≡◌, true, sym, ◌∙◌, arith, length}
use Rattle.address.specs.AddressLaws.{later_stop, dot_atom_step, dot_atom_stop, dot_atom_end_lem}
use Rattle.address.specs.Address.{dot_atom_scan}
use Rattle.address.proofs.atom.dot_atom.Goals as goal

pub returns-then-s-at : goal.returns-then-s-at
unfolding dot_atom_scan
returns-then-s-at c = sym (dot_atom_end_lem _ _ true c.if-s-at.true ∙ later_stop _)

pub returns-then-not-is_atom_byte-dot : goal.returns-then-not-is_atom_byte-dot
unfolding dot_atom_scan
returns-then-not-is_atom_byte-dot c = c.ended.ensures ∙ sym (c.loop-i.invariant ∙ dot_atom_stop _ _ _ c.loop-i-test.true _ c.is_atom_byte.ensures c.if-not-is_atom_byte-dot.true)

pub loop-i-preserved : goal.loop-i-preserved
loop-i-preserved c = c.loop-i.invariant ∙ dot_atom_step _ _ _ c.loop-i-test.true _ c.is_atom_byte.ensures c.if-not-is_atom_byte-dot.false

pub returns : goal.returns
unfolding dot_atom_scan
returns c =
    let end : length c.args.s.now ≡ c.loop-i.i = omega arith in
    c.ended-2.ensures ∙ (rw end (sym (c.loop-i.invariant ∙ dot_atom_end_lem _ _ _ c.loop-i-test.false)))
