use Rattle.std.proofs.Common.{◌≡◌, sym, ◌∙◌, refl, drop}
use Rattle.parameter_names.specs.NamesLaws.{marked_inside, differ_step, differ_end}
use Rattle.parameter_names.specs.KeysLaws.{keys_next, keys_lent, name_there, names_over}
use Rattle.parameter_names.proofs.names.keyed_differ.Goals as goal

pub slice_bounds-is_other-end : goal.slice_bounds-is_other-end
slice_bounds-is_other-end c = marked_inside _ _ _ (name_there c.args.s.now c.loop-n.i c.loop-n.n c.args.keys.now c.loop-n.invariant.keys c.loop-n-test.true) c.marked_end-end.ensures

pub is_other-requires : goal.is_other-requires
is_other-requires c = keys_lent _ _ _ (name_there c.args.s.now c.loop-n.i c.loop-n.n c.args.keys.now c.loop-n.invariant.keys c.loop-n-test.true) c.marked_end-end.ensures c.args.keys.now c.loop-n.n c.loop-n.invariant.keys

pub returns-then-not-is_other : goal.returns-then-not-is_other
returns-then-not-is_other c = sym (c.loop-n.invariant.rest ∙ differ_step _ _ _ (name_there c.args.s.now c.loop-n.i c.loop-n.n c.args.keys.now c.loop-n.invariant.keys c.loop-n-test.true) c.marked_end-end.ensures ∙ rw (← c.is_other.ensures, c.if-not-is_other.true))

pub loop-n-preserved : goal.loop-n-preserved
loop-n-preserved c =
    let there = name_there c.args.s.now c.loop-n.i c.loop-n.n c.args.keys.now c.loop-n.invariant.keys c.loop-n-test.true in
    record {
      keys = keys_next _ _ _ there c.marked_end-end.ensures c.args.keys.now c.loop-n.n c.loop-n.invariant.keys;
      rest = c.loop-n.invariant.rest ∙ differ_step _ _ _ there c.marked_end-end.ensures ∙ rw (← c.is_other.ensures, c.if-not-is_other.false);
    }

pub returns : goal.returns
returns c = differ_end _ _ (names_over c.args.s.now c.loop-n.i c.loop-n.n c.args.keys.now c.loop-n.invariant.keys c.loop-n-test.false) ∙ sym c.loop-n.invariant.rest
