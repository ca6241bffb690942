use Rattle.parameterized_field.specs.Value.{passes}
use Rattle.std.proofs.Common.{List, ℕ, ◌≡◌, ◌≤◌, ◌*◌, length, take, arith}
use lib.Seq.{take-length}
use Rattle.parameterized_field.specs.RuleLaws.{tested, tested_all}
use Rattle.parameterized_field.proofs.held.fitting_passes.Goals as goal

the_value : (v : List ℕ) (room : ℕ) → length v ≤ 32768 → 2 * length v ≤ room → take (tested (length v) room) v ≡ v
the_value v room h k = rw (tested_all (length v) room h (omega arith)) (take-length v)

pub returns-then-not-all_clear : goal.returns-then-not-all_clear
unfolding passes
returns-then-not-all_clear c =
    let is = rw (the_value c.args.value.now _ c.requires.0 c.requires.1) at c.all_clear.ensures.is in
    rw (← is, c.if-not-all_clear.true)

pub names_differ-requires : goal.names_differ-requires
names_differ-requires c = (c.requires.0, omega (arith, c.requires.1))

pub returns : goal.returns
unfolding passes
returns c =
    let is = rw (the_value c.args.value.now _ c.requires.0 c.requires.1) at c.all_clear.ensures.is in
    rw (← is, c.if-not-all_clear.false) c.names_differ.ensures
