use mathlib.Core.Path.{◌≡◌, refl, ◌∙◌}
use Prim.Native.Nat.{◌-◌}
use lib.ListN.{length, take, drop}
use native.Mathlib.Omega.{arith}
use Rattle.lists.specs.Run.{run}
use Rattle.lists.specs.RunLaws.{run_le}
use Rattle.line.specs.LineLaws.{part_rest}
use Rattle.downgraded_field.specs.Shown.{spacing}
use Rattle.downgraded_field.specs.ShownLaws.{text_by}
use Rattle.downgraded_field.proofs.turn.text_of.Goals as goal

pub slice_bounds-result-count : goal.slice_bounds-result-count
slice_bounds-result-count c = omega (arith, c.run_end.ensures, run_le spacing c.value-value.result.now)

pub slice_bounds-result-start : goal.slice_bounds-result-start
slice_bounds-result-start c = omega (arith, c.run_end.ensures, run_le spacing c.value-value.result.now)

pub returns : goal.returns
returns c = part_rest c.value-value.result.now c.run_end.result ∙ text_by _ c.value-value.ensures c.run_end.ensures
