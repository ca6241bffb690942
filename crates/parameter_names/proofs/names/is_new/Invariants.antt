use Rattle.parameter_names.specs.Names.{marked_len}
use Rattle.parameter_names.specs.NamesLaws.{marked_ahead, marked_inside, new_step, new_end}
use Rattle.letter_case.specs.LetterCase.{same_any_case}
use Rattle.lists.specs.Lists.{all}
use Rattle.lists.specs.CutBy.{cut_by}
use borrow.Author.Rules.{rules}
use native.Mathlib.Omega.{arith}
use lib.ListN.{length, drop}
use mathlib.Core.Bool.{not}
use mathlib.Core.Path.{◌≡◌, refl, sym, ◌∙◌}
use Prim.Native.Nat.{◌-◌}
use Rattle.parameter_names.proofs.names.is_new.Given as goal

abbrev pub invariant-loop-i : goal.invariant-loop-i
invariant-loop-i l = all (λ other. not (same_any_case l.name other)) (cut_by marked_len (drop l.at l.s)) ≡ all (λ other. not (same_any_case l.name other)) (cut_by marked_len (drop l.i l.s))

abbrev pub decreases-loop-i : goal.decreases-loop-i
decreases-loop-i l = length l.s - l.i
