-- Laws of faults: the tests in the order in which code makes them.
use Rattle.std.specs.Prelude.{Bool, cond, ◌&&◌, ℕ, ⊤, Result, Err}
use mathlib.Core.List.{List, [], ◌∷◌}
use Rattle.lists.specs.Lists.{all}
use Rattle.rules.specs.declared.Rules.{Rules}
use Rattle.envelope_line.specs.declared.Fault.{Fault}
use Rattle.envelope_line.specs.declared.Fault.TheVariants.{Malformed}
use Rattle.envelope_line.specs.EnvelopeLine.{alt_fault}
use Rattle.parameter.specs.Parameter.{params, spaced, is_param, has_value, alts, alts_ok}

-- the fault of a line by its tail; `ascii` says whether the path is ASCII
unfoldable pub tail_fault : Rules → Bool → List ℕ → Result ⊤ Fault
tail_fault rules ascii t = cond (spaced t && all is_param (params t) && alts_ok (alts (params t))) (alt_fault rules ascii (alts (params t))) (Err Malformed)

-- the same where p is the only ALT-ADDRESS and all else is well-formed
unfoldable pub only_alt_fault : Rules → Bool → List ℕ → Result ⊤ Fault
only_alt_fault rules ascii p = cond (has_value p) (alt_fault rules ascii (p ∷ [])) (Err Malformed)
