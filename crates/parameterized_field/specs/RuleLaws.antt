-- The laws of the rule of fields with parameters, which passes over no bytes.
use Rattle.std.specs.Prelude.{◌≡◌, refl, cond, leb, Bool, true, ◌&&◌, List, [], ◌++◌, ℕ, ◌+◌, ◌-◌, ◌≤◌, ◌<◌, length, take, drop}
use Rattle.std.proofs.Common.{sym, ap, ◌∙◌, arith}
use Rattle.std.proofs.lemmas.Bool.{le-leb}
use Rattle.encoded_word.specs.Segments.{rendered}
use Rattle.structured_token.specs.declared.Kind.{Kind}
use Rattle.parameterized_field.specs.declared.State.{State}
use Rattle.parameterized_field.specs.Value.{clear_from, segments_from}
use Rattle.parameterized_field.specs.StepLaws.{TookPart, part_clear, part_next, clear_step, clear_end}

-- how many bytes of a value are tested: all, where they and the scratch are within their bounds
abbrev pub tested : ℕ → ℕ → ℕ
tested n room = cond (leb n 32768 && leb n room) n 0

pub tested_all : (n room : ℕ) → n ≤ 32768 → n ≤ room → tested n room ≡ n
tested_all n room h k = rw (le-leb n 32768 h, le-leb n room k) refl

pub less_served : (m n room : ℕ) → m ≤ n → (n ≤ 32768) × (n ≤ room) → (m ≤ 32768) × (m ≤ room)
less_served m n room l h = (omega (arith, h.0), omega (arith, h.1))

pub none_clear : (state : State) (s : List ℕ) (i : ℕ) → length s ≤ i → clear_from state (drop i s) ≡ true
none_clear state s i h = sym (clear_end state s i h)

module _ {state : State} {s : List ℕ} {i : ℕ} {parameter converted : Bool} {kind : Kind} {e : ℕ} (t : TookPart state s i parameter converted kind e) (j : ℕ) (q : j ≡ e + 0) where
  same : j ≡ e
  same = omega (arith, q)

  pub clear_passed : clear_from state (drop i s) ≡ part_clear parameter kind (take (e - i) (drop i s)) && clear_from (part_next state parameter converted kind) (drop j s)
  clear_passed = rw same (clear_step t refl)

  pub none_passed : (after : State) → rendered (segments_from after (drop e s)) ≡ take (j - e) (drop e s) ++ rendered (segments_from after (drop j s))
  none_passed after = let z : e - e ≡ 0 = omega arith in rw (same, z) refl
