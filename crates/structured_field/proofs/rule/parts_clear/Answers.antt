use Rattle.std.specs.Prelude.{◌≡◌, ◌≤◌, ◌-◌, ◌&&◌, refl, Bool, true, false, List, ℕ, length, take, drop}
use Rattle.std.proofs.Common.{◌∙◌, sym, arith, length-take, length-drop}
use lib.Seq.{take-length}
use Rattle.structured_field.proofs.rule.parts_clear.Goals as goal

-- a part of a value that can be tested counts whole
counted : (tested : ℕ → ℕ → ℕ) (s : List ℕ) (i e room : ℕ) → ((m : ℕ) → m ≤ length s → tested m room ≡ m)
    → take (tested (length (take (e - i) (drop i s))) room) (take (e - i) (drop i s)) ≡ take (e - i) (drop i s)
counted tested s i e room all =
    let part = take (e - i) (drop i s) in
    let size : length part ≤ length s = omega (arith, length-take (e - i) (drop i s), length-drop i s) in
    rw (all (length part) size) (take-length part)

module _ {whole first r : Bool} (rest : Bool) (step : whole ≡ first && rest) (is : r ≡ first) where
  stops : r ≡ false → whole ≡ false
  stops e = rw (← is, e) at step

  goes_on : r ≡ true → whole ≡ rest
  goes_on e = rw (← is, e) at step

pub loop-i-init : goal.loop-i-init
loop-i-init g c = record { rest = rw c.begin-state.ensures refl; room = refl }

pub returns-then-not-is_clear : goal.returns-then-not-is_clear
returns-then-not-is_clear g c =
    let rule = g.met.R.ValueRule in
    let s = c.args.value.now in
    let room = length c.loop-i.scratch in
    let can : g.R.ValueRule.can_test (length s) room = rw c.loop-i.invariant.room c.requires in
    let all = λ (m : ℕ) (h : m ≤ length s). rule.tested_all m room (rule.can_less m (length s) room h can) in
    let part = counted g.R.ValueRule.tested s c.loop-i.i c.part_at-kind.result.end room all in
    let took = c.part_at-kind.ensures.what c.loop-i-test.true in
    let is = (rw part at c.is_clear.ensures.is) (rule.fits_part _ _ _ _ _ c.loop-i-test.true took) in
    let step = rule.clear_step _ _ _ _ _ _ c.loop-i-test.true took refl in
    record {
      is = sym (c.loop-i.invariant.rest ∙ stops _ step is c.if-not-is_clear.true);
      kept = c.is_clear.ensures.kept ∙ c.loop-i.invariant.room;
    }

pub loop-i-smaller : goal.loop-i-smaller
loop-i-smaller g c = omega (arith, c.part_at-kind.ensures.some, c.passed_end-i.ensures.is)

pub loop-i-preserved : goal.loop-i-preserved
loop-i-preserved g c =
    let rule = g.met.R.ValueRule in
    let s = c.args.value.now in
    let room = length c.loop-i.scratch in
    let can : g.R.ValueRule.can_test (length s) room = rw c.loop-i.invariant.room c.requires in
    let all = λ (m : ℕ) (h : m ≤ length s). rule.tested_all m room (rule.can_less m (length s) room h can) in
    let part = counted g.R.ValueRule.tested s c.loop-i.i c.part_at-kind.result.end room all in
    let took = c.part_at-kind.ensures.what c.loop-i-test.true in
    let is = (rw part at c.is_clear.ensures.is) (rule.fits_part _ _ _ _ _ c.loop-i-test.true took) in
    let step = rule.clear_step _ _ _ _ _ _ c.loop-i-test.true took c.passed_end-i.ensures.is in
    record {
      rest = rw (c.next_state-state.ensures, ← goes_on _ step is c.if-not-is_clear.false) c.loop-i.invariant.rest;
      room = c.is_clear.ensures.kept ∙ c.loop-i.invariant.room;
    }

pub returns : goal.returns
returns g c = record { is = sym (c.loop-i.invariant.rest ∙ g.met.R.ValueRule.clear_none _ _ _ c.loop-i-test.false); kept = c.loop-i.invariant.room }
