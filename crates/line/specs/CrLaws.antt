-- Laws of the CRs of a block: how many there are, and the place of the only one, as a loop sums them.
use Rattle.std.specs.Prelude.{◌≡◌, refl, Bool, true, false, cond, List, ℕ, zero, suc, ◌+◌, ◌-◌, ◌≤◌, ◌<◌, ◌%◌, eqb, length, drop, get_or}
use Rattle.std.specs.Int.{from_bool}
use Rattle.std.proofs.Common.{ap, sym, ◌∙◌, add-zero, not-suc-le-zero, arith, eqb→eq}
use Rattle.std.proofs.Math.Facts.{eqb_no}
use Rattle.lists.specs.ListsLaws.{by_test, yes_true, true_yes, no_false, cond_yes, cond_no}
use Rattle.lists.specs.RunLaws.{run_step, run_stop, run_end}
use Rattle.line.specs.Line.{not_cr, cr_run}

abbrev pub is_cr : ℕ → Bool
is_cr b = eqb b 13

-- n CRs stand among the j bytes from `at` on; p is the place of the only one
pub record Counted (s : List ℕ) (at j n p : ℕ) : Type 0 where
  pub few : n ≤ j
  pub start : n ≡ 0 → p ≡ 0
  pub none : n ≡ 0 → (k : ℕ) → k < j → is_cr (get_or s (at + k) 0) ≡ false
  pub inside : n ≡ 1 → p < j
  pub here : n ≡ 1 → is_cr (get_or s (at + p) 0) ≡ true
  pub only : n ≡ 1 → (k : ℕ) → k < j → (k ≡ p → ⊥) → is_cr (get_or s (at + k) 0) ≡ false

pub counted_none : {s : List ℕ} {at : ℕ} → Counted s at 0 0 0
counted_none = record {
  few = omega arith;
  start = λ e. refl;
  none = λ e k h. absurd (not-suc-le-zero h);
  inside = λ e. absurd (omega arith);
  here = λ e. absurd (omega arith);
  only = λ e k h. absurd (not-suc-le-zero h);
}

module _ {s : List ℕ} {at j n p : ℕ} (c : Counted s at j n p) (small : j < 64) where
  abbrev b : ℕ
  b = get_or s (at + j) 0

  counted_other : is_cr b ≡ false → Counted s at (j + 1) n p
  counted_other f = record {
    few = omega (arith, c.few);
    start = c.start;
    none = λ e k h. by_test (eqb k j) (λ t. rw (eqb→eq k j t) f) (λ t. c.none e k (omega (arith, eqb_no {a = k} {b = j} t)));
    inside = λ e. omega (arith, c.inside e);
    here = c.here;
    only = λ e k h z. by_test (eqb k j) (λ t. rw (eqb→eq k j t) f) (λ t. c.only e k (omega (arith, eqb_no {a = k} {b = j} t)) z);
  }

  counted_cr : is_cr b ≡ true → (q : ℕ) → (n ≡ 0 → q ≡ j) → Counted s at (j + 1) (n + 1) q
  counted_cr f q g = record {
    few = omega (arith, c.few);
    start = λ e. absurd (omega arith);
    none = λ e. absurd (omega arith);
    inside = λ e. let z : n ≡ 0 = omega arith in omega (arith, g z);
    here = λ e. let z : n ≡ 0 = omega arith in rw (g z) f;
    only = λ e k h z. let o : n ≡ 0 = omega arith in c.none o k (omega (arith, g o, z));
  }

  -- the place is summed modulo 256
  pub counted_more : (x y q : ℕ) → x ≡ cond (is_cr b) 1 0 → y ≡ cond (is_cr b) j 0 → q ≡ (p + y) % 256 → Counted s at (j + 1) (n + x) q
  counted_more x y q e f g =
      by_test (is_cr b)
      (λ t.
      let one : x ≡ 1 = e ∙ cond_yes (is_cr b) 1 0 t in
      let place : y ≡ j = f ∙ cond_yes (is_cr b) j 0 t in
      rw one (counted_cr (yes_true (is_cr b) t) q (λ z. omega (arith, g, place, c.start z))))
      (λ t.
      let none : x ≡ 0 = e ∙ cond_no (is_cr b) 1 0 t in
      let place : y ≡ 0 = f ∙ cond_no (is_cr b) j 0 t in
      rw (none, add-zero) (counted_same (no_false (is_cr b) t) (rw place at g)))
    where
      counted_same : is_cr b ≡ false → q ≡ (p + 0) % 256 → Counted s at (j + 1) n q
      counted_same k l =
          let d = counted_other k in
          record {
            few = d.few;
            start = λ z. omega (arith, d.start z, l);
            none = d.none;
            inside = λ z. omega (arith, d.inside z, l);
            here = λ z. let i : q ≡ p = omega (arith, d.inside z, l) in rw i (d.here z);
            only = λ z. let i : q ≡ p = omega (arith, d.inside z, l) in rw i (d.only z);
          }

-- as code makes it
pub counted_by : {s : List ℕ} {at j n p : ℕ} → Counted s at j n p → j < 64 → (w x y q : ℕ) → w ≡ j → x ≡ cond (is_cr (get_or s (at + w) 0)) 1 0
    → y ≡ cond (is_cr (get_or s (at + w) 0)) j 0 → q ≡ (p + y) % 256 → Counted s at (j + 1) (n + x) q
counted_by {s} {at} c h w x y q i e f g = counted_more c h x y q (rw i at e) (rw i at f) g

pub counted_all : {s : List ℕ} {at j n p : ℕ} → Counted s at j n p → j ≡ 64 → Counted s at 64 n p
counted_all c e = rw e at c

-- a `bool` as a number
pub one_of : (t : Bool) → from_bool t ≡ cond t 1 0
one_of true = refl
one_of false = refl

pub one_small : (t : Bool) (x : ℕ) → x ≡ cond t 1 0 → x ≤ 1
one_small true x e = omega arith
one_small false x e = omega arith

-- ---- what code answers

-- where the next CR is searched at i: it stands at `end`, or there is none up to `next`; the search goes on at `next`
pub record CrStep (s : List ℕ) (i : ℕ) (found : Bool) (end next : ℕ) : Type 0 where
  pub cr : found ≡ true → end ≡ i + cr_run (drop i s)
  pub after : found ≡ true → end < length s → end + 1 + cr_run (drop (end + 1) s) ≡ next + cr_run (drop next s)
  pub skip : found ≡ false → i + cr_run (drop i s) ≡ next + cr_run (drop next s)
  pub up : i ≤ next
  pub more : found ≡ false → (i < next) × (i < length s)

-- bytes without a CR are passed over
run_over : (s : List ℕ) (i n : ℕ) → i + n ≤ length s → ((k : ℕ) → k < n → is_cr (get_or s (i + k) 0) ≡ false) → i + cr_run (drop i s) ≡ i + n + cr_run (drop (i + n) s)
run_over s i zero h f = rw add-zero
run_over s i (suc n) h f =
    let next : i + n + 1 ≡ i + suc n = omega arith in
    let here : not_cr (get_or s (i + n) 0) ≡ true = rw (f n (omega arith)) in
    let step : i + n + cr_run (drop (i + n) s) ≡ i + n + 1 + cr_run (drop (i + n + 1) s) = run_step not_cr s (i + n) (omega arith) here in
    run_over s i n (omega arith) (λ k l. f k (omega arith)) ∙ step ∙ ap (λ (m : ℕ). m + cr_run (drop m s)) next

no : {X : Type 0} → true ≡ false → X
no e = absurd (true_yes false (sym e))

module _ (s : List ℕ) (i : ℕ) where
  pub step_end : length s ≤ i → CrStep s i true i i
  step_end h = record {
    cr = λ e. sym (run_end not_cr s i h);
    after = λ e l. absurd (omega arith);
    skip = λ e. no e;
    up = omega arith;
    more = λ e. no e;
  }

  pub step_first : (e : ℕ) → e ≡ i + cr_run (drop i s) → CrStep s i true e (e + 1)
  step_first e k = record {
    cr = λ t. k;
    after = λ t l. refl;
    skip = λ t. no t;
    up = omega arith;
    more = λ t. no t;
  }

  pub step_last : (e : ℕ) → e ≡ i + cr_run (drop i s) → length s ≤ e → CrStep s i true e e
  step_last e k l = record {
    cr = λ t. k;
    after = λ t m. absurd (omega arith);
    skip = λ t. no t;
    up = omega arith;
    more = λ t. no t;
  }

  module _ (n p : ℕ) (c : Counted s i 64 n p) (fits : i + 64 ≤ length s) where
    pub step_none : n ≡ 0 → CrStep s i false i (i + 64)
    step_none e = record {
      cr = λ t. no (sym t);
      after = λ t. no (sym t);
      skip = λ t. run_over s i 64 fits (c.none e);
      up = omega arith;
      more = λ t. (omega arith, omega arith);
    }

    pub step_one : n ≡ 1 → CrStep s i true (i + p) (i + 64)
    step_one e =
        let small : p < 64 = c.inside e in
        let before : i + cr_run (drop i s) ≡ i + p + cr_run (drop (i + p) s) = run_over s i p (omega arith) (λ k l. c.only e k (omega arith) (λ z. omega (arith, z))) in
        let here : i + p + cr_run (drop (i + p) s) ≡ i + p = run_stop not_cr s (i + p) (omega arith) (rw (c.here e)) in
        let size : i + p + 1 + (63 - p) ≡ i + 64 = omega arith in
        record {
          cr = λ t. sym (before ∙ here);
          after = λ t l. rw size at (run_over s (i + p + 1) (63 - p) (omega arith)
              (λ k m. let j : i + (p + 1 + k) ≡ i + p + 1 + k = omega arith in rw j at (c.only e (p + 1 + k) (omega arith) (λ z. omega (arith, z)))));
          skip = λ t. no t;
          up = omega arith;
          more = λ t. no t;
        }
