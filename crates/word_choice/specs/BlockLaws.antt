-- What the first bytes of a text tell: how many of them are of a kind, and where characters start.
use Rattle.std.specs.Prelude.{◌≡◌, Bool, true, false, not, cond, ◌&&◌, ◌||◌, ℕ, zero, suc, ◌+◌, ◌-◌, ◌*◌, ◌≤◌, ◌<◌, T, leb, ltb, eqb, length, take, drop, get_or}
use Rattle.std.proofs.Math.Path.{refl}
use Rattle.std.proofs.Common.{ap, ◌∙◌, ⊎_elim, add-one, leb→le, eqb→eq, length-append, take-suc, take-add, take_all}
use mathlib.Core.List.{List, [], ◌∷◌, ◌++◌}
use native.Mathlib.Omega.{arith}
use Rattle.std.proofs.Math.Facts.{or_yes, no_eqb, eqb_no}
use Rattle.std.specs.Int.{from_bool}
use Rattle.lists.specs.Byte.{within}
use Rattle.lists.specs.ListsLaws.{by_test, yes_true, true_yes, no_false}
use Rattle.lists.specs.ByteLaws.{within_high}
use Rattle.utf8.specs.Utf8.{continues}
use Rattle.word_spelling.specs.Spelling.{bare, spell_byte, spell}
use Rattle.word_spelling.specs.Cost.{byte_cost, cost}
use Rattle.word_choice.specs.Block.{bit, count, plain, other}
use Rattle.word_spelling.specs.SpellingLaws.{spell_bare, spell_space, spell_hex, spell_byte_some, length_spell_byte, length_spell_append}

-- ---- bytes counted

-- a bit as code turns a test into a number
pub from_bit : (t : Bool) → from_bool t ≡ bit t
from_bit true = refl
from_bit false = refl

pub bit_le : (t : Bool) → bit t ≤ 1
bit_le true = omega arith
bit_le false = omega arith

module _ (f : ℕ → Bool) where
  count_append : (a b : List ℕ) → count f (a ++ b) ≡ count f a + count f b
  unfolding count
  count_append [] b = omega arith
  count_append (x ∷ a) b = omega (arith, count_append a b)

  count_one : (x : ℕ) → count f (x ∷ []) ≡ bit (f x)
  unfolding count
  count_one x = omega arith

  pub count_none : (s : List ℕ) → 0 ≡ count f (take 0 s)
  unfolding count
  count_none s = refl

  -- one more byte
  pub count_next : (s : List ℕ) (k n m : ℕ) → k < length s → n ≡ count f (take k s) → m ≡ bit (f (get_or s k 0)) → n + m ≡ count f (take (k + 1) s)
  count_next s k n m h e d =
      rw (add-one k, take-suc s k 0 h) (omega (arith, e, d, count_append (take k s) (get_or s k 0 ∷ []), count_one (get_or s k 0)))

  -- all of a text
  pub count_all : (s : List ℕ) (k n : ℕ) → length s ≤ k → n ≡ count f (take k s) → n ≡ count f s
  count_all s k n h e = e ∙ ap (count f) (take_all k s h)

  -- all of them
  pub count_done : (s : List ℕ) (k n whole : ℕ) → k ≡ whole → n ≡ count f (take k s) → n ≡ count f (take whole s)
  count_done s k n whole h e = rw (← h) e

  -- no more in fewer bytes
  pub count_front : (s : List ℕ) (k n : ℕ) → k ≤ n → count f (take k s) ≤ count f (take n s)
  count_front s k n h =
      let whole : k + (n - k) ≡ n = omega arith in
      rw (← whole, take-add) (omega (arith, count_append (take k s) (take (n - k) (drop k s))))

-- ---- what bytes take in Q

-- a byte that takes three characters
abbrev pub dear : ℕ → Bool
dear b = not (bare b || eqb b 32)

single_cost : (b : ℕ) → T (bare b || eqb b 32) → byte_cost b ≡ 1
single_cost b t = ⊎_elim (λ u. ap length (spell_bare b u)) (λ u. rw (eqb→eq b 32 u) (ap length spell_space)) (or_yes (bare b) (eqb b 32) t)

other_cost : (b : ℕ) → T (not (bare b || eqb b 32)) → byte_cost b ≡ 3
other_cost b t = let p = neither (bare b) (eqb b 32) t in ap length (spell_hex b p.0 p.1)
  where
    neither : (x y : Bool) → T (not (x || y)) → T (not x) × T (not y)
    neither true y t = absurd t
    neither false y t = (tt, t)

plain_single : (b : ℕ) → T (plain b) → T (bare b || eqb b 32)
unfolding plain bare
plain_single b t = go (within 65 90 b) (within 97 122 b) (within 48 57 b) _ _ _ _ _ (eqb b 32) t
  where
    or_right : (x y : Bool) → T y → T (x || y)
    or_right true y t = tt
    or_right false y t = t

    go : (p q r v w x y z s : Bool) → T (p || q || r || s) → T (p || q || r || v || w || x || y || z || s)
    go true q r v w x y z s t = tt
    go false true r v w x y z s t = tt
    go false false true v w x y z s t = tt
    go false false false v w x y z s t = or_right (v || w || x || y || z) s t

plain_cost : (b : ℕ) → byte_cost b ≤ 1 + 2 * bit (other b)
plain_cost b =
    by_test (plain b) (λ t. rw (yes_true (plain b) t) (omega (arith, single_cost b (plain_single b t))))
    (λ t. rw (no_false (plain b) t) (omega (arith, length_spell_byte b)))

-- a byte that is not ASCII does not stand for itself
over_within : (lo hi b : ℕ) → hi < b → within lo hi b ≡ false
over_within lo hi b h = no_false (within lo hi b) (by_test (within lo hi b) (λ t. absurd (omega (arith, within_high lo hi b t))) (λ t. t))

over_eqb : (n b : ℕ) → n < b → eqb b n ≡ false
over_eqb n b h = no_false (eqb b n) (no_eqb {a = b} {b = n} (λ e. omega arith))

high_other : (b : ℕ) → 128 ≤ b → T (not (bare b || eqb b 32))
unfolding bare
high_other b h =
    rw (
      over_within 65 90 b (omega arith),
      over_within 97 122 b (omega arith),
      over_within 48 57 b (omega arith),
      over_eqb 33 b (omega arith),
      over_eqb 42 b (omega arith),
      over_eqb 43 b (omega arith),
      over_eqb 45 b (omega arith),
      over_eqb 47 b (omega arith),
      over_eqb 32 b (omega arith),
    ) tt

high_cost : (b : ℕ) → 1 + 2 * bit (leb 128 b) ≤ byte_cost b
high_cost b =
    by_test (leb 128 b) (λ t. rw (yes_true (leb 128 b) t) (omega (arith, other_cost b (high_other b (leb→le 128 b t)))))
    (λ t. rw (no_false (leb 128 b) t) (omega (arith, spell_byte_some b)))

cost_cons : (b : ℕ) (l : List ℕ) → cost (b ∷ l) ≡ byte_cost b + cost l
unfolding spell
cost_cons b l = length-append (spell_byte b) (spell l)

dear_cost : (b : ℕ) → byte_cost b ≡ 1 + 2 * bit (dear b)
dear_cost b =
    by_test (bare b || eqb b 32) (λ t. rw (yes_true (bare b || eqb b 32) t) (omega (arith, single_cost b t)))
    (λ t. rw (no_false (bare b || eqb b 32) t) (omega (arith, other_cost b t)))

-- 3 for each byte that takes three
pub escaped_cost : (l : List ℕ) → cost l ≡ length l + 2 * count dear l
unfolding count spell
escaped_cost [] = omega arith
escaped_cost (b ∷ l) = omega (arith, cost_cons b l, dear_cost b, escaped_cost l)

-- at most 3 for each byte that is neither a letter, a digit nor a space
pub others_cost : (l : List ℕ) → cost l ≤ length l + 2 * count other l
unfolding count spell
others_cost [] = omega arith
others_cost (b ∷ l) = omega (arith, cost_cons b l, plain_cost b, others_cost l)

-- at least 3 for each byte that is not ASCII
pub highs_cost : (l : List ℕ) → length l + 2 * count (λ b. leb 128 b) l ≤ cost l
unfolding count spell
highs_cost [] = omega arith
highs_cost (b ∷ l) = omega (arith, cost_cons b l, high_cost b, highs_cost l)

-- no more for fewer bytes
pub cost_front : (s : List ℕ) (k n : ℕ) → k ≤ n → cost (take k s) ≤ cost (take n s)
cost_front s k n h =
    let whole : k + (n - k) ≡ n = omega arith in
    rw (← whole, take-add) (omega (arith, length_spell_append (take k s) (take (n - k) (drop k s))))

-- ---- where characters start

-- A byte c after a and b continues a character just where one of them asks for it, b by a character of two bytes or more, a by one of three,
-- and starts none of more than three bytes.
abbrev pub placed : ℕ → ℕ → ℕ → Bool
placed a b c = ((leb 192 b || leb 224 a) && continues c || not (leb 192 b || leb 224 a) && not (continues c)) && ltb c 240

-- the first 50 bytes are so, after two that ask for nothing
pub record Regular (s : List ℕ) : Type 0 where
  pub each : (j : ℕ) → j < 50 → T (placed (get_or (0 ∷ 0 ∷ s) j 0) (get_or (0 ∷ s) j 0) (get_or s j 0))

-- what a loop has found of the first of them
pub record Placed (s : List ℕ) (n : ℕ) (ok : Bool) : Type 0 where
  pub each : ok ≡ true → (j : ℕ) → j < n → T (placed (get_or (0 ∷ 0 ∷ s) j 0) (get_or (0 ∷ s) j 0) (get_or s j 0))

both_true : (a b : Bool) → a && b ≡ true → (a ≡ true) × (b ≡ true)
both_true true b e = (refl, e)
both_true false b e = let z : ◌≡◌ {A = ℕ} 0 1 = cc in absurd (omega arith)

pub placed_start : (s : List ℕ) {t u : Bool} → t ≡ placed 0 0 (get_or s 0 0) → not t ≡ false → u ≡ placed 0 (get_or s 0 0) (get_or s 1 0) → not u ≡ false
    → Placed s 2 true
placed_start s {t} {u} e h d k = record { each = λ z j l. go j l }
  where
    yes : (b : Bool) → not b ≡ false → T b
    yes true e = tt
    yes false e = let z : ◌≡◌ {A = ℕ} 0 1 = cc in absurd (omega arith)

    go : (j : ℕ) → j < 2 → T (placed (get_or (0 ∷ 0 ∷ s) j 0) (get_or (0 ∷ s) j 0) (get_or s j 0))
    go zero l = rw e at (yes t h)
    go (suc zero) l = rw d at (yes u k)
    go (suc (suc j)) l = absurd (omega arith)

-- a test that failed tells nothing
pub untrue : {P : Type 0} → false ≡ true → P
untrue e = let z : ◌≡◌ {A = ℕ} 0 1 = cc in absurd (omega arith)

pub placed_next : {s : List ℕ} {ok : Bool} (k : ℕ) → 2 ≤ k → Placed s k ok
    → Placed s (k + 1) (ok && placed (get_or s (k - 2) 0) (get_or s (k - 1) 0) (get_or s k 0))
placed_next {s} {ok} k two p = record {
  each = λ e j h. let q = both_true ok (placed (get_or s (k - 2) 0) (get_or s (k - 1) 0) (get_or s k 0)) e in
      by_test (eqb j k) (λ t. rw (eqb→eq j k t) (last k two (true_yes _ q.1))) (λ t. p.each q.0 j (omega (arith, eqb_no {a = j} {b = k} t)));
}
  where
    last : (n : ℕ) → 2 ≤ n → T (placed (get_or s (n - 2) 0) (get_or s (n - 1) 0) (get_or s n 0)) → T (placed (get_or (0 ∷ 0 ∷ s) n 0) (get_or (0 ∷ s) n 0) (get_or s n 0))
    last zero h t = absurd (omega arith)
    last (suc zero) h t = absurd (omega arith)
    last (suc (suc n)) h t =
        let first : suc (suc n) - 2 ≡ n = omega arith in
        let second : suc (suc n) - 1 ≡ suc n = omega arith in
        rw (first, second) at t

pub placed_end : {s : List ℕ} {ok : Bool} (n : ℕ) → 50 ≤ n → Placed s n ok → ok ≡ true → Regular s
placed_end n h p e = record { each = λ j k. p.each e j (omega arith) }

-- the start of the character in which the byte at a place stands, where it has at most three bytes
abbrev pub step_back : List ℕ → ℕ → ℕ
step_back s n = cond (not (continues (get_or s n 0))) n (cond (not (continues (get_or s (n - 1) 0))) (n - 1) (n - 2))

-- by the tests that code makes, of the byte at the place and of the one before it
pub back_steps : (s : List ℕ) (n a b : ℕ) (t u : Bool) → 2 ≤ n → t ≡ continues (get_or s n 0) → u ≡ continues (get_or s (n - 1) 0) → a ≡ bit t → b ≡ bit (t && u)
    → n - a - b ≡ step_back s n
back_steps s n a b t u h e d p q = rw (← e, ← d, p, q) (go t u)
  where
    go : (t u : Bool) → n - bit t - bit (t && u) ≡ cond (not t) n (cond (not u) (n - 1) (n - 2))
    go true true = omega arith
    go true false = omega arith
    go false u = omega arith
