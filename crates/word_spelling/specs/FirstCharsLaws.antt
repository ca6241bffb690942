-- A byte's spelling and what it takes, by its first character and by the table of first characters.
use Rattle.std.proofs.Math.Path.{◌≡◌, refl, sym, ap}
use Rattle.std.proofs.Common.{◌∙◌, add-zero, add-suc, suc-add, zero-add, le_of_suc-le-suc, not-suc-le-zero, eqb→eq, drop_of_length-le}
use Rattle.std.specs.Prelude.{List, [], ◌∷◌, eqb, ltb, length, take, drop, get_or}
use Prim.Native.Nat.{ℕ, zero, suc, ◌+◌, ◌-◌, ◌*◌, ◌≤◌, ◌<◌}
use Rattle.std.proofs.Math.Numerals.{add-one}
use native.Mathlib.Omega.{arith}
use Rattle.std.proofs.Math.ListN.{length-append}
use Rattle.std.proofs.Math.Seq.{drop-cons}
use Rattle.std.proofs.Math.Facts.{eqb_no, ltb_yes, ltb_no}
use Rattle.lists.specs.ListsLaws.{by_test, cond_yes, cond_no}
use Rattle.word_spelling.specs.Spelling.{bare, escape, spell_byte, spell}
use Rattle.word_spelling.specs.Cost.{byte_cost, cost}
use Rattle.word_spelling.specs.SpellingLaws.{spell_bare, spell_space, spell_hex}
use Rattle.word_spelling.specs.FirstChars.{first_char, from, first_chars, cost_in, costs_in}

module _ (b : ℕ) where
  pub spelt_escape : first_char b ≡ 61 → spell_byte b ≡ escape b
  unfolding first_char bare
  spelt_escape e =
      by_test (bare b)
      (λ t. let same : b ≡ 61 = sym (cond_yes (bare b) b _ t) ∙ e in absurd (rw same at t))
      (λ t. by_test (eqb b 32)
      (λ u. let same : ◌≡◌ {A = ℕ} 95 61 = sym (cond_no (bare b) b _ t ∙ cond_yes (eqb b 32) 95 61 u) ∙ e in absurd (omega arith))
      (λ u. spell_hex b t u))

  pub spelt_alone : (first_char b ≡ 61 → ⊥) → spell_byte b ≡ first_char b ∷ []
  unfolding first_char bare
  spelt_alone n =
      by_test (bare b)
      (λ t. spell_bare b t ∙ ap (λ (c : ℕ). c ∷ []) (sym (cond_yes (bare b) b _ t)))
      (λ t. by_test (eqb b 32)
      (λ u. rw (eqb→eq b 32 u, spell_space) refl)
      (λ u. absurd (n (cond_no (bare b) b _ t ∙ cond_no (eqb b 32) 95 61 u))))

  pub cost_escape : first_char b ≡ 61 → byte_cost b ≡ 3
  cost_escape e = ap length (spelt_escape e)

  pub cost_alone : (first_char b ≡ 61 → ⊥) → byte_cost b ≡ 1
  cost_alone n = ap length (spelt_alone n)

-- ---- the table

pub from_at : (f : ℕ → ℕ) (k n j : ℕ) → j < n → get_or (from f k n) j 0 ≡ f (k + j)
unfolding from
from_at f k zero j h = absurd (not-suc-le-zero h)
from_at f k (suc n) zero h = ap f (sym (add-zero k))
from_at f k (suc n) (suc j) h = from_at f (suc k) n j (le_of_suc-le-suc h) ∙ ap f (suc-add k j ∙ sym (add-suc k j))

first_chars_at : (b : ℕ) → b < 256 → get_or first_chars b 0 ≡ first_char b
unfolding first_chars
first_chars_at b h = from_at first_char 0 256 b h ∙ ap first_char (zero-add b)

-- by the table
pub first_in : (b : ℕ) {first : List ℕ} {r : ℕ} → first ≡ first_chars → b < 256 → r ≡ get_or first b 0 → r ≡ first_char b
first_in b {first} e h k = k ∙ rw e (first_chars_at b h)

pub cost_in_lem : (b : ℕ) {first : List ℕ} {m : ℕ} → first ≡ first_chars → b < 256 → m ≡ cost_in first b → m ≡ byte_cost b
unfolding cost_in
cost_in_lem b {first} e h k =
    let here : get_or first b 0 ≡ first_char b = first_in b e h refl in
    k ∙ rw here (
    by_test (eqb (first_char b) 61)
    (λ t. cond_yes (eqb (first_char b) 61) 3 1 t ∙ sym (cost_escape b (eqb→eq (first_char b) 61 t)))
    (λ t. cond_no (eqb (first_char b) 61) 3 1 t ∙ sym (cost_alone b (eqb_no {a = first_char b} {b = 61} t))))

-- the bytes of a text from a place on
module _ {first : List ℕ} (e : first ≡ first_chars) (s : List ℕ) (bytes : (j : ℕ) → get_or s j 0 < 256) where
  pub costs_in_lem : (n i : ℕ) → costs_in first (take n (drop i s)) ≡ cost (take n (drop i s))
  unfolding costs_in spell
  costs_in_lem zero i = refl
  costs_in_lem (suc n) i =
      by_test (ltb i (length s))
      (λ t. rw (drop-cons s i 0 (ltb_yes t))
      (omega (arith, cost_in_lem (get_or s i 0) e (bytes i) refl, costs_in_lem n (suc i), length-append (spell_byte (get_or s i 0)) (spell (take n (drop (suc i) s))))))
      (λ t. rw (drop_of_length-le s {i = i} (ltb_no t)) refl)

-- ---- the bytes from a place on, as code adds them up

module _ (first s : List ℕ) (i : ℕ) where
  pub costs_next : (e : ℕ) → i < e → i < length s → costs_in first (take (e - i) (drop i s)) ≡ cost_in first (get_or s i 0) + costs_in first (take (e - (i + 1)) (drop (i + 1) s))
  unfolding costs_in
  costs_next e h k = let more : e - i ≡ suc (e - (i + 1)) = omega arith in rw (more, drop-cons s i 0 k, ← add-one i)

  pub costs_end : (e : ℕ) → e ≤ i → costs_in first (take (e - i) (drop i s)) ≡ 0
  unfolding costs_in
  costs_end e h = let none : e - i ≡ 0 = omega arith in rw none

pub costs_le : (first bytes : List ℕ) → costs_in first bytes ≤ 3 * length bytes
unfolding costs_in cost_in
costs_le first [] = omega arith
costs_le first (b ∷ bytes) =
    by_test (eqb (get_or first b 0) 61)
    (λ t. omega (arith, cond_yes {X = ℕ} (eqb (get_or first b 0) 61) 3 1 t, costs_le first bytes))
    (λ t. omega (arith, cond_no {X = ℕ} (eqb (get_or first b 0) 61) 3 1 t, costs_le first bytes))
