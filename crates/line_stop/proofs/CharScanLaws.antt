-- Laws of UTF-8 by one byte at a time: each byte leads to what is left of a UTF-8 text, and a character lacks as many bytes as are told.
use Rattle.std.specs.Prelude.{◌≡◌, refl, Bool, true, false, not, ◌&&◌, ◌||◌, List, [], ◌∷◌, T, leb, eqb, length, take, drop}
use Rattle.std.proofs.Common.{sym, ◌∙◌, lt-ltb, le-ltb}
use Rattle.std.proofs.Math.Bool.{and-false}
use Prim.Native.Nat.{ℕ, zero, suc, pred, ◌-◌, ◌≤◌, ◌<◌}
use native.Mathlib.Omega.{arith}
use Rattle.std.specs.Int.Count.{count_leading_zeros}
use Rattle.std.proofs.Math.Dec.{eqb-suc-suc, eqb-suc-zero}
use Rattle.std.proofs.Math.Facts.{leb_yes, yes_leb}
use Rattle.std.proofs.lemmas.Bool.{lt-leb}
use Rattle.lists.specs.Lists.{all}
use Rattle.lists.specs.ListsLaws.{by_test, cond_has, yes_true, no_false}
use Rattle.lists.specs.Byte.{within, is_ascii}
use Rattle.lists.specs.ByteLaws.{below, implies, within_low, within_high}
use Rattle.utf8.specs.Utf8.{char_len, continues, second_low, second_high, is_char, utf8}
use Rattle.utf8.specs.Utf8Laws.{char_len_some, chars_nil, chars_cons, utf8_right, utf8_char, second_low_lem}
use Rattle.line_stop.specs.declared.Begun.{Begun}
use Rattle.line_stop.specs.CharScan.{begun, between, nowhere, lead, tail_count, step_by, char_step, is_zero, live_by, char_live}

-- the texts that complete a state: the lacking bytes, and UTF-8
unfoldable pub tails : ℕ → ℕ → ℕ → List ℕ → Bool
tails zero lo hi l = utf8 l
tails (suc k) lo hi [] = false
tails (suc k) lo hi (b ∷ l) = within lo hi b && tails k 128 191 l

abbrev pub char_rest : Begun → List ℕ → Bool
char_rest u l = tails u.lack u.low u.high l

-- ---- a first byte past ASCII

shuffle : (a b c d : Bool) → (a && (b && c)) && d ≡ b && ((a && c) && d)
shuffle true true c d = refl
shuffle true false c d = refl
shuffle false true c d = refl
shuffle false false c d = refl

tails_are : (k : ℕ) (l : List ℕ) → (eqb k (length (take k l)) && all continues (take k l)) && utf8 (drop k l) ≡ tails k 128 191 l
unfolding tails
tails_are zero l = refl
tails_are (suc k) [] = rw (eqb-suc-zero k)
tails_are (suc k) (b ∷ l) =
    rw (eqb-suc-suc k (length (take k l)), ← tails_are k l) (shuffle (eqb k (length (take k l))) (continues b) (all continues (take k l)) (utf8 (drop k l)))

regroup : (e w a u : Bool) → ((e && w) && a) && u ≡ w && ((e && a) && u)
regroup true true a u = refl
regroup true false a u = refl
regroup false true a u = refl
regroup false false a u = refl

utf8_cons : (b : ℕ) (l : List ℕ) → utf8 (b ∷ l) ≡ is_char (take (char_len b) (b ∷ l)) && utf8 (drop (char_len b) (b ∷ l))
unfolding utf8
utf8_cons b l = rw (chars_cons b l)

by_lead : (b k : ℕ) (l : List ℕ) → T (within 194 244 b) → char_len b ≡ suc (suc k) → utf8 (b ∷ l) ≡ tails (suc k) (second_low b) (second_high b) l
unfolding tails is_char
by_lead b k [] t e = utf8_cons b [] ∙ rw (e, le-ltb b 128 (omega (arith, within_low 194 244 b t)))
by_lead b k (c ∷ l) t e =
    utf8_cons b (c ∷ l)
    ∙ rw (e, e, yes_true (within 194 244 b) t, eqb-suc-suc (suc k) (suc (length (take k l))), eqb-suc-suc k (length (take k l)), ← tails_are k l)
    (regroup (eqb k (length (take k l))) (within (second_low b) (second_high b) c) (all continues (take k l)) (utf8 (drop k l)))

-- ---- each byte leads to what is left of the text

nowhere_rest : (l : List ℕ) → char_rest nowhere l ≡ false
unfolding tails
nowhere_rest [] = refl
nowhere_rest (b ∷ l) =
    by_test (leb 255 b) (λ t. rw (lt-leb b 0 (omega (arith, leb_yes {a = 255} {b = b} t)), and-false (leb 255 b))) (λ t. rw (no_false (leb 255 b) t))

lead_two : (b : ℕ) → T (within 194 244 b) → 2 ≤ char_len b
unfolding char_len count_leading_zeros
lead_two b t =
    let test : ℕ → Bool = λ k. not (within 194 244 k) || leb 2 (char_len k) in
    leb_yes (implies (within 194 244 b) (leb 2 (char_len b)) (below test 245 tt b (omega (arith, within_high 194 244 b t))) t)

bad_first : (b : ℕ) (x : List ℕ) → T (not (is_ascii b)) → T (not (within 194 244 b)) → is_char (b ∷ x) ≡ false
unfolding is_char
bad_first b [] t u = no_false (is_ascii b) t
bad_first b (c ∷ x) t u = rw (no_false (within 194 244 b) u)

pub tail_count_lem : (b : ℕ) → tail_count b ≡ pred (char_len b)
unfolding tail_count
tail_count_lem b = by_pred (char_len b)
  where
    by_pred : (n : ℕ) → n - 1 ≡ pred n
    by_pred zero = refl
    by_pred (suc n) = omega arith

first_byte : (b : ℕ) (l : List ℕ) → utf8 (b ∷ l) ≡ char_rest (lead b) l
unfolding lead tails is_char
first_byte b l =
    by_test (is_ascii b)
    (λ t. rw (yes_true (is_ascii b) t) (utf8_right (b ∷ []) l (utf8_char (b ∷ []) (ascii t))))
    (λ t.
    by_test (within 194 244 b)
    (λ u. rw (no_false (is_ascii b) t, yes_true (within 194 244 b) u) (go (char_len b) refl (lead_two b u) u))
    (λ u. rw (no_false (is_ascii b) t, no_false (within 194 244 b) u, nowhere_rest l) (none t u)))
  where
    ascii : T (is_ascii b) → T (is_char (b ∷ []))
    ascii t = t

    go : (n : ℕ) → char_len b ≡ n → 2 ≤ n → T (within 194 244 b) → utf8 (b ∷ l) ≡ tails (pred (char_len b)) (second_low b) (second_high b) l
    go zero e h u = absurd (omega arith)
    go (suc zero) e h u = absurd (omega arith)
    go (suc (suc k)) e h u = by_lead b k l u e ∙ rw e

    none : T (not (is_ascii b)) → T (not (within 194 244 b)) → utf8 (b ∷ l) ≡ false
    none t u = utf8_cons b l ∙ no_char (char_len b) (char_len_some b)
      where
        no_char : (n : ℕ) → 0 < n → is_char (take n (b ∷ l)) && utf8 (drop n (b ∷ l)) ≡ false
        no_char zero h = absurd (omega arith)
        no_char (suc n) h = rw (bad_first b (take n l) t u)

pub char_step_lem : (u : Begun) (b : ℕ) (l : List ℕ) → char_rest u (b ∷ l) ≡ char_rest (char_step u b) l
unfolding tails step_by
char_step_lem u b l = go u.lack u.low u.high
  where
    go : (k lo hi : ℕ) → tails k lo hi (b ∷ l) ≡ char_rest (step_by k lo hi b) l
    go zero lo hi = first_byte b l
    go (suc k) lo hi =
        by_test (within lo hi b)
        (λ t. rw (yes_true (within lo hi b) t))
        (λ t. rw (no_false (within lo hi b) t) (sym (nowhere_rest l)))

pub char_end_lem : (u : Begun) → char_rest u [] ≡ is_zero u.lack
unfolding tails utf8
char_end_lem u = go u.lack u.low u.high
  where
    go : (k lo hi : ℕ) → tails k lo hi [] ≡ is_zero k
    go zero lo hi = rw chars_nil
    go (suc k) lo hi = refl

-- ---- how many bytes a state needs

-- each state has its next byte past ASCII
pub char_low : (u : Begun) (b : ℕ) → 128 ≤ (char_step u b).low
unfolding step_by lead
char_low u b = go u.lack u.low u.high
  where
    Low : Begun → Type 0
    Low v = 128 ≤ v.low

    go : (k lo hi : ℕ) → Low (step_by k lo hi b)
    go zero lo hi =
        cond_has Low (is_ascii b) between _ (λ t. omega arith) (λ t. cond_has Low (within 194 244 b) _ nowhere (λ u. second_low_lem b) (λ u. omega arith))
    go (suc k) lo hi = cond_has Low (within lo hi b) (begun k 128 191) nowhere (λ t. omega arith) (λ t. omega arith)

-- what a byte that does not end all hope takes away
pub record CharMost (u v : Begun) (b : ℕ) : Type 0 where
  pub live : T (char_live u)
  pub most : u.lack ≤ suc v.lack
  pub ascii : b < 128 → u.lack ≡ 0

pub char_most : (u : Begun) (b : ℕ) → 128 ≤ u.low → T (char_live (char_step u b)) → CharMost u (char_step u b) b
unfolding step_by char_live
char_most u b = go u.lack u.low u.high
  where
    go : (k lo hi : ℕ) → 128 ≤ lo → T (char_live (step_by k lo hi b)) → CharMost (begun k lo hi) (step_by k lo hi b) b
    go zero lo hi h = λ t. record { live = tt; most = omega arith; ascii = λ a. refl }
    go (suc k) lo hi h =
        cond_has (λ v. T (char_live v) → CharMost (begun (suc k) lo hi) v b) (within lo hi b) (begun k 128 191) nowhere
        (λ w t.
        let low = within_low lo hi b w in
        let high = within_high lo hi b w in
        record { live = yes_leb {a = lo} {b = hi} (omega arith); most = omega arith; ascii = λ a. absurd (omega arith) })
        (λ w t. absurd t)

-- an ASCII byte stands between characters
pub char_ascii : (b : ℕ) → b < 128 → lead b ≡ between
unfolding lead
char_ascii b h = rw (lt-ltb b 128 h)

-- ---- the tests one after another, as code makes them

pub lead_multi : {b n lo hi : ℕ} → 128 ≤ b → within 194 244 b ≡ true → n ≡ tail_count b → lo ≡ second_low b → hi ≡ second_high b → begun n lo hi ≡ lead b
unfolding lead
lead_multi {b} h w n lo hi = rw (le-ltb b 128 h, w, n, lo, hi, tail_count_lem b)

pub lead_none : {b : ℕ} → 128 ≤ b → within 194 244 b ≡ false → nowhere ≡ lead b
unfolding lead
lead_none {b} h w = rw (le-ltb b 128 h, w)

module _ (b : ℕ) where
  by_first : {r : Begun} (k lo hi : ℕ) → k ≡ 0 → r ≡ lead b → r ≡ step_by k lo hi b
  unfolding step_by
  by_first zero lo hi e h = h
  by_first (suc k) lo hi e h = absurd (omega arith)

  by_tail : (k lo hi : ℕ) → (k ≡ 0 → ⊥) → within lo hi b ≡ true → begun (k - 1) 128 191 ≡ step_by k lo hi b
  unfolding step_by
  by_tail zero lo hi z w = absurd (z refl)
  by_tail (suc k) lo hi z w = let e : suc k - 1 ≡ k = omega arith in rw (w, e)

  by_none : (k lo hi : ℕ) → (k ≡ 0 → ⊥) → within lo hi b ≡ false → nowhere ≡ step_by k lo hi b
  unfolding step_by
  by_none zero lo hi z w = absurd (z refl)
  by_none (suc k) lo hi z w = rw w

  module _ (u : Begun) where
    pub step_first : {r : Begun} → u.lack ≡ 0 → r ≡ lead b → r ≡ char_step u b
    step_first = by_first u.lack u.low u.high

    pub step_tail : (u.lack ≡ 0 → ⊥) → within u.low u.high b ≡ true → begun (u.lack - 1) 128 191 ≡ char_step u b
    step_tail = by_tail u.lack u.low u.high

    pub step_none : (u.lack ≡ 0 → ⊥) → within u.low u.high b ≡ false → nowhere ≡ char_step u b
    step_none = by_none u.lack u.low u.high

live_by_lem : (k lo hi : ℕ) → (k ≡ 0 → ⊥) → leb lo hi ≡ live_by k lo hi
live_by_lem zero lo hi z = absurd (z refl)
live_by_lem (suc k) lo hi z = refl

pub live_none : (u : Begun) → u.lack ≡ 0 → true ≡ char_live u
unfolding char_live
live_none u e = rw e

pub live_some : (u : Begun) → (u.lack ≡ 0 → ⊥) → leb u.low u.high ≡ char_live u
unfolding char_live
live_some u = live_by_lem u.lack u.low u.high

pub is_zero_lem : (k : ℕ) → eqb k 0 ≡ is_zero k
is_zero_lem zero = refl
is_zero_lem (suc k) = eqb-suc-zero k
