-- What characters mean (RFC 3629, section 3): each encodes one number from 0 to 10FFFF that is no surrogate, and each such
-- number has its character. So overlong forms, surrogates and values above 10FFFF are not UTF-8.
use Rattle.std.proofs.Common.{⊎_elim, ◌∙◌, arith, eqb→eq, lt-ltb, le-ltb}
use Rattle.std.specs.Prelude.{◌≡◌, true, ◌&&◌, List, [], ◌∷◌, ℕ, ◌+◌, ◌-◌, ◌*◌, ◌/◌, ◌%◌, ◌≤◌, ◌<◌, T, ltb, eqb}
use Rattle.std.specs.Int.Count.{count_leading_zeros}
use Rattle.std.proofs.Math.Facts.{and_yes, yes_and, or_yes, ltb_yes, ltb_no, eqb_no, yes_eqb}
use Rattle.lists.specs.ListsLaws.{by_test, cond_has, yes_true}
use Rattle.lists.specs.Byte.{within}
use Rattle.lists.specs.ByteLaws.{within_low, within_high, to_within, all_below, same_test, agree}
use Rattle.utf8.specs.Utf8.{char_len, continues, second_low, second_high, is_char}
use Rattle.utf8.specs.Utf8Laws.{Multibyte, multibyte, to_multibyte, second_low_lem, second_high_lem, char_length}
use Rattle.utf8.specs.Scalar.{scalar, two, three, four, encode}

-- ---- the row of a number

encode_one : (v : ℕ) → v < 128 → encode v ≡ v ∷ []
unfolding encode
encode_one v h = rw (lt-ltb v 128 h)

encode_two : (v : ℕ) → 128 ≤ v → v < 2048 → encode v ≡ two v
unfolding encode
encode_two v h k = rw (le-ltb v 128 h, lt-ltb v 2048 k)

encode_three : (v : ℕ) → 2048 ≤ v → v < 65536 → encode v ≡ three v
unfolding encode
encode_three v h k = rw (le-ltb v 128 (omega arith), le-ltb v 2048 h, lt-ltb v 65536 k)

encode_four : (v : ℕ) → 65536 ≤ v → encode v ≡ four v
unfolding encode
encode_four v h = rw (le-ltb v 128 (omega arith), le-ltb v 2048 (omega arith), le-ltb v 65536 h)

-- ---- the length by the first byte, the second byte, and a scalar value, as facts on numbers

-- the first bytes of characters of n bytes are those from lo to hi
module _ (lo hi n : ℕ) (t : T (all_below (λ k. same_test (within lo hi k) (within 194 244 k && eqb (char_len k) n)) 256)) (a : ℕ) (byte : a < 256) where
  same : within lo hi a ≡ within 194 244 a && eqb (char_len a) n
  same = agree (within lo hi) (λ k. within 194 244 k && eqb (char_len k) n) 256 t a byte

  size_of : lo ≤ a → a ≤ hi → char_len a ≡ n
  size_of h k = eqb→eq (char_len a) n (and_yes (within 194 244 a) (eqb (char_len a) n) (rw same at (to_within lo hi a h k))).1

  range_of_lem : 194 ≤ a → a ≤ 244 → char_len a ≡ n → (lo ≤ a) × (a ≤ hi)
  range_of_lem h k e =
      let u : T (within lo hi a) = rw same (yes_and (within 194 244 a) (eqb (char_len a) n) (to_within 194 244 a h k) (yes_eqb e)) in
      (within_low lo hi a u, within_high lo hi a u)

record Second (a b : ℕ) : Type 0 where
  low : 128 ≤ b
  high : b ≤ 191
  e0 : a ≡ 224 → 160 ≤ b
  ed : a ≡ 237 → b ≤ 159
  f0 : a ≡ 240 → 144 ≤ b
  f4 : a ≡ 244 → b ≤ 143

to_second : (a b : ℕ) → Second a b → T (within (second_low a) (second_high a) b)
unfolding second_low second_high
to_second a b s =
    to_within (second_low a) (second_high a) b
    (cond_has (λ n. n ≤ b) (eqb a 224) 160 _ (λ t. s.e0 (eqb→eq a 224 t)) (λ t. cond_has (λ n. n ≤ b) (eqb a 240) 144 128 (λ u. s.f0 (eqb→eq a 240 u)) (λ u. s.low)))
    (cond_has (λ n. b ≤ n) (eqb a 237) 159 _ (λ t. s.ed (eqb→eq a 237 t)) (λ t. cond_has (λ n. b ≤ n) (eqb a 244) 143 191 (λ u. s.f4 (eqb→eq a 244 u)) (λ u. s.high)))

of_second : (a b : ℕ) → T (within (second_low a) (second_high a) b) → Second a b
unfolding second_low second_high
of_second a b t =
    let lo : second_low a ≤ b = within_low (second_low a) (second_high a) b t in
    let hi : b ≤ second_high a = within_high (second_low a) (second_high a) b t in
    record {
      low = omega (arith, lo, second_low_lem a);
      high = omega (arith, hi, second_high_lem a);
      e0 = λ e. rw e at lo;
      ed = λ e. rw e at hi;
      f0 = λ e. rw e at lo;
      f4 = λ e. rw e at hi;
    }

scalar_max : (v : ℕ) → T (scalar v) → v ≤ 1114111
scalar_max v t = ⊎_elim (λ u. omega (arith, ltb_yes {a = v} {b = 55296} u)) (within_high 57344 1114111 v) (or_yes (ltb v 55296) (within 57344 1114111 v) t)

no_surrogate : (v : ℕ) → T (scalar v) → 55296 ≤ v → 57344 ≤ v
no_surrogate v t h = ⊎_elim (λ u. omega (arith, ltb_yes {a = v} {b = 55296} u)) (within_low 57344 1114111 v) (or_yes (ltb v 55296) (within 57344 1114111 v) t)

to_scalar : (v : ℕ) → v ≤ 1114111 → (55296 ≤ v → 57344 ≤ v) → T (scalar v)
to_scalar v h k =
    by_test (ltb v 55296)
    (λ t. rw (yes_true (ltb v 55296) t) tt)
    (λ t. rw (le-ltb v 55296 (ltb_no t)) (to_within 57344 1114111 v (k (ltb_no t)) h))

-- ---- every scalar value is encoded by a character

tail_byte : (v : ℕ) → T (continues (128 + v % 64))
tail_byte v = to_within 128 191 (128 + v % 64) (omega arith) (omega arith)

two_char : (v : ℕ) → 128 ≤ v → v < 2048 → T (is_char (two v))
unfolding char_len count_leading_zeros
two_char v h k =
    let a = 192 + v / 64 in
    let b = 128 + v % 64 in
    to_multibyte a b []
    (record {
      low = omega arith;
      high = omega arith;
      size = size_of 194 223 2 tt a (omega arith) (omega arith) (omega arith);
      second = to_second a b (record { low = omega arith; high = omega arith; e0 = λ e. omega arith; ed = λ e. omega arith; f0 = λ e. omega arith; f4 = λ e. omega arith });
      tails = tt;
    })

three_char : (v : ℕ) → T (scalar v) → 2048 ≤ v → v < 65536 → T (is_char (three v))
unfolding char_len count_leading_zeros
three_char v s h k =
    let a = 224 + v / 4096 in
    let b = 128 + v / 64 % 64 in
    let c = 128 + v % 64 in
    let ed : a ≡ 237 → b ≤ 159 = λ e. by_test (ltb v 55296) (λ t. omega (arith, ltb_yes {a = v} {b = 55296} t)) (λ t. omega (arith, no_surrogate v s (ltb_no t))) in
    to_multibyte a b (c ∷ [])
    (record {
      low = omega arith;
      high = omega arith;
      size = size_of 224 239 3 tt a (omega arith) (omega arith) (omega arith);
      second = to_second a b (record { low = omega arith; high = omega arith; e0 = λ e. omega arith; ed = ed; f0 = λ e. omega arith; f4 = λ e. omega arith });
      tails = yes_and (continues c) true (tail_byte v) tt;
    })

four_char : (v : ℕ) → 65536 ≤ v → v ≤ 1114111 → T (is_char (four v))
unfolding char_len count_leading_zeros
four_char v h k =
    let a = 240 + v / 262144 in
    let b = 128 + v / 4096 % 64 in
    let c = 128 + v / 64 % 64 in
    let d = 128 + v % 64 in
    to_multibyte a b (c ∷ d ∷ [])
    (record {
      low = omega arith;
      high = omega arith;
      size = size_of 240 244 4 tt a (omega arith) (omega arith) (omega arith);
      second = to_second a b (record { low = omega arith; high = omega arith; e0 = λ e. omega arith; ed = λ e. omega arith; f0 = λ e. omega arith; f4 = λ e. omega arith });
      tails = yes_and (continues c) (continues d && true) (tail_byte (v / 64)) (yes_and (continues d) true (tail_byte v) tt);
    })

pub encode_char : (v : ℕ) → T (scalar v) → T (is_char (encode v))
unfolding is_char
encode_char v s =
    by_test (ltb v 128) (λ t. rw (encode_one v (ltb_yes t)) t)
    (λ t. by_test (ltb v 2048) (λ u. rw (encode_two v (ltb_no t) (ltb_yes u)) (two_char v (ltb_no t) (ltb_yes u)))
    (λ u. by_test (ltb v 65536) (λ w. rw (encode_three v (ltb_no u) (ltb_yes w)) (three_char v s (ltb_no u) (ltb_yes w)))
    (λ w. rw (encode_four v (ltb_no w)) (four_char v (ltb_no w) (scalar_max v s)))))

-- ---- every character encodes a scalar value

-- a character's number: the bits that its first byte adds to its mark, and six bits of each other byte
two_value : (a b : ℕ) → Multibyte a b [] → (v : ℕ) × T (scalar v) × (encode v ≡ a ∷ b ∷ [])
unfolding char_len count_leading_zeros
two_value a b m =
    let s = of_second a b m.second in
    let lead = range_of_lem 194 223 2 tt a (omega arith) m.low m.high m.size in
    let v = (a - 192) * 64 + (b - 128) in
    let first : 192 + v / 64 ≡ a = omega arith in
    let last : 128 + v % 64 ≡ b = omega arith in
    (v, to_scalar v (omega arith) (λ h. omega arith), encode_two v (omega arith) (omega arith) ∙ rw (first, last))

three_value : (a b c : ℕ) → Multibyte a b (c ∷ []) → (v : ℕ) × T (scalar v) × (encode v ≡ a ∷ b ∷ c ∷ [])
unfolding char_len count_leading_zeros
three_value a b c m =
    let s = of_second a b m.second in
    let lead = range_of_lem 224 239 3 tt a (omega arith) m.low m.high m.size in
    let tail = (and_yes (continues c) true m.tails).0 in
    let low : 128 ≤ c = within_low 128 191 c tail in
    let high : c ≤ 191 = within_high 128 191 c tail in
    let v = (a - 224) * 4096 + (b - 128) * 64 + (c - 128) in
    let least : 2048 ≤ v = by_test (eqb a 224) (λ t. omega (arith, eqb→eq a 224 t, s.e0 (eqb→eq a 224 t))) (λ t. omega (arith, eqb_no {a = a} {b = 224} t)) in
    let whole : 55296 ≤ v → 57344 ≤ v = λ h. by_test (eqb a 237) (λ t. omega (arith, eqb→eq a 237 t, s.ed (eqb→eq a 237 t))) (λ t. omega (arith, eqb_no {a = a} {b = 237} t)) in
    let first : 224 + v / 4096 ≡ a = omega arith in
    let second : 128 + v / 64 % 64 ≡ b = omega arith in
    let last : 128 + v % 64 ≡ c = omega arith in
    (v, to_scalar v (omega arith) whole, encode_three v least (omega arith) ∙ rw (first, second, last))

four_value : (a b c d : ℕ) → Multibyte a b (c ∷ d ∷ []) → (v : ℕ) × T (scalar v) × (encode v ≡ a ∷ b ∷ c ∷ d ∷ [])
unfolding char_len count_leading_zeros
four_value a b c d m =
    let s = of_second a b m.second in
    let lead = range_of_lem 240 244 4 tt a (omega arith) m.low m.high m.size in
    let tails = and_yes (continues c) (continues d && true) m.tails in
    let tail = (and_yes (continues d) true tails.1).0 in
    let low_c : 128 ≤ c = within_low 128 191 c tails.0 in
    let high_c : c ≤ 191 = within_high 128 191 c tails.0 in
    let low_d : 128 ≤ d = within_low 128 191 d tail in
    let high_d : d ≤ 191 = within_high 128 191 d tail in
    let v = (a - 240) * 262144 + (b - 128) * 4096 + (c - 128) * 64 + (d - 128) in
    let least : 65536 ≤ v = by_test (eqb a 240) (λ t. omega (arith, eqb→eq a 240 t, s.f0 (eqb→eq a 240 t))) (λ t. omega (arith, eqb_no {a = a} {b = 240} t)) in
    let most : v ≤ 1114111 = by_test (eqb a 244) (λ t. omega (arith, eqb→eq a 244 t, s.f4 (eqb→eq a 244 t))) (λ t. omega (arith, eqb_no {a = a} {b = 244} t)) in
    let first : 240 + v / 262144 ≡ a = omega arith in
    let second : 128 + v / 4096 % 64 ≡ b = omega arith in
    let third : 128 + v / 64 % 64 ≡ c = omega arith in
    let last : 128 + v % 64 ≡ d = omega arith in
    (v, to_scalar v most (λ h. omega arith), encode_four v least ∙ rw (first, second, third, last))

pub char_encode : (c : List ℕ) → T (is_char c) → (v : ℕ) × T (scalar v) × (encode v ≡ c)
unfolding is_char
char_encode [] t = absurd t
char_encode (a ∷ []) t = let h : a < 128 = ltb_yes t in (a, to_scalar a (omega arith) (λ k. omega arith), encode_one a h)
char_encode (a ∷ b ∷ []) t = two_value a b (multibyte a b [] t)
char_encode (a ∷ b ∷ c ∷ []) t = three_value a b c (multibyte a b (c ∷ []) t)
char_encode (a ∷ b ∷ c ∷ d ∷ []) t = four_value a b c d (multibyte a b (c ∷ d ∷ []) t)
char_encode (a ∷ b ∷ c ∷ d ∷ e ∷ l) t = absurd (omega (arith, char_length (a ∷ b ∷ c ∷ d ∷ e ∷ l) t))
