-- Base64 as code writes it: the table of its digits, and the digits of a text from a place on.
use Rattle.std.specs.Prelude.{◌≡◌, List, [], ◌∷◌, ◌++◌, ℕ, zero, suc, ◌+◌, ◌-◌, ◌*◌, ◌/◌, ◌%◌, ◌≤◌, ◌<◌, min, length, take, drop, get_or}
use Rattle.std.proofs.Math.Path.{refl}
use Rattle.std.proofs.Common.{sym, ap, ◌∙◌, add-zero, zero-add, add-suc, suc-add, le_of_suc-le-suc, not-suc-le-zero, add-one, arith, drop_of_length-le, length-take, length-drop, drop-cons, drop-drop, take_all}
use Rattle.buffer.specs.Buffer.{overlay, Appended, AppendedCapped}
use Rattle.buffer.specs.BufferLaws.{wrote_from, overlay_front, length_overlay, reached_start, reached_then, reached_end}
use Rattle.base64_digits.specs.Base64.{digit64, in_base64}
use Rattle.base64_digits.proofs.Base64Laws.{length_base64}
use Rattle.base64_digits.specs.WritingLaws.{bits_of, digits64, digits_from}

digits_from_lem : (k n j : ℕ) → j < n → get_or (digits_from k n) j 0 ≡ digit64 (k + j)
digits_from_lem k zero j h = absurd (not-suc-le-zero h)
digits_from_lem k (suc n) zero h = ap digit64 (sym (add-zero k))
digits_from_lem k (suc n) (suc j) h = digits_from_lem (suc k) n j (le_of_suc-le-suc h) ∙ ap digit64 (suc-add k j ∙ sym (add-suc k j))

pub digits_at : (v : ℕ) → v < 64 → get_or digits64 v 0 ≡ digit64 v
unfolding digits64
digits_at v h = digits_from_lem 0 64 v h ∙ ap digit64 (zero-add v)

-- by sixes
pub sixes : (a b c : ℕ) {bits : ℕ} → a < 256 → b < 256 → c < 256 → bits ≡ bits_of a b c
    → (bits / 262144 % 64 ≡ a / 4) × (bits / 4096 % 64 ≡ a % 4 * 16 + b / 16) × (bits / 64 % 64 ≡ b % 16 * 4 + c / 64) × (bits % 64 ≡ c % 64)
sixes a b c ha hb hc e = (omega arith, omega arith, omega arith, omega arith)

-- of the last two bytes, and of the last one
pub sixes_of_two : (a b : ℕ) {bits : ℕ} → a < 256 → b < 256 → bits ≡ bits_of a b 0
    → (bits / 262144 % 64 ≡ a / 4) × (bits / 4096 % 64 ≡ a % 4 * 16 + b / 16) × (bits / 64 % 64 ≡ b % 16 * 4)
sixes_of_two a b ha hb e = let six = sixes a b 0 ha hb (omega arith) e in (six.0, six.1, omega (arith, six.2))

pub sixes_of_one : (a : ℕ) {bits : ℕ} → a < 256 → bits ≡ bits_of a 0 0 → (bits / 262144 % 64 ≡ a / 4) × (bits / 4096 % 64 ≡ a % 4 * 16)
sixes_of_one a ha e = let six = sixes a 0 0 ha (omega arith) (omega arith) e in (six.0, omega (arith, six.1))

-- ---- a text from a place on

module _ (s : List ℕ) (i : ℕ) where
  cons : i < length s → drop i s ≡ get_or s i 0 ∷ drop (i + 1) s
  cons h = rw (add-one i, drop-cons s i 0 h)

  nil : length s ≤ i → drop i s ≡ []
  nil h = drop_of_length-le s {i = i} h

module _ (s : List ℕ) (i : ℕ) where
  pub base64_quad : 3 ≤ length s - i
      → in_base64 (drop i s) ≡ in_base64 (get_or s i 0 ∷ get_or s (i + 1) 0 ∷ get_or s (i + 1 + 1) 0 ∷ []) ++ in_base64 (drop (i + 1 + 1 + 1) s)
  unfolding in_base64
  base64_quad h = rw (cons s i (omega arith), cons s (i + 1) (omega arith), cons s (i + 1 + 1) (omega arith)) refl

  pub base64_two : length s - i ≡ 2 → in_base64 (drop i s) ≡ in_base64 (get_or s i 0 ∷ get_or s (i + 1) 0 ∷ [])
  unfolding in_base64
  base64_two h = rw (cons s i (omega arith), cons s (i + 1) (omega arith), nil s (i + 1 + 1) (omega arith)) refl

  pub base64_one : length s - i ≡ 1 → in_base64 (drop i s) ≡ in_base64 (get_or s i 0 ∷ [])
  unfolding in_base64
  base64_one h = rw (cons s i (omega arith), nil s (i + 1) (omega arith)) refl

  pub base64_end : length s ≤ i → in_base64 (drop i s) ≡ []
  unfolding in_base64
  base64_end h = rw (nil s i h) refl

-- the first group and the others
first_group : (s : List ℕ) → in_base64 s ≡ in_base64 (take (min 3 (length s)) s) ++ in_base64 (drop (min 3 (length s)) s)
unfolding in_base64
first_group [] = refl
first_group (a ∷ []) = refl
first_group (a ∷ b ∷ []) = refl
first_group (a ∷ b ∷ c ∷ s) = let three : min 3 (length (a ∷ b ∷ c ∷ s)) ≡ 3 = omega arith in rw three refl

-- a group from a place on, up to e
module _ (s : List ℕ) (i e : ℕ) (h : i < length s) (he : e ≡ i + min 3 (length s - i)) where
  pub group_then : in_base64 (drop i s) ≡ in_base64 (take (e - i) (drop i s)) ++ in_base64 (drop e s)
  group_then =
      let size : e - i ≡ min 3 (length (drop i s)) = omega (arith, length-drop i s) in
      let past : e ≡ i + min 3 (length (drop i s)) = omega (arith, length-drop i s) in
      rw (size, past, ← drop-drop (min 3 (length (drop i s))) i s) (first_group (drop i s))

  -- it has four digits
  pub group_length : length (in_base64 (take (e - i) (drop i s))) ≡ 4
  group_length = length_base64 (take (e - i) (drop i s)) ∙ rw length-take (omega (arith, length-drop i s))

-- whole groups and the others
whole_groups : (n : ℕ) (s : List ℕ) → 3 * n ≤ length s → in_base64 s ≡ in_base64 (take (3 * n) s) ++ in_base64 (drop (3 * n) s)
unfolding in_base64
whole_groups zero s h = refl
whole_groups (suc n) [] h = absurd (omega arith)
whole_groups (suc n) (a ∷ []) h = absurd (omega arith)
whole_groups (suc n) (a ∷ b ∷ []) h = absurd (omega arith)
whole_groups (suc n) (a ∷ b ∷ c ∷ s) h =
    let three : 3 * suc n ≡ suc (suc (suc (3 * n))) = omega arith in
    rw three (ap (λ (l : List ℕ). in_base64 (a ∷ b ∷ c ∷ []) ++ l) (whole_groups n s (omega arith)))

-- five groups from a place on, up to e
module _ (s : List ℕ) (i e : ℕ) (h : 15 ≤ length s - i) (he : e ≡ i + 15) where
  pub five_then : in_base64 (drop i s) ≡ in_base64 (take (e - i) (drop i s)) ++ in_base64 (drop e s)
  five_then =
      let size : e - i ≡ 15 = omega arith in
      rw (size, he, ← drop-drop 15 i s) (whole_groups 5 (drop i s) (omega (arith, length-drop i s)))

  pub five_bytes : length (take (e - i) (drop i s)) ≡ 15
  five_bytes = length-take (e - i) (drop i s) ∙ omega (arith, length-drop i s)

  -- they have twenty digits
  pub five_length : length (in_base64 (take (e - i) (drop i s))) ≡ 20
  five_length = length_base64 (take (e - i) (drop i s)) ∙ omega (arith, five_bytes)

-- five groups, written one after another
pub five_quads : (s : List ℕ) {before after₁ after₂ after₃ after₄ after₅ : List ℕ} {at n₁ n₂ n₃ n₄ n₅ : ℕ} → length s ≡ 15
    → Appended (in_base64 (get_or s 0 0 ∷ get_or s 1 0 ∷ get_or s 2 0 ∷ [])) at before after₁ n₁ → Appended (in_base64 (get_or s 3 0 ∷ get_or s 4 0 ∷ get_or s 5 0 ∷ [])) n₁ after₁ after₂ n₂
    → Appended (in_base64 (get_or s 6 0 ∷ get_or s 7 0 ∷ get_or s 8 0 ∷ [])) n₂ after₂ after₃ n₃ → Appended (in_base64 (get_or s 9 0 ∷ get_or s 10 0 ∷ get_or s 11 0 ∷ [])) n₃ after₃ after₄ n₄
    → Appended (in_base64 (get_or s 12 0 ∷ get_or s 13 0 ∷ get_or s 14 0 ∷ [])) n₄ after₄ after₅ n₅ → Appended (in_base64 s) at before after₅ n₅
five_quads s {before} {at = at} h a b c d e =
    let start = reached_start (in_base64 (drop 0 s)) at before in
    let one = reached_then _ _ start (base64_quad s 0 (omega arith)) a in
    let two = reached_then _ _ one (base64_quad s 3 (omega arith)) b in
    let three = reached_then _ _ two (base64_quad s 6 (omega arith)) c in
    let four = reached_then _ _ three (base64_quad s 9 (omega arith)) d in
    reached_end (reached_then _ _ four (base64_quad s 12 (omega arith)) e) (base64_end s 15 (omega arith))

-- what is left of a text from a place on, as a part of it
pub rest_from : (s : List ℕ) (i : ℕ) → take (length s - i) (drop i s) ≡ drop i s
rest_from s i = take_all (length s - i) (drop i s) (omega (arith, length-drop i s))

-- a text that fills a piece, and is copied from there
pub filled : {text piece piece' before after : List ℕ} {n at r : ℕ} → Appended text 0 piece piece' n → length text ≡ length piece
    → AppendedCapped piece' at before after r → AppendedCapped text at before after r
filled {text} {piece} {piece'} w e a =
    let o = wrote_from w in
    let same : text ≡ piece' = sym (overlay_front text piece (omega arith)) ∙ take_all (length text) (overlay text piece) (omega (arith, length_overlay text piece)) ∙ sym o.bytes in
    rw same a

-- the first group of what is left, and the others
pub quad_front : (rest : List ℕ) {group more : List ℕ} → group ≡ take 3 rest → more ≡ drop 3 rest → 3 ≤ length rest
    → in_base64 rest ≡ in_base64 (get_or group 0 0 ∷ get_or group 1 0 ∷ get_or group 2 0 ∷ []) ++ in_base64 more
unfolding in_base64
quad_front [] e f h = absurd (omega arith)
quad_front (a ∷ []) e f h = absurd (omega arith)
quad_front (a ∷ b ∷ []) e f h = absurd (omega arith)
quad_front (a ∷ b ∷ c ∷ s) e f h = rw (e, f) refl

-- the first five groups
pub five_front : (rest : List ℕ) {five more : List ℕ} → five ≡ take 15 rest → more ≡ drop 15 rest → 15 ≤ length rest → in_base64 rest ≡ in_base64 five ++ in_base64 more
five_front rest e f h = rw (e, f) (whole_groups 5 rest (omega arith))

pub five_digits : (rest : List ℕ) {five : List ℕ} → five ≡ take 15 rest → 15 ≤ length rest → length (in_base64 five) ≡ 20
five_digits rest {five} e h = let size : length five ≡ 15 = rw (e, length-take) (omega arith) in length_base64 five ∙ omega (arith, size)

pub two_left : (s : List ℕ) → length s ≡ 2 → in_base64 s ≡ in_base64 (get_or s 0 0 ∷ get_or s 1 0 ∷ [])
two_left s h = base64_two s 0 (omega (arith, h))

pub one_left : (s : List ℕ) → length s ≡ 1 → in_base64 s ≡ in_base64 (get_or s 0 0 ∷ [])
one_left s h = base64_one s 0 (omega (arith, h))

pub none_left : (s : List ℕ) → length s ≤ 0 → in_base64 s ≡ []
none_left s h = base64_end s 0 h

-- the next group of at most three bytes, as code takes it from what is left
module _ (rest : List ℕ) {part : List ℕ} {n : ℕ} (some : 0 < length rest) (size : n ≡ min 3 (length rest)) (e : part ≡ take n rest) where
  pub part_front : {more : List ℕ} → more ≡ drop n rest → in_base64 rest ≡ in_base64 part ++ in_base64 more
  part_front f = rw (e, f, size) (first_group rest)

  pub part_digits : length (in_base64 part) ≡ 4
  part_digits = let long : length part ≡ min 3 (length rest) = rw (e, length-take) (omega arith) in length_base64 part ∙ omega (arith, long)
