-- Laws of encoded words read by a function, as code reads them.
use Rattle.std.specs.Prelude.{◌≡◌, Bool, true, not, cond, ◌&&◌, List, [], ◌∷◌, ◌++◌, ℕ, zero, suc, ◌+◌, ◌-◌, ◌*◌, ◌/◌, ◌%◌, ◌≤◌, ◌<◌, min, T, leb, take, drop, get_or, Ok, Err}
use Rattle.std.proofs.Math.Path.{refl, sym}
use Rattle.std.proofs.Common.{ap, ◌∙◌, not-suc-le-zero, add-zero, le→leb, length-take, drop-drop}
use Rattle.std.proofs.Math.Bool.{false, and_assoc, and-true}
use native.Mathlib.Omega.{arith}
use Rattle.std.proofs.Math.Dec.{eqb, eqb→eq}
use Rattle.std.proofs.Math.ListN.{length, length-drop, drop_of_length-le}
use Rattle.std.proofs.Math.Seq.{get_or-drop}
use borrow.Author.Tests.{eq-eqb, ne_eqb}
use Rattle.lists.specs.Lists.{all}
use Rattle.lists.specs.ListsLaws.{by_test, cond_has, yes_true, no_false, true_yes}
use Rattle.lists.specs.Byte.{within}
use Rattle.lists.specs.ByteLaws.{within_low, within_high}
use Rattle.lists.specs.Run.{run}
use Rattle.lists.specs.RunLaws.{run_step, run_stop, run_end, run_le}
use Rattle.line.specs.LineLaws.{part_rest}
use Rattle.letter_case.specs.LetterCase.{bytes, lower, same_any_case}
use Rattle.std.proofs.Math.Facts.{leb_no, no_leb}
use Rattle.buffer.specs.Buffer.{AppendedCapped, ReachedCapped, greatest}
use Rattle.buffer.specs.BufferLaws.{capped_none, capped_then, capped_start, capped_turn, capped_end, length_capped, capped_same}
use Rattle.base64_digits.specs.Reading.{is_digit64, value64}
use Rattle.word_reader.specs.Each.{each}
use Rattle.word_reader.specs.EachLaws.{each_nil, each_front, each_few}
use Rattle.word_reader.specs.Word.{unit_size, is_any_hex, any_hex, unit_byte, unit_ok, q_text, q_ok, first_of, second_of, third_of, quad_ok, last_ok, last_text, b_text, b_ok, is_word, inner, not_question, charset_len, is_parted, letter, standing, text_ok, text_of, is_utf8_charset, added, form_number}
use Rattle.word_reader.specs.declared.WordFault.{WordFault}
use Rattle.word_reader.specs.declared.WordFault.TheVariants.{Malformed, Charset}
use Rattle.word_reader.specs.WordFaults.{number_of}

-- ---- units of Q

unit_some : (s : List ℕ) → 0 < unit_size s
unfolding unit_size
unit_some s = cond_has (λ n. 0 < n) (eqb (get_or s 0 0) 61) 3 1 (λ t. omega arith) (λ t. omega arith)

-- the unit at a place: the byte that it adds, whether it is no fault, its size
pub record UnitAt (s : List ℕ) (i byte : ℕ) (ok : Bool) (size : ℕ) : Type 0 where
  pub byte_is : byte ≡ unit_byte (drop i s)
  pub ok_is : ok ≡ unit_ok (drop i s)
  pub size_is : size ≡ unit_size (drop i s)
  pub some : 0 < size
  pub few : size ≤ 3

first : (s : List ℕ) (i : ℕ) → get_or (drop i s) 0 0 ≡ get_or s i 0
first s i = rw (get_or-drop i s 0 0, add-zero)

module _ (s : List ℕ) (i b : ℕ) (e : b ≡ get_or s i 0) where
  pub unit_hex : (x y x' y' : ℕ) (p q : Bool) → b ≡ 61 → x ≡ get_or s (i + 1) 0 → y ≡ get_or s (i + 2) 0 → x' ≡ any_hex x → y' ≡ any_hex y → p ≡ is_any_hex x → q ≡ is_any_hex y
      → UnitAt s i (x' * 16 + y') (p && q) 3
  unfolding unit_byte unit_ok unit_size
  unit_hex x y x' y' p q h hx hy kx ky lp lq = record {
    byte_is = rw (first s i, ← e, h, get_or-drop i s 1 0, get_or-drop i s 2 0, ← hx, ← hy, kx, ky) refl;
    ok_is = rw (first s i, ← e, h, get_or-drop i s 1 0, get_or-drop i s 2 0, ← hx, ← hy, lp, lq) refl;
    size_is = rw (first s i, ← e, h) refl;
    some = omega arith;
    few = omega arith;
  }

  pub unit_space : b ≡ 95 → UnitAt s i 32 true 1
  unfolding unit_byte unit_ok unit_size
  unit_space h = record {
    byte_is = rw (first s i, ← e, h) refl;
    ok_is = rw (first s i, ← e, h) refl;
    size_is = rw (first s i, ← e, h) refl;
    some = omega arith;
    few = omega arith;
  }

  pub unit_one : (b ≡ 61 → ⊥) → (b ≡ 95 → ⊥) → UnitAt s i b (within 33 126 b && not (eqb b 63)) 1
  unfolding unit_byte unit_ok unit_size
  unit_one n m = record {
    byte_is = rw (first s i, ← e, ne_eqb b 61 n, ne_eqb b 95 m) refl;
    ok_is = rw (first s i, ← e, ne_eqb b 61 n) refl;
    size_is = rw (first s i, ← e, ne_eqb b 61 n) refl;
    some = omega arith;
    few = omega arith;
  }

-- a loop over units: what is written, and whether no fault was found so far
pub record Units (s : List ℕ) (at : ℕ) (before after : List ℕ) (i next : ℕ) (ok : Bool) : Type 0 where
  pub text : ReachedCapped (q_text s) (q_text (drop i s)) at before after next
  pub fine : q_ok s ≡ ok && q_ok (drop i s)

pub units_start : (s : List ℕ) (at : ℕ) (before : List ℕ) → at ≤ greatest → Units s at before before 0 at true
units_start s at before h = record { text = capped_start (q_text s) at before h; fine = refl }

module _ {s : List ℕ} {at : ℕ} {before mid : List ℕ} {i next : ℕ} {ok : Bool} (u : Units s at before mid i next ok) where
  pub length_units : length mid ≡ length before
  length_units = length_capped u.text

  pub units_next : {byte size : ℕ} {good : Bool} {after : List ℕ} {m : ℕ} → i < length s → length before ≤ greatest → UnitAt s i byte good size
      → AppendedCapped (byte ∷ []) next mid after m → Units s at before after (i + size) m (ok && good)
  unfolding q_text q_ok
  units_next {byte} {size} {good} h fits a w =
      let some : 0 < length (drop i s) = rw length-drop (omega arith) in
      let bytes : each unit_size unit_byte (drop i s) ≡ byte ∷ each unit_size unit_byte (drop (i + size) s) =
      each_front unit_size unit_byte (drop i s) some (unit_some (drop i s)) ∙ rw (← a.byte_is, ← a.size_is, drop-drop) in
      let oks : each unit_size unit_ok (drop i s) ≡ good ∷ each unit_size unit_ok (drop (i + size) s) =
      each_front unit_size unit_ok (drop i s) some (unit_some (drop i s)) ∙ rw (← a.ok_is, ← a.size_is, drop-drop) in
      record {
        text = capped_turn u.text {part = byte ∷ []} bytes w fits;
        fine = u.fine ∙ rw oks (sym (and_assoc ok good (all (λ (o : Bool). o) (each unit_size unit_ok (drop (i + size) s)))));
      }

  pub units_end : length s ≤ i → (ok ≡ q_ok s) × AppendedCapped (q_text s) at before mid next
  unfolding q_text q_ok
  units_end h =
      let none = drop_of_length-le s {i = i} h in
      (sym (u.fine ∙ rw (none, each_nil unit_size unit_ok) (and-true ok)), capped_end u.text (rw (none, each_nil unit_size unit_byte) refl))

-- ---- base64

pub first_by : (w x : ℕ) {a b : ℕ} → a ≡ value64 w → b ≡ value64 x → a * 4 + b / 16 ≡ first_of w x
unfolding first_of
first_by w x p q = rw (p, q) refl

pub second_by : (x y : ℕ) {a b : ℕ} → a ≡ value64 x → b ≡ value64 y → a % 16 * 16 + b / 4 ≡ second_of x y
unfolding second_of
second_by x y p q = rw (p, q) refl

pub third_by : (y z : ℕ) {a b : ℕ} → a ≡ value64 y → b ≡ value64 z → a % 4 * 64 + b ≡ third_of y z
unfolding third_of
third_by y z p q = rw (p, q) refl

pub quad_by : (w x y z : ℕ) {a b c d : Bool} → a ≡ is_digit64 w → b ≡ is_digit64 x → c ≡ is_digit64 y → d ≡ is_digit64 z → a && b && c && d ≡ quad_ok w x y z
unfolding quad_ok
quad_by w x y z p q r s = rw (p, q, r, s) refl

-- bytes added one after another
module _ (w x y z : ℕ) where
  two_bytes : {at n₁ n₂ : ℕ} {o₀ o₁ o₂ : List ℕ} {a b : ℕ} → length o₀ ≤ greatest → a ≡ first_of w x → AppendedCapped (a ∷ []) at o₀ o₁ n₁
      → b ≡ second_of x y → AppendedCapped (b ∷ []) n₁ o₁ o₂ n₂ → AppendedCapped (first_of w x ∷ second_of x y ∷ []) at o₀ o₂ n₂
  two_bytes fits p v q u = capped_same (rw (p, q) refl) (capped_then v u fits)

  pub three_bytes : {at n₁ n₂ n₃ : ℕ} {o₀ o₁ o₂ o₃ : List ℕ} {a b c : ℕ} → length o₀ ≤ greatest → a ≡ first_of w x → AppendedCapped (a ∷ []) at o₀ o₁ n₁
      → b ≡ second_of x y → AppendedCapped (b ∷ []) n₁ o₁ o₂ n₂ → c ≡ third_of y z → AppendedCapped (c ∷ []) n₂ o₂ o₃ n₃
      → AppendedCapped (first_of w x ∷ second_of x y ∷ third_of y z ∷ []) at o₀ o₃ n₃
  three_bytes fits p v q u r t = capped_same (rw r refl) (capped_then (two_bytes fits p v q u) t fits)

  pub last_two : {at n₁ : ℕ} {o₀ o₁ : List ℕ} {a g : ℕ} {e f : Bool} → a ≡ first_of w x → AppendedCapped (a ∷ []) at o₀ o₁ n₁ → z ≡ 61 → y ≡ 61
      → e ≡ is_digit64 w → f ≡ is_digit64 x → g ≡ value64 x → (e && f && eqb (g % 16) 0 ≡ last_ok w x y z) × AppendedCapped (last_text w x y z) at o₀ o₁ n₁
  unfolding last_ok last_text
  last_two p v hz hy he hf hg = (rw (hz, hy, he, hf, hg) refl, capped_same (rw (hz, hy, p) refl) v)

  pub last_three : {at n₁ n₂ : ℕ} {o₀ o₁ o₂ : List ℕ} {a b d : ℕ} {e f g : Bool} → length o₀ ≤ greatest → a ≡ first_of w x → AppendedCapped (a ∷ []) at o₀ o₁ n₁ → z ≡ 61
      → (y ≡ 61 → ⊥) → e ≡ is_digit64 w → f ≡ is_digit64 x → g ≡ is_digit64 y → d ≡ value64 y → b ≡ second_of x y → AppendedCapped (b ∷ []) n₁ o₁ o₂ n₂
      → (e && f && g && eqb (d % 4) 0 ≡ last_ok w x y z) × AppendedCapped (last_text w x y z) at o₀ o₂ n₂
  unfolding last_ok last_text
  last_three fits p v hz hy he hf hg hd q u =
      (rw (hz, ne_eqb y 61 hy, he, hf, hg, hd) refl, capped_same (rw (hz, ne_eqb y 61 hy) refl) (two_bytes fits p v q u))

  pub last_quad : {e : Bool} {at n : ℕ} {o o' : List ℕ} → (z ≡ 61 → ⊥) → e ≡ quad_ok w x y z → AppendedCapped (first_of w x ∷ second_of x y ∷ third_of y z ∷ []) at o o' n
      → (e ≡ last_ok w x y z) × AppendedCapped (last_text w x y z) at o o' n
  unfolding last_ok last_text
  last_quad hz he u = (rw (ne_eqb z 61 hz) he, capped_same (rw (ne_eqb z 61 hz) refl) u)

-- the four bytes of a group, by their list
abbrev pub ok_of_quad : List ℕ → Bool
ok_of_quad q = quad_ok (get_or q 0 0) (get_or q 1 0) (get_or q 2 0) (get_or q 3 0)

abbrev pub text_of_quad : List ℕ → List ℕ
text_of_quad q = first_of (get_or q 0 0) (get_or q 1 0) ∷ second_of (get_or q 1 0) (get_or q 2 0) ∷ third_of (get_or q 2 0) (get_or q 3 0) ∷ []

abbrev pub ok_of_last : List ℕ → Bool
ok_of_last q = last_ok (get_or q 0 0) (get_or q 1 0) (get_or q 2 0) (get_or q 3 0)

abbrev pub text_of_last : List ℕ → List ℕ
text_of_last q = last_text (get_or q 0 0) (get_or q 1 0) (get_or q 2 0) (get_or q 3 0)

-- fewer than four bytes; four; more
few_left : (s : List ℕ) → length s < 4 → (eqb (length s) 0 ≡ b_ok s) × ([] ≡ b_text s)
unfolding b_ok b_text
few_left [] h = (refl, refl)
few_left (w ∷ []) h = (refl, refl)
few_left (w ∷ x ∷ []) h = (refl, refl)
few_left (w ∷ x ∷ y ∷ []) h = (refl, refl)
few_left (w ∷ x ∷ y ∷ z ∷ s) h = absurd (omega arith)

last_left : (s : List ℕ) → length s ≡ 4 → (b_ok s ≡ ok_of_last (take 4 s)) × (b_text s ≡ text_of_last (take 4 s))
unfolding b_ok b_text
last_left [] h = absurd (omega arith)
last_left (w ∷ []) h = absurd (omega arith)
last_left (w ∷ x ∷ []) h = absurd (omega arith)
last_left (w ∷ x ∷ y ∷ []) h = absurd (omega arith)
last_left (w ∷ x ∷ y ∷ z ∷ []) h = (refl, refl)
last_left (w ∷ x ∷ y ∷ z ∷ v ∷ s) h = absurd (omega arith)

quad_front : (s : List ℕ) → 4 < length s → (b_ok s ≡ ok_of_quad (take 4 s) && b_ok (drop 4 s)) × (b_text s ≡ text_of_quad (take 4 s) ++ b_text (drop 4 s))
unfolding b_ok b_text
quad_front [] h = absurd (omega arith)
quad_front (w ∷ []) h = absurd (omega arith)
quad_front (w ∷ x ∷ []) h = absurd (omega arith)
quad_front (w ∷ x ∷ y ∷ []) h = absurd (omega arith)
quad_front (w ∷ x ∷ y ∷ z ∷ []) h = absurd (omega arith)
quad_front (w ∷ x ∷ y ∷ z ∷ v ∷ s) h = (refl, refl)

not_none : (n : ℕ) → eqb n 0 ≡ false → 0 < n
not_none zero e = absurd (true_yes false (sym e))
not_none (suc n) e = omega arith

-- a loop over groups
pub record Groups (s : List ℕ) (at : ℕ) (before after rest : List ℕ) (next : ℕ) (ok : Bool) : Type 0 where
  pub text : ReachedCapped (b_text s) (b_text rest) at before after next
  pub fine : b_ok s ≡ ok && b_ok rest

pub groups_start : (s : List ℕ) (at : ℕ) (before : List ℕ) → at ≤ greatest → Groups s at before before s at true
groups_start s at before h = record { text = capped_start (b_text s) at before h; fine = refl }

module _ {s : List ℕ} {at : ℕ} {before mid rest : List ℕ} {next : ℕ} {ok : Bool} (g : Groups s at before mid rest next ok) where
  pub length_groups : length mid ≡ length before
  length_groups = length_capped g.text

  module _ {quad more : List ℕ} (front : quad ≡ take 4 rest) (left : more ≡ drop 4 rest) {good : Bool} {after : List ℕ} {m : ℕ} (size : length more + 4 ≡ length rest) {e : Bool} (empty : e ≡ eqb (length more) 0) (fits : length before ≤ greatest) where
    pub groups_next : e ≡ false → good ≡ ok_of_quad quad → AppendedCapped (text_of_quad quad) next mid after m → Groups s at before after more m (ok && good)
    groups_next n e a =
        let some : 0 < length more = not_none (length more) (sym empty ∙ n) in
        let q = quad_front rest (omega arith) in
        record {
          text = capped_turn g.text (rw (front, left) q.1) a fits;
          fine = g.fine ∙ rw (q.0, e, front, left) (sym (and_assoc ok (ok_of_quad (take 4 rest)) (b_ok (drop 4 rest))));
        }

    pub groups_last : e ≡ true → (good ≡ ok_of_last quad) × AppendedCapped (text_of_last quad) next mid after m → (ok && good ≡ b_ok s) × AppendedCapped (b_text s) at before after m
    groups_last n a =
        let none : length more ≡ 0 = eqb→eq (length more) 0 (true_yes (eqb (length more) 0) (sym empty ∙ n)) in
        let q = last_left rest (omega arith) in
        (rw (a.0, front) (sym (g.fine ∙ ap (λ (b : Bool). ok && b) q.0)), capped_same (sym g.text.joins) (capped_then g.text.wrote (capped_same (rw front (sym q.1)) a.1) fits))

  pub groups_end : {e : Bool} → length rest < 4 → e ≡ eqb (length rest) 0 → (ok && e ≡ b_ok s) × AppendedCapped (b_text s) at before mid next
  groups_end h k = let f = few_left rest h in (rw (k, f.0) (sym g.fine), capped_end g.text (sym f.1))

-- ---- a word

module _ (w : List ℕ) where
  pub word_short : length w < 4 → false ≡ is_word w
  unfolding is_word
  word_short h = rw (no_false (leb 4 (length w)) (no_leb h)) refl

  pub word_ends : 4 ≤ length w
      → eqb (get_or w 0 0) 61 && eqb (get_or w 1 0) 63 && eqb (get_or w (length w - 2) 0) 63 && eqb (get_or w (length w - 1) 0) 61 ≡ is_word w
  unfolding is_word
  word_ends h = rw (yes_true (leb 4 (length w)) (le→leb 4 (length w) h)) refl

pub charset_le : (s : List ℕ) → charset_len s ≤ length s
unfolding charset_len
charset_le s = run_le not_question s

pub charset_within : (w s : List ℕ) (n k : ℕ) → s ≡ take k (drop 2 w) → n ≡ charset_len s → n ≤ length w
charset_within w s n k e f = omega (arith, charset_le s, ap length e, length-take k (drop 2 w), length-drop 2 w)

pub charset_by : (s : List ℕ) {part utf8 : List ℕ} {n : ℕ} (r : Bool) → n ≡ charset_len s → part ≡ take (n - 0) (drop 0 s) → utf8 ≡ bytes "UTF-8" → r ≡ same_any_case part utf8 → r ≡ is_utf8_charset s
unfolding is_utf8_charset
charset_by s {part} {utf8} {n} r e p u q = let z : n - 0 ≡ charset_len s = omega arith in q ∙ rw (p, u, z) refl

-- by the letter
module _ (l : ℕ) (s : List ℕ) {at n : ℕ} {o o' : List ℕ} {ok : Bool} where
  pub text_q : l ≡ 113 → (ok ≡ q_ok s) × AppendedCapped (q_text s) at o o' n → (ok ≡ text_ok l s) × AppendedCapped (text_of l s) at o o' n
  unfolding text_ok text_of
  text_q e a = rw e a

  pub text_b : (l ≡ 113 → ⊥) → l ≡ 98 → (ok ≡ b_ok s) × AppendedCapped (b_text s) at o o' n → (ok ≡ text_ok l s) × AppendedCapped (text_of l s) at o o' n
  unfolding text_ok text_of
  text_b k e a = rw e a

pub text_none : (l : ℕ) (s : List ℕ) (at : ℕ) (o : List ℕ) → at ≤ greatest → (l ≡ 113 → ⊥) → (l ≡ 98 → ⊥) → (false ≡ text_ok l s) × AppendedCapped (text_of l s) at o o at
unfolding text_ok text_of
text_none l s at o h k m = rw (ne_eqb l 113 k, ne_eqb l 98 m) (refl, capped_none at o h)

-- the parts of a word as code finds them
module _ (w : List ℕ) {s : List ℕ} {n k : ℕ} (k_is : k ≡ min 2 (length w)) (s_is : s ≡ take (length w - k - 2) (drop 2 w)) (n_is : n ≡ charset_len s) where
  inner_is : inner w ≡ s
  unfolding inner
  inner_is = let m : length w - k ≡ length w - 2 = omega arith in sym (rw m at s_is)

  pub not_parted : (a b : ℕ) (at : ℕ) (o : List ℕ) → at ≤ greatest → a ≡ get_or s n 0 → b ≡ get_or s (n + 2) 0 → eqb a 63 && eqb b 63 ≡ false
      → (number_of (Err Malformed) ≡ form_number w) × AppendedCapped (added w) at o o at
  unfolding form_number added is_parted
  not_parted a b at o h p q e =
      let no : eqb (get_or s (charset_len s) 0) 63 && eqb (get_or s (charset_len s + 2) 0) 63 ≡ false = rw (← n_is, ← p, ← q) e in
      (rw (inner_is, no) refl, capped_same (rw (inner_is, no) refl) (capped_none at o h))

  module _ {a b c l : ℕ} {t : List ℕ} (p : a ≡ get_or s n 0) (q : b ≡ get_or s (n + 2) 0) (e : eqb a 63 && eqb b 63 ≡ true) (r : c ≡ get_or s (n + 1) 0) (l_is : l ≡ lower c)
      (t_is : t ≡ take (length s - (n + 3)) (drop (n + 3) s)) {ok : Bool} {at next : ℕ} {o o' : List ℕ} (d : (ok ≡ text_ok l t) × AppendedCapped (text_of l t) at o o' next) where
    is_parted_lem : is_parted s ≡ true
    unfolding is_parted
    is_parted_lem = rw (← n_is, ← p, ← q) e

    letter_is : letter s ≡ l
    unfolding letter
    letter_is = rw (← n_is, ← r) (sym l_is)

    standing_is : standing s ≡ t
    unfolding standing
    standing_is = rw (← n_is) (sym (t_is ∙ part_rest s (n + 3)))

    added_is : AppendedCapped (added w) at o o' next
    unfolding added
    added_is = capped_same (sym (rw (inner_is, is_parted_lem, letter_is, standing_is) refl)) d.1

    ok_is : text_ok (letter s) (standing s) ≡ ok
    ok_is = rw (letter_is, standing_is) (sym d.0)

    pub text_bad : ok ≡ false → (number_of (Err Malformed) ≡ form_number w) × AppendedCapped (added w) at o o' next
    unfolding form_number
    text_bad k = (rw (inner_is, is_parted_lem, ok_is, k) refl, added_is)

    pub text_utf8 : {u : Bool} → ok ≡ true → u ≡ is_utf8_charset s → u ≡ true → (number_of (Ok tt) ≡ form_number w) × AppendedCapped (added w) at o o' next
    unfolding form_number
    text_utf8 k v t = (rw (inner_is, is_parted_lem, ok_is, k, ← v, t) refl, added_is)

    pub text_other : {u : Bool} → ok ≡ true → u ≡ is_utf8_charset s → u ≡ false → (number_of (Err Charset) ≡ form_number w) × AppendedCapped (added w) at o o' next
    unfolding form_number
    text_other k v t = (rw (inner_is, is_parted_lem, ok_is, k, ← v, t) refl, added_is)

-- ---- lengths: no word adds more bytes than it has

q_short : (s : List ℕ) → length (q_text s) ≤ length s
unfolding q_text
q_short s = each_few unit_size unit_byte s

last_short : (w x y z : ℕ) → length (last_text w x y z) ≤ 4
unfolding last_text
last_short w x y z =
    cond_has (λ l. length l ≤ 4) (eqb z 61) (cond (eqb y 61) (first_of w x ∷ []) (first_of w x ∷ second_of x y ∷ [])) (first_of w x ∷ second_of x y ∷ third_of y z ∷ [])
    (λ t. cond_has (λ l. length l ≤ 4) (eqb y 61) (first_of w x ∷ []) (first_of w x ∷ second_of x y ∷ []) (λ u. omega arith) (λ u. omega arith)) (λ t. omega arith)

b_short : (s : List ℕ) → length (b_text s) ≤ length s
unfolding b_text
b_short [] = omega arith
b_short (w ∷ []) = omega arith
b_short (w ∷ x ∷ []) = omega arith
b_short (w ∷ x ∷ y ∷ []) = omega arith
b_short (w ∷ x ∷ y ∷ z ∷ []) = last_short w x y z
b_short (w ∷ x ∷ y ∷ z ∷ v ∷ s) = omega (arith, b_short (v ∷ s))

text_short : (l : ℕ) (s : List ℕ) → length (text_of l s) ≤ length s
unfolding text_of
text_short l s =
    cond_has (λ t. length t ≤ length s) (eqb l 113) (q_text s) (cond (eqb l 98) (b_text s) []) (λ u. q_short s)
    (λ u. cond_has (λ t. length t ≤ length s) (eqb l 98) (b_text s) [] (λ v. b_short s) (λ v. omega arith))

pub added_short : (w : List ℕ) → length (added w) ≤ length w
unfolding added standing inner
added_short w =
    let s = inner w in
    let n = charset_len s in
    cond_has (λ t. length t ≤ length w) (is_parted s) (text_of (letter s) (standing s)) []
    (λ u. omega (arith, text_short (letter s) (drop (n + 3) s), length-drop (n + 3) s, length-take (length w - 2 - 2) (drop 2 w), length-drop 2 w)) (λ u. omega arith)
