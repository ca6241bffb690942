-- Laws of windows: a text is UTF-8 exactly if every byte is placed well after the three before it and the last character is whole.
use Rattle.std.specs.Prelude.{◌≡◌, Bool, true, false, not, cond, ◌&&◌, ◌||◌, T, leb, eqb, length, take, drop, get_or}
use Rattle.std.proofs.Math.Path.{refl, sym, ap}
use Rattle.std.proofs.Common.{◌∙◌, eqb→eq, lt→ltb, zero-add, not-suc-le-zero, drop_of_length-le, length-drop, length-take, drop-drop, take_all}
use Rattle.std.proofs.lemmas.List.{get_or-take, get_or-drop}
use Rattle.std.proofs.Math.Bool.{and-true, and-false, and_assoc, or-true, or-false}
use mathlib.Core.List.{List, [], ◌∷◌}
use Prim.Native.Nat.{ℕ, zero, suc, ◌+◌, ◌-◌, ◌≤◌, ◌<◌}
use native.Mathlib.Omega.{arith}
use Rattle.std.specs.Int.Count.{count_leading_zeros}
use Rattle.std.proofs.Math.Dec.{ltb}
use Rattle.std.proofs.Math.Nat.{add-zero}
use Rattle.std.proofs.Math.Seq.{drop-cons}
use borrow.Author.Tests.{lt-ltb, le-ltb, le-leb, lt-leb, ne_eqb}
use Rattle.std.proofs.Math.Numerals.{add-one}
use Rattle.std.proofs.Math.Facts.{and_yes, yes_and, ltb_yes, ltb_no, leb_no, eqb_no}
use Rattle.lists.specs.Lists.{all}
use Rattle.lists.specs.ListsLaws.{by_test, yes_true, true_yes, no_false}
use Rattle.lists.specs.Byte.{within, is_ascii}
use Rattle.lists.specs.ByteLaws.{within_low, within_high, to_within, all_below, below, implies, same_test, agree}
use Rattle.utf8.specs.Utf8.{char_len, continues, second_low, second_high, is_char, utf8}
use Rattle.utf8.specs.Utf8Laws.{chars_cons, second_high_lem, utf8_right, utf8_ascii, utf8_of}
use Rattle.utf8.specs.Utf8AtLaws.{utf8_stop}
use Rattle.utf8.specs.CharAtLaws.{char_at_none}
use Rattle.utf8.specs.Window.{placed, placed3, whole, placed_all, window_at, all_at, placed_from, starts}

-- ---- what a window asks of its last byte

module _ (a b c d : ℕ) where
  pub placed_second : 192 ≤ c → placed a b c d ≡ within (second_low c) (second_high c) d
  unfolding placed
  placed_second h = rw (le-leb 192 c h)

  pub placed_third : c < 192 → 224 ≤ b → placed a b c d ≡ continues d
  unfolding placed
  placed_third h k = rw (lt-leb 192 c h, le-leb 224 b k)

  pub placed_fourth : c < 192 → 240 ≤ a → placed a b c d ≡ continues d
  unfolding placed
  placed_fourth h k = rw (lt-leb 192 c h, le-leb 240 a k, or-true (leb 224 b))

  pub placed_first : c < 192 → b < 224 → a < 240 → placed a b c d ≡ is_ascii d || within 194 244 d
  unfolding placed
  placed_first h k m = rw (lt-leb 192 c h, lt-leb 224 b k, lt-leb 240 a m)

module _ (a b c : ℕ) where
  pub to_whole : c < 192 → b < 224 → a < 240 → whole a b c ≡ true
  unfolding whole
  to_whole h k m = rw (lt-ltb c 192 h, lt-ltb b 224 k, lt-ltb a 240 m)

  broken_one : 192 ≤ c → whole a b c ≡ false
  unfolding whole
  broken_one h = rw (le-ltb c 192 h)

  broken_two : 224 ≤ b → whole a b c ≡ false
  unfolding whole
  broken_two h = rw (le-ltb b 224 h, and-false (ltb c 192))

  broken_three : 240 ≤ a → whole a b c ≡ false
  unfolding whole
  broken_three h = rw (le-ltb a 240 h, and-false (ltb c 192 && ltb b 224))

-- ---- UTF-8 by its first byte

-- the bytes from lo to hi lead characters of n bytes
module _ (lo hi n : ℕ) where
  abbrev lens : ℕ → Bool
  lens k = not (within lo hi k) || eqb (char_len k) n

  len_by : T (all_below lens (suc hi)) → (d : ℕ) → T (within lo hi d) → char_len d ≡ n
  len_by all d t =
      eqb→eq (char_len d) n (implies (within lo hi d) (eqb (char_len d) n) (below lens (suc hi) all d (omega (arith, within_high lo hi d t))) t)

len_two : (d : ℕ) → T (within 194 223 d) → char_len d ≡ 2
unfolding char_len count_leading_zeros
len_two d t = len_by 194 223 2 tt d t

len_three : (d : ℕ) → T (within 224 239 d) → char_len d ≡ 3
unfolding char_len count_leading_zeros
len_three d t = len_by 224 239 3 tt d t

len_four : (d : ℕ) → T (within 240 244 d) → char_len d ≡ 4
unfolding char_len count_leading_zeros
len_four d t = len_by 240 244 4 tt d t

flat_two : (w r : Bool) → w && true && r ≡ w && r
flat_two true r = refl
flat_two false r = refl

flat_three : (w x r : Bool) → w && (x && true) && r ≡ w && (x && r)
flat_three true true r = refl
flat_three true false r = refl
flat_three false x r = refl

flat_four : (w x y r : Bool) → w && (x && (y && true)) && r ≡ w && (x && (y && r))
flat_four true true true r = refl
flat_four true true false r = refl
flat_four true false y r = refl
flat_four false x y r = refl

module _ (d : ℕ) (lead : T (within 194 244 d)) where
  abbrev second : ℕ → Bool
  second e = within (second_low d) (second_high d) e

  utf8_two : char_len d ≡ 2 → (e : ℕ) (s : List ℕ) → utf8 (d ∷ e ∷ s) ≡ second e && utf8 s
  unfolding utf8 is_char
  utf8_two n e s = rw (chars_cons d (e ∷ s), n, n, yes_true (within 194 244 d) lead) (flat_two (second e) (utf8 s))

  utf8_three : char_len d ≡ 3 → (e f : ℕ) (s : List ℕ) → utf8 (d ∷ e ∷ f ∷ s) ≡ second e && (continues f && utf8 s)
  unfolding utf8 is_char
  utf8_three n e f s = rw (chars_cons d (e ∷ f ∷ s), n, n, yes_true (within 194 244 d) lead) (flat_three (second e) (continues f) (utf8 s))

  utf8_four : char_len d ≡ 4 → (e f g : ℕ) (s : List ℕ) → utf8 (d ∷ e ∷ f ∷ g ∷ s) ≡ second e && (continues f && (continues g && utf8 s))
  unfolding utf8 is_char
  utf8_four n e f g s = rw (chars_cons d (e ∷ f ∷ g ∷ s), n, n, yes_true (within 194 244 d) lead) (flat_four (second e) (continues f) (continues g) (utf8 s))

  -- the text ends before the character does
  utf8_short : (s : List ℕ) → length (d ∷ s) < char_len d → utf8 (d ∷ s) ≡ false
  utf8_short s h =
      utf8_stop (d ∷ s) 0 (omega arith)
      (char_at_none (d ∷ s) 0 (omega arith) (char_len d) refl (omega (arith, within_low 194 244 d lead))
      (rw (lt-leb (char_len d) (length (d ∷ s) - 0) (omega arith)) (and-false (within 194 244 d))))

-- no character starts with the byte
utf8_bad : (d : ℕ) (s : List ℕ) → 128 ≤ d → within 194 244 d ≡ false → utf8 (d ∷ s) ≡ false
utf8_bad d s h e = utf8_stop (d ∷ s) 0 (omega arith) (char_at_none (d ∷ s) 0 (omega arith) (char_len d) refl h (rw e))

utf8_one : (d : ℕ) (s : List ℕ) → d < 128 → utf8 (d ∷ s) ≡ utf8 s
utf8_one d s h = utf8_right (d ∷ []) s (utf8_ascii (d ∷ []) (yes_and (is_ascii d) true (lt→ltb d 128 h) tt))

-- ---- a text after a whole character

and_when : (a x y : Bool) → (T a → x ≡ y) → a && x ≡ a && y
and_when true x y f = f tt
and_when false x y f = refl

module _ (a b c d : ℕ) (low : c < 192) (mid : b < 224) (far : a < 240) where
  -- a byte that leads a character, and is placed well after a whole one
  led : (s : List ℕ) → T (within 194 244 d) → placed_all a b c (d ∷ s) ≡ placed_all b c d s
  unfolding placed_all
  led s t = rw (placed_first a b c d low mid far, yes_true (within 194 244 d) t, or-true (is_ascii d))

-- the rest of a character after its lead byte d
module _ (b c d : ℕ) (low : c < 192) (mid : b < 224) where
  rest_two : T (within 194 223 d) → (e : ℕ) (s : List ℕ) → ((p q r : ℕ) → r < 192 → q < 224 → p < 240 → placed_all p q r s ≡ utf8 s)
      → placed_all b c d (e ∷ s) ≡ utf8 (d ∷ e ∷ s)
  unfolding placed_all
  rest_two t e s next =
      let lo : 194 ≤ d = within_low 194 223 d t in
      let hi : d ≤ 223 = within_high 194 223 d t in
      let w = within (second_low d) (second_high d) e in
      rw (placed_second b c d e (omega arith))
      (and_when w (placed_all c d e s) (utf8 s)
      (λ u. next c d e (omega (arith, second_high_lem d, within_high (second_low d) (second_high d) e u)) (omega arith) (omega arith)))
      ∙ sym (utf8_two d (to_within 194 244 d lo (omega arith)) (len_two d t) e s)

  rest_three : T (within 224 239 d) → (e f : ℕ) (s : List ℕ) → ((p q r : ℕ) → r < 192 → q < 224 → p < 240 → placed_all p q r s ≡ utf8 s)
      → placed_all b c d (e ∷ f ∷ s) ≡ utf8 (d ∷ e ∷ f ∷ s)
  unfolding placed_all
  rest_three t e f s next =
      let lo : 224 ≤ d = within_low 224 239 d t in
      let hi : d ≤ 239 = within_high 224 239 d t in
      let w = within (second_low d) (second_high d) e in
      rw (placed_second b c d e (omega arith))
      (and_when w (placed c d e f && placed_all d e f s) (continues f && utf8 s)
      (λ u.
      let tail : e < 192 = omega (arith, second_high_lem d, within_high (second_low d) (second_high d) e u) in
      rw (placed_third c d e f tail lo)
      (and_when (continues f) (placed_all d e f s) (utf8 s)
      (λ v. next d e f (omega (arith, within_high 128 191 f v)) (omega arith) (omega arith)))))
      ∙ sym (utf8_three d (to_within 194 244 d (omega arith) (omega arith)) (len_three d t) e f s)

  rest_four : T (within 240 244 d) → (e f g : ℕ) (s : List ℕ) → ((p q r : ℕ) → r < 192 → q < 224 → p < 240 → placed_all p q r s ≡ utf8 s)
      → placed_all b c d (e ∷ f ∷ g ∷ s) ≡ utf8 (d ∷ e ∷ f ∷ g ∷ s)
  unfolding placed_all
  rest_four t e f g s next =
      let lo : 240 ≤ d = within_low 240 244 d t in
      let w = within (second_low d) (second_high d) e in
      rw (placed_second b c d e (omega arith))
      (and_when w (placed c d e f && (placed d e f g && placed_all e f g s)) (continues f && (continues g && utf8 s))
      (λ u.
      let tail : e < 192 = omega (arith, second_high_lem d, within_high (second_low d) (second_high d) e u) in
      rw (placed_third c d e f tail (omega arith))
      (and_when (continues f) (placed d e f g && placed_all e f g s) (continues g && utf8 s)
      (λ v.
      let next_tail : f < 192 = omega (arith, within_high 128 191 f v) in
      rw (placed_fourth d e f g next_tail lo)
      (and_when (continues g) (placed_all e f g s) (utf8 s)
      (λ x. next e f g (omega (arith, within_high 128 191 g x)) (omega arith) (omega arith)))))))
      ∙ sym (utf8_four d (to_within 194 244 d (omega arith) (within_high 240 244 d t)) (len_four d t) e f g s)

-- the character is cut short
module _ (b c d : ℕ) where
  cut_one : 194 ≤ d → d ≤ 244 → 2 ≤ char_len d → placed_all b c d [] ≡ utf8 (d ∷ [])
  unfolding placed_all
  cut_one lo hi n = broken_one b c d (omega arith) ∙ sym (utf8_short d (to_within 194 244 d lo hi) [] (omega arith))

  cut_two : (e : ℕ) → 224 ≤ d → d ≤ 244 → 3 ≤ char_len d → placed_all b c d (e ∷ []) ≡ utf8 (d ∷ e ∷ [])
  unfolding placed_all
  cut_two e lo hi n =
      rw (broken_two c d e lo) (and-false (placed b c d e)) ∙ sym (utf8_short d (to_within 194 244 d (omega arith) hi) (e ∷ []) (omega arith))

  cut_three : (e f : ℕ) → 240 ≤ d → d ≤ 244 → 4 ≤ char_len d → placed_all b c d (e ∷ f ∷ []) ≡ utf8 (d ∷ e ∷ f ∷ [])
  unfolding placed_all
  cut_three e f lo hi n =
      rw (broken_three d e f lo, and-false (placed c d e f)) (and-false (placed b c d e))
      ∙ sym (utf8_short d (to_within 194 244 d (omega arith) hi) (e ∷ f ∷ []) (omega arith))

-- the first bytes of characters of one to four bytes, and those that start none
by_lead : {X : Type 0} (d : ℕ) → (d < 128 → X) → (128 ≤ d → within 194 244 d ≡ false → X) → (T (within 194 223 d) → X) → (T (within 224 239 d) → X)
    → (T (within 240 244 d) → X) → X
by_lead d one bad two three four =
    by_test (ltb d 128) (λ t. one (ltb_yes t))
    (λ t. by_test (within 194 244 d)
    (λ u.
    let lo : 194 ≤ d = within_low 194 244 d u in
    let hi : d ≤ 244 = within_high 194 244 d u in
    by_test (ltb d 224) (λ v. two (to_within 194 223 d lo (omega (arith, ltb_yes {a = d} {b = 224} v))))
    (λ v. by_test (ltb d 240)
    (λ w. three (to_within 224 239 d (ltb_no v) (omega (arith, ltb_yes {a = d} {b = 240} w))))
    (λ w. four (to_within 240 244 d (ltb_no w) hi))))
    (λ u. bad (ltb_no t) (no_false (within 194 244 d) u)))

module _ (a b c d : ℕ) (low : c < 192) (mid : b < 224) (far : a < 240) (s : List ℕ) where
  step_one : d < 128 → placed_all b c d s ≡ utf8 s → placed_all a b c (d ∷ s) ≡ utf8 (d ∷ s)
  unfolding placed_all
  step_one h e = rw (placed_first a b c d low mid far, lt-ltb d 128 h) e ∙ sym (utf8_one d s h)

  step_bad : 128 ≤ d → within 194 244 d ≡ false → placed_all a b c (d ∷ s) ≡ utf8 (d ∷ s)
  unfolding placed_all
  step_bad h e = rw (placed_first a b c d low mid far, le-ltb d 128 h, e) (sym (utf8_bad d s h e))

  step_lead : T (within 194 244 d) → placed_all b c d s ≡ utf8 (d ∷ s) → placed_all a b c (d ∷ s) ≡ utf8 (d ∷ s)
  step_lead t e = led a b c d low mid far s t ∙ e

  step_two : T (within 194 223 d) → placed_all b c d s ≡ utf8 (d ∷ s) → placed_all a b c (d ∷ s) ≡ utf8 (d ∷ s)
  step_two t e = step_lead (to_within 194 244 d (within_low 194 223 d t) (omega (arith, within_high 194 223 d t))) e

  step_three : T (within 224 239 d) → placed_all b c d s ≡ utf8 (d ∷ s) → placed_all a b c (d ∷ s) ≡ utf8 (d ∷ s)
  step_three t e = step_lead (to_within 194 244 d (omega (arith, within_low 224 239 d t)) (omega (arith, within_high 224 239 d t))) e

  step_four : T (within 240 244 d) → placed_all b c d s ≡ utf8 (d ∷ s) → placed_all a b c (d ∷ s) ≡ utf8 (d ∷ s)
  step_four t e = step_lead (to_within 194 244 d (omega (arith, within_low 240 244 d t)) (within_high 240 244 d t)) e

placed_nil : (a b c : ℕ) → c < 192 → b < 224 → a < 240 → placed_all a b c [] ≡ utf8 []
unfolding placed_all
placed_nil a b c low mid far = to_whole a b c low mid far ∙ sym (yes_true (utf8 []) (utf8_of [] tt))

-- After a whole character, or at the start of a text, each byte is placed well and the last character is whole exactly if the text is UTF-8.
pub placed_utf8 : (s : List ℕ) (a b c : ℕ) → c < 192 → b < 224 → a < 240 → placed_all a b c s ≡ utf8 s
placed_utf8 [] a b c low mid far = placed_nil a b c low mid far
placed_utf8 (d ∷ []) a b c low mid far =
    by_lead d
    (λ h. step_one a b c d low mid far [] h (placed_nil b c d (omega arith) (omega arith) (omega arith)))
    (λ h e. step_bad a b c d low mid far [] h e)
    (λ t. step_two a b c d low mid far [] t (cut_one b c d (within_low 194 223 d t) (omega (arith, within_high 194 223 d t)) (omega (arith, len_two d t))))
    (λ t. step_three a b c d low mid far [] t (cut_one b c d (omega (arith, within_low 224 239 d t)) (omega (arith, within_high 224 239 d t)) (omega (arith, len_three d t))))
    (λ t. step_four a b c d low mid far [] t (cut_one b c d (omega (arith, within_low 240 244 d t)) (within_high 240 244 d t) (omega (arith, len_four d t))))
placed_utf8 (d ∷ e ∷ []) a b c low mid far =
    by_lead d
    (λ h. step_one a b c d low mid far (e ∷ []) h (placed_utf8 (e ∷ []) b c d (omega arith) (omega arith) (omega arith)))
    (λ h k. step_bad a b c d low mid far (e ∷ []) h k)
    (λ t. step_two a b c d low mid far (e ∷ []) t (rest_two b c d low mid t e [] placed_nil))
    (λ t. step_three a b c d low mid far (e ∷ []) t (cut_two b c d e (within_low 224 239 d t) (omega (arith, within_high 224 239 d t)) (omega (arith, len_three d t))))
    (λ t. step_four a b c d low mid far (e ∷ []) t (cut_two b c d e (omega (arith, within_low 240 244 d t)) (within_high 240 244 d t) (omega (arith, len_four d t))))
placed_utf8 (d ∷ e ∷ f ∷ []) a b c low mid far =
    by_lead d
    (λ h. step_one a b c d low mid far (e ∷ f ∷ []) h (placed_utf8 (e ∷ f ∷ []) b c d (omega arith) (omega arith) (omega arith)))
    (λ h k. step_bad a b c d low mid far (e ∷ f ∷ []) h k)
    (λ t. step_two a b c d low mid far (e ∷ f ∷ []) t (rest_two b c d low mid t e (f ∷ []) (placed_utf8 (f ∷ []))))
    (λ t. step_three a b c d low mid far (e ∷ f ∷ []) t (rest_three b c d low mid t e f [] placed_nil))
    (λ t. step_four a b c d low mid far (e ∷ f ∷ []) t (cut_three b c d e f (within_low 240 244 d t) (within_high 240 244 d t) (omega (arith, len_four d t))))
placed_utf8 (d ∷ e ∷ f ∷ g ∷ s) a b c low mid far =
    by_lead d
    (λ h. step_one a b c d low mid far (e ∷ f ∷ g ∷ s) h (placed_utf8 (e ∷ f ∷ g ∷ s) b c d (omega arith) (omega arith) (omega arith)))
    (λ h k. step_bad a b c d low mid far (e ∷ f ∷ g ∷ s) h k)
    (λ t. step_two a b c d low mid far (e ∷ f ∷ g ∷ s) t (rest_two b c d low mid t e (f ∷ g ∷ s) (placed_utf8 (f ∷ g ∷ s))))
    (λ t. step_three a b c d low mid far (e ∷ f ∷ g ∷ s) t (rest_three b c d low mid t e f (g ∷ s) (placed_utf8 (g ∷ s))))
    (λ t. step_four a b c d low mid far (e ∷ f ∷ g ∷ s) t (rest_four b c d low mid t e f g s (placed_utf8 s)))

-- ---- the test as code makes it

-- q: whether a tail is due
abbrev tests : Bool → ℕ → ℕ → Bool
tests q c d =
    (q && continues d || not q && not (continues d)) && not (eqb d 192 || eqb d 193) && ltb d 245 && not (eqb c 224 && ltb d 160)
    && not (eqb c 237 && leb 160 d) && not (eqb c 240 && ltb d 144) && not (eqb c 244 && leb 144 d)

-- two tests that agree at every byte, and that nothing greater passes
agree_all : (f g : ℕ → Bool) → T (all_below (λ k. same_test (f k) (g k)) 256) → ((k : ℕ) → 256 ≤ k → f k ≡ false) → ((k : ℕ) → 256 ≤ k → g k ≡ false)
    → (d : ℕ) → f d ≡ g d
agree_all f g t u v d = by_test (ltb d 256) (λ h. agree f g 256 t d (ltb_yes h)) (λ h. u d (ltb_no h) ∙ sym (v d (ltb_no h)))

module _ (c lo hi : ℕ) (bound : hi ≤ 191) where
  second_by : T (all_below (λ k. same_test (tests true c k) (within lo hi k)) 256) → (d : ℕ) → tests true c d ≡ within lo hi d
  second_by t d =
      agree_all (tests true c) (within lo hi) t (λ k h. rw (lt-leb k 191 (omega arith), and-false (leb 128 k)))
      (λ k h. rw (lt-leb k hi (omega arith)) (and-false (leb lo k))) d

-- the second byte of a character
second_tests : (c d : ℕ) → tests true c d ≡ within (second_low c) (second_high c) d
unfolding second_low second_high
second_tests c d =
    by_test (eqb c 224) (λ t. rw (eqb→eq c 224 t) (second_by 224 160 191 (omega arith) tt d))
    (λ t. by_test (eqb c 237) (λ u. rw (eqb→eq c 237 u) (second_by 237 128 159 (omega arith) tt d))
    (λ u. by_test (eqb c 240) (λ v. rw (eqb→eq c 240 v) (second_by 240 144 191 (omega arith) tt d))
    (λ v. by_test (eqb c 244) (λ w. rw (eqb→eq c 244 w) (second_by 244 128 143 (omega arith) tt d))
    (λ w. rw (no_false (eqb c 224) t, no_false (eqb c 237) u, no_false (eqb c 240) v, no_false (eqb c 244) w) (second_by 0 128 191 (omega arith) tt d)))))

-- any other byte
other_tests : (q : Bool) (d : ℕ) → tests q 0 d ≡ cond q (continues d) (is_ascii d || within 194 244 d)
other_tests true d = second_by 0 128 191 (omega arith) tt d
other_tests false d =
    agree_all (tests false 0) (λ k. is_ascii k || within 194 244 k) tt
    (λ k h. rw (le-ltb k 245 (omega arith), and-false (not (continues k) && not (eqb k 192 || eqb k 193))))
    (λ k h. rw (le-ltb k 128 (omega arith), lt-leb k 244 (omega arith)) (and-false (leb 194 k))) d

pub placed_by : (a b c d : ℕ) → tests (leb 192 c || leb 224 b || leb 240 a) c d ≡ placed a b c d
unfolding placed
placed_by a b c d =
    by_test (leb 192 c) (λ t. rw (yes_true (leb 192 c) t) (second_tests c d))
    (λ t.
    let h : c < 192 = leb_no t in
    rw (no_false (leb 192 c) t, ne_eqb c 224 (λ e. absurd (omega arith)), ne_eqb c 237 (λ e. absurd (omega arith)), ne_eqb c 240 (λ e. absurd (omega arith)), ne_eqb c 244 (λ e. absurd (omega arith)))
    (other_tests (leb 224 b || leb 240 a) d))

-- ---- by position

module _ (p : ℕ → Bool) (i : ℕ) where
  pub all_at_here : (n : ℕ) → T (all_at p i n) → (k : ℕ) → k < n → T (p (i + k))
  unfolding all_at
  all_at_here zero t k h = absurd (not-suc-le-zero h)
  all_at_here (suc n) t k h =
      let both = and_yes (all_at p i n) (p (i + n)) t in
      by_test (eqb k n) (λ e. rw (eqb→eq k n e) both.1) (λ e. all_at_here n both.0 k (omega (arith, eqb_no {a = k} {b = n} e)))

  pub all_at_make : (n : ℕ) → ((k : ℕ) → k < n → T (p (i + k))) → T (all_at p i n)
  unfolding all_at
  all_at_make zero f = tt
  all_at_make (suc n) f = yes_and (all_at p i n) (p (i + n)) (all_at_make n (λ k h. f k (omega arith))) (f n (omega arith))

-- ---- windows among characters of at most three bytes

module _ (a b c d : ℕ) (t : T (placed3 a b c d)) where
  abbrev due : Bool
  due = leb 192 c || leb 224 b

  abbrev right : Bool
  right = due && continues d || not due && not (continues d)

  abbrev led_well : Bool
  led_well = not (eqb d 192 || eqb d 193)

  abbrev long_enough : Bool
  long_enough = not (eqb c 224 && ltb d 160)

  abbrev no_surrogate : Bool
  no_surrogate = not (eqb c 237 && leb 160 d)

  parts3 : T (right && led_well) × ((d < 240) × (T long_enough × (T no_surrogate × (a < 240))))
  unfolding placed3
  parts3 =
      let five = and_yes (right && led_well && ltb d 240 && long_enough && no_surrogate) (ltb a 240) t in
      let four = and_yes (right && led_well && ltb d 240 && long_enough) no_surrogate five.0 in
      let three = and_yes (right && led_well && ltb d 240) long_enough four.0 in
      let two = and_yes (right && led_well) (ltb d 240) three.0 in
      (two.0, (ltb_yes two.1, (three.1, (four.1, ltb_yes five.1))))

  three_placed : c < 240 → T (placed a b c d)
  three_placed h =
      let p = parts3 in
      let low : d < 245 = omega (arith, p.1.0) in
      let far : a < 240 = p.1.1.1.1 in
      let first : T (right && led_well && ltb d 245 && long_enough && no_surrogate) =
      yes_and (right && led_well && ltb d 245 && long_enough) no_surrogate
      (yes_and (right && led_well && ltb d 245) long_enough (yes_and (right && led_well) (ltb d 245) p.0 (lt→ltb d 245 low)) p.1.1.0)
      p.1.1.1.0 in
      let same : tests (due || leb 240 a) c d ≡ right && led_well && ltb d 245 && long_enough && no_surrogate =
      rw (lt-leb 240 a far, or-false due, ne_eqb c 240 (λ e. absurd (omega arith)), ne_eqb c 244 (λ e. absurd (omega arith)))
      (and-true (right && led_well && ltb d 245 && long_enough && no_surrogate && true)
      ∙ and-true (right && led_well && ltb d 245 && long_enough && no_surrogate)) in
      let all : T (tests (due || leb 240 a) c d) = true_yes (tests (due || leb 240 a) c d) (same ∙ yes_true (right && led_well && ltb d 245 && long_enough && no_surrogate) first) in
      rw (placed_by a b c d) at all

-- in a block of three or more the byte c of each window is d or a of another
pub three_block : (s : List ℕ) (at n : ℕ) → 3 ≤ n → T (all_at (window_at placed3 s) at n) → T (all_at (window_at placed s) at n)
three_block s at n h t =
    all_at_make (window_at placed s) at n
    (λ k l. three_placed (get_or s (at + k) 0) (get_or s (at + k + 1) 0) (get_or s (at + k + 2) 0) (get_or s (at + k + 3) 0) (each k l) (low k l))
  where
    each : (k : ℕ) → k < n → T (window_at placed3 s (at + k))
    each k l = all_at_here (window_at placed3 s) at n t k l

    low : (k : ℕ) → k < n → get_or s (at + k + 2) 0 < 240
    low zero l =
        let i : at + 2 ≡ at + 0 + 2 = omega arith in
        rw i at (parts3 (get_or s (at + 2) 0) (get_or s (at + 2 + 1) 0) (get_or s (at + 2 + 2) 0) (get_or s (at + 2 + 3) 0) (each 2 (omega arith))).1.1.1.1
    low (suc k) l =
        let i : at + k + 3 ≡ at + suc k + 2 = omega arith in
        rw i at (parts3 (get_or s (at + k) 0) (get_or s (at + k + 1) 0) (get_or s (at + k + 2) 0) (get_or s (at + k + 3) 0) (each k (omega arith))).1.0

-- what a loop that tests n windows from i on has found after some of them
pub record Seen (p : ℕ → Bool) (i n : ℕ) (ok : Bool) : Type 0 where
  pub is : ok ≡ all_at p i n

module _ {p : ℕ → Bool} {i : ℕ} where
  pub seen_none : Seen p i 0 true
  unfolding all_at
  seen_none = record { is = refl }

  pub seen_more : {n : ℕ} {ok : Bool} → Seen p i n ok → Seen p i (n + 1) (ok && p (i + n))
  unfolding all_at
  seen_more {n} t = record { is = rw add-one (ap (λ (o : Bool). o && p (i + n)) t.is) }

  pub seen_all : {n : ℕ} {ok : Bool} (m : ℕ) → n ≡ m → Seen p i n ok → ok ≡ all_at p i m
  seen_all m e t = rw e at t.is

-- a loop over the bytes from the fourth on, as code tests them
module _ (f : ℕ → ℕ → ℕ → ℕ → Bool) (s : List ℕ) {ok : Bool} (i : ℕ) where
  pub window_more : {r : Bool} → 3 ≤ i → ok ≡ all_at (window_at f s) 0 (i - 3)
      → r ≡ f (get_or s (i - 3) 0) (get_or s (i - 2) 0) (get_or s (i - 1) 0) (get_or s i 0) → ok && r ≡ all_at (window_at f s) 0 (i + 1 - 3)
  unfolding all_at
  window_more h e k =
      let next : i + 1 - 3 ≡ suc (i - 3) = omega arith in
      let second : i - 3 + 1 ≡ i - 2 = omega arith in
      let third : i - 3 + 2 ≡ i - 1 = omega arith in
      let fourth : i - 3 + 3 ≡ i = omega arith in
      rw (next, zero-add (i - 3), second, third, fourth, e, k)

  pub window_done : 3 ≤ i → length s ≤ i → i ≤ 3 + (length s - 3) → ok ≡ all_at (window_at f s) 0 (i - 3) → ok ≡ all_at (window_at f s) 0 (length s - 3)
  window_done h k l e = let n : i - 3 ≡ length s - 3 = omega arith in rw n at e

-- two tests that agree at each of n places
all_at_same : (p q : ℕ → Bool) (i j n : ℕ) → ((k : ℕ) → k < n → p (i + k) ≡ q (j + k)) → all_at p i n ≡ all_at q j n
unfolding all_at
all_at_same p q i j zero f = refl
all_at_same p q i j (suc n) f = rw (all_at_same p q i j n (λ k h. f k (omega arith)), f n (omega arith))

-- the windows of a part of a text are the text's from the part's place on
pub window_part : (f : ℕ → ℕ → ℕ → ℕ → Bool) (s : List ℕ) (at n : ℕ) → all_at (window_at f (take (n + 3) (drop at s))) 0 n ≡ all_at (window_at f s) at n
window_part f s at n = all_at_same (window_at f (take (n + 3) (drop at s))) (window_at f s) 0 at n each
  where
    byte : (k i : ℕ) → k < n → i < 4 → get_or (take (n + 3) (drop at s)) (0 + k + i) 0 ≡ get_or s (at + k + i) 0
    byte k i h l =
        let e : at + (0 + k + i) ≡ at + k + i = omega arith in
        get_or-take (n + 3) (drop at s) (0 + k + i) 0 (omega arith) ∙ get_or-drop at s (0 + k + i) 0 ∙ ap (λ (m : ℕ). get_or s m 0) e

    each : (k : ℕ) → k < n → window_at f (take (n + 3) (drop at s)) (0 + k) ≡ window_at f s (at + k)
    each k h =
        let zeroth : get_or (take (n + 3) (drop at s)) (0 + k) 0 ≡ get_or s (at + k) 0 = rw (add-zero, add-zero) at (byte k 0 h (omega arith)) in
        rw (zeroth, byte k 1 h (omega arith), byte k 2 h (omega arith), byte k 3 h (omega arith))

-- what a loop over blocks has found up to a place: every window before it passes
pub record Clear (p : ℕ → Bool) (at : ℕ) : Type 0 where
  pub here : (k : ℕ) → k < at → T (p k)

module _ {p : ℕ → Bool} where
  pub clear_none : Clear p 0
  clear_none = record { here = λ k h. absurd (not-suc-le-zero h) }

  clear_of_lem : (n : ℕ) → T (all_at p 0 n) → Clear p n
  clear_of_lem n t = record { here = λ k h. rw (zero-add k) at (all_at_here p 0 n t k h) }

  pub clear_all_lem : {n : ℕ} → Clear p n → T (all_at p 0 n)
  clear_all_lem {n} c = all_at_make p 0 n (λ k h. rw (zero-add k) (c.here k h))

  -- a block that starts at or before the place
  pub clear_over : {at : ℕ} (from n : ℕ) → from ≤ at → Clear p at → T (all_at p from n) → Clear p (from + n)
  clear_over {at} from n h c t = record {
    here = λ k l.
        by_test (ltb k at) (λ u. c.here k (ltb_yes u))
        (λ u.
        let up : at ≤ k = ltb_no u in
        let e : from + (k - from) ≡ k = omega arith in
        rw e at (all_at_here p from n t (k - from) (omega arith)));
  }

  pub clear_block : {at : ℕ} (n : ℕ) → Clear p at → all_at p at n ≡ true → Clear p (at + n)
  clear_block {at} n c e = clear_over at n (omega arith) c (true_yes (all_at p at n) e)

-- what a loop over the blocks of a text has found where `rest` is left of it
pub record Passed (f : ℕ → ℕ → ℕ → ℕ → Bool) (s rest : List ℕ) : Type 0 where
  pub few : length rest ≤ length s
  pub is : rest ≡ drop (length s - length rest) s
  pub clear : Clear (window_at f s) (length s - length rest)

module _ {f : ℕ → ℕ → ℕ → ℕ → Bool} {s : List ℕ} where
  pub passed_none : Passed f s s
  passed_none = let e : length s - length s ≡ 0 = omega arith in record { few = omega arith; is = rw e; clear = rw e clear_none }

  -- a block of n bytes after three
  module _ {rest block : List ℕ} (g : Passed f s rest) (n : ℕ) (h : n + 3 ≤ length rest) (b : block ≡ take (n + 3) rest) where
    pub passed_part : all_at (window_at f block) 0 (length block - 3) ≡ all_at (window_at f s) (length s - length rest) n
    passed_part =
        let size : length (take (n + 3) rest) - 3 ≡ n = rw length-take (omega arith) in
        rw (b, size) (rw (← g.is) at (window_part f s (length s - length rest) n))

    pub passed_more : {more : List ℕ} → more ≡ drop n rest → all_at (window_at f block) 0 (length block - 3) ≡ true → Passed f s more
    passed_more {more} e t =
        let size : length more ≡ length rest - n = rw (e, length-drop) in
        let at : length s - length more ≡ length s - length rest + n = omega (arith, g.few) in
        record {
          few = omega (arith, g.few);
          is = rw at (e ∙ ap (drop n) g.is ∙ drop-drop n (length s - length rest) s);
          clear = rw at (clear_block n g.clear (sym passed_part ∙ t));
        }

-- a block that does not pass
pub block_fails : (p : ℕ → Bool) (at n m : ℕ) → at + n ≤ m → all_at p at n ≡ false → false ≡ all_at p 0 m
block_fails p at n m h e =
    by_test (all_at p 0 m)
    (λ t. let c = clear_of_lem m t in absurd (rw e at (all_at_make p at n (λ k l. c.here (at + k) (omega arith)))))
    (λ t. sym (no_false (all_at p 0 m) t))

module _ {p : ℕ → Bool} where
  -- the last block, which may overlap the one before it
  pub block_last : {at : ℕ} (from n m : ℕ) (r : Bool) → from ≤ at → from + n ≡ m → Clear p at → r ≡ all_at p from n → r ≡ all_at p 0 m
  block_last {at} from n m r h e c k =
      by_test (all_at p from n)
      (λ t. k ∙ yes_true (all_at p from n) t ∙ sym (yes_true (all_at p 0 m) (clear_all_lem (rw e at (clear_over from n h c t)))))
      (λ t. let f = no_false (all_at p from n) t in k ∙ f ∙ block_fails p from n m (omega arith) f)

-- the last n bytes and the three before them, as a slice
pub passed_last : {f : ℕ → ℕ → ℕ → ℕ → Bool} {s rest block : List ℕ} {r : Bool} → Passed f s rest → (n : ℕ) → n + 3 ≤ length s → length rest < n + 3
    → block ≡ take (length s - (length s - (n + 3))) (drop (length s - (n + 3)) s) → r ≡ all_at (window_at f block) 0 (length block - 3) → r ≡ all_at (window_at f s) 0 (length s - 3)
passed_last {f} {s} {rest} {block} {r} g n h l b e =
    let from = length s - (n + 3) in
    let size : length s - from ≡ n + 3 = omega arith in
    let is : block ≡ take (n + 3) (drop from s) = rw size at b in
    let count : length block - 3 ≡ n = rw (is, length-take, length-drop) (omega arith) in
    let part : all_at (window_at f block) 0 n ≡ all_at (window_at f s) from n = rw is (window_part f s from n) in
    block_last from n (length s - 3) r (omega (arith, g.few)) (omega arith) g.clear (rw count at e ∙ part)

module _ (s : List ℕ) where
  from_step : (k : ℕ) → k + 3 < length s → placed_from s k ≡ window_at placed s k && placed_from s (k + 1)
  unfolding placed_all
  from_step k h =
      let one : k + 1 + 1 ≡ k + 2 = omega arith in
      let two : k + 1 + 2 ≡ k + 3 = omega arith in
      let next : k + 1 + 3 ≡ suc (k + 3) = omega arith in
      rw (one, two, next, drop-cons s (k + 3) 0 h)

  -- n windows from k on
  pub from_block : (k n : ℕ) → k + n + 3 ≤ length s → placed_from s k ≡ all_at (window_at placed s) k n && placed_from s (k + n)
  unfolding all_at
  from_block k zero h = rw add-zero
  from_block k (suc n) h =
      let w = window_at placed s in
      let next : k + n + 1 ≡ k + suc n = omega arith in
      let first = all_at w k n in
      from_block k n (omega arith)
      ∙ ap (λ (x : Bool). first && x) (from_step (k + n) (omega arith))
      ∙ sym (and_assoc first (w (k + n)) (placed_from s (k + n + 1)))
      ∙ ap (λ (m : ℕ). first && w (k + n) && placed_from s m) next

  pub from_end : (k : ℕ) → k + 3 ≡ length s → placed_from s k ≡ window_at (λ a b c d. whole a b c) s k
  unfolding placed_all
  from_end k e = rw (drop_of_length-le s {i = k + 3} (omega arith))

pub from_start : (s : List ℕ) → 3 ≤ length s → utf8 s ≡ starts s && placed_from s 0
unfolding placed_all starts
from_start [] h = absurd (omega arith)
from_start (a ∷ []) h = absurd (omega arith)
from_start (a ∷ b ∷ []) h = absurd (omega arith)
from_start (a ∷ b ∷ c ∷ s) h =
    sym (placed_utf8 (a ∷ b ∷ c ∷ s) 0 0 0 (omega arith) (omega arith) (omega arith))
    ∙ flat (placed 0 0 0 a) (placed 0 0 a b) (placed 0 a b c) (placed_all a b c s)
  where
    flat : (x y z r : Bool) → x && (y && (z && r)) ≡ x && y && z && r
    flat true true z r = refl
    flat true false z r = refl
    flat false y z r = refl

-- as code tests a text of three bytes or more
module _ (s : List ℕ) (h : 3 ≤ length s) where
  abbrev end : ℕ
  end = length s - 3

  pub utf8_windows : utf8 s ≡ starts s && (all_at (window_at placed s) 0 end && whole (get_or s end 0) (get_or s (end + 1) 0) (get_or s (end + 2) 0))
  utf8_windows = from_start s h ∙ rw (from_block s 0 end (omega arith), zero-add end, from_end s end (omega arith))

  pub utf8_no_start : (r : Bool) → r ≡ starts s → r ≡ false → false ≡ utf8 s
  utf8_no_start r e f = sym (utf8_windows ∙ rw (← e, f))

  pub utf8_no_end : (r : Bool) → r ≡ whole (get_or s end 0) (get_or s (end + 1) 0) (get_or s (end + 2) 0) → r ≡ false → false ≡ utf8 s
  utf8_no_end r e f = sym (utf8_windows ∙ rw (← e, f, and-false (all_at (window_at placed s) 0 end)) (and-false (starts s)))

  pub utf8_all : (x y r : Bool) → x ≡ starts s → x ≡ true → y ≡ whole (get_or s end 0) (get_or s (end + 1) 0) (get_or s (end + 2) 0) → y ≡ true
      → r ≡ all_at (window_at placed s) 0 end → r ≡ utf8 s
  utf8_all x y r e f g k l = l ∙ sym (utf8_windows ∙ rw (← e, f, ← g, k) (and-true (all_at (window_at placed s) 0 end)))
