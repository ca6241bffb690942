-- In a text whose first bytes are regular, the characters that a word in B holds end where a step back finds a start.
use Rattle.std.specs.Prelude.{◌≡◌, Bool, true, false, not, cond, ◌&&◌, ◌||◌, List, ◌∷◌, ℕ, zero, suc, ◌+◌, ◌-◌, ◌*◌, ◌≤◌, ◌<◌, T, leb, ltb, eqb, length, take, drop, get_or}
use Rattle.std.proofs.Common.{sym, ap, ◌∙◌, ⊎_elim, arith, T_not, leb→le, le→leb, eqb→eq, ltb→lt, length-take, length-drop}
use Rattle.std.specs.Int.Count.{count_leading_zeros}
use Rattle.std.proofs.Math.Facts.{or_yes, leb_no, ltb_no, eqb_no}
use Rattle.lists.specs.Byte.{within}
use Rattle.lists.specs.ListsLaws.{by_test, cond_yes, cond_no, cond_has}
use Rattle.lists.specs.ByteLaws.{within_high, to_within, below, implies}
use Rattle.utf8.specs.Utf8.{char_len, continues}
use Rattle.utf8.specs.Utf8Laws.{chars_at}
use Rattle.row.specs.declared.Encoding.TheVariants.{B}
use Rattle.row.specs.WordEnd.{Span, WordEnd}
use Rattle.row.proofs.WordEndLaws.{span_none, span_char, span_join}
use Rattle.word_choice.specs.Block.{count}
use Rattle.word_choice.specs.BlockLaws.{placed, Regular, step_back}
use Rattle.word_choice.specs.ChoiceLaws.{bytes_in_b, FullInB, word_in_b, highs_over}

-- ---- one byte and the two before it

iff : (asked tail low : Bool) → T ((asked && tail || not asked && not tail) && low) → (T asked → T tail) × (T tail → T asked) × T low
iff true true low t = (λ u. tt, λ u. tt, t)
iff true false low t = absurd t
iff false true low t = absurd t
iff false false low t = (λ u. absurd u, λ u. absurd u, t)

module _ (a b c : ℕ) (t : T (placed a b c)) where
  low : c < 240
  low = ltb→lt c 240 (iff (leb 192 b || leb 224 a) (continues c) (ltb c 240) t).2

  asked_near : 192 ≤ b → T (continues c)
  asked_near h = (iff (leb 192 b || leb 224 a) (continues c) (ltb c 240) t).0 (left (leb 192 b) (leb 224 a) (le→leb 192 b h))
    where
      left : (x y : Bool) → T x → T (x || y)
      left true y u = tt
      left false y u = absurd u

  asked_far : 224 ≤ a → T (continues c)
  asked_far h = (iff (leb 192 b || leb 224 a) (continues c) (ltb c 240) t).0 (right (leb 192 b) (leb 224 a) (le→leb 224 a h))
    where
      right : (x y : Bool) → T y → T (x || y)
      right true y u = tt
      right false y u = u

  -- it continues no character that neither asks for
  not_asked : b < 192 → a < 224 → T (not (continues c))
  not_asked h k =
      by_test (continues c)
      (λ u. ⊎_elim (λ v. absurd (omega (arith, leb→le 192 b v))) (λ v. absurd (omega (arith, leb→le 224 a v)))
      (or_yes (leb 192 b) (leb 224 a) ((iff (leb 192 b || leb 224 a) (continues c) (ltb c 240) t).1 u)))
      (λ u. u)

continues_le : (c : ℕ) → T (continues c) → c ≤ 191
continues_le c t = within_high 128 191 c t

-- ---- the first byte of a character

data Lead (b : ℕ) : Type 0 where
  one : b < 128 → char_len b ≡ 1 → Lead b
  two : 192 ≤ b → b < 224 → char_len b ≡ 2 → Lead b
  three : 224 ≤ b → char_len b ≡ 3 → Lead b

lead : (b : ℕ) → b < 240 → T (not (continues b)) → Lead b
unfolding char_len count_leading_zeros
lead b h t =
    by_test (ltb b 128) (λ u. one (ltb→lt b 128 u) (cond_yes (ltb b 128) 1 _ u))
    (λ u. by_test (leb 192 b)
    (λ v. by_test (ltb b 224)
    (λ w. two (leb→le 192 b v) (ltb→lt b 224 w) (eqb→eq (char_len b) 2 (implies (within 192 223 b) (eqb (char_len b) 2) (below (λ k. not (within 192 223 k) || eqb (char_len k) 2) 240 tt b h) (to_within 192 223 b (leb→le 192 b v) (omega (arith, ltb→lt b 224 w))))))
    (λ w. three (ltb_no {a = b} {b = 224} w) (eqb→eq (char_len b) 3 (implies (within 224 239 b) (eqb (char_len b) 3) (below (λ k. not (within 224 239 k) || eqb (char_len k) 3) 240 tt b h) (to_within 224 239 b (ltb_no {a = b} {b = 224} w) (omega arith))))))
    (λ v. absurd (T_not (continues b) t (to_within 128 191 b (ltb_no {a = b} {b = 128} u) (omega (arith, leb_no {a = 192} {b = b} v))))))

lead_len : (b : ℕ) → Lead b → (0 < char_len b) × (char_len b ≤ 3)
lead_len b (one h e) = (omega arith, omega arith)
lead_len b (two h k e) = (omega arith, omega arith)
lead_len b (three h e) = (omega arith, omega arith)

-- ---- a step back

not_not : (b : Bool) → T b → T (not (not b))
not_not true t = tt
not_not false t = absurd t

module _ (s : List ℕ) (e : ℕ) where
  back_none : T (not (continues (get_or s e 0))) → step_back s e ≡ e
  back_none t = cond_yes (not (continues (get_or s e 0))) e _ t

  back_one : T (continues (get_or s (suc e) 0)) → T (not (continues (get_or s e 0))) → step_back s (suc e) ≡ e
  back_one t u =
      let before : suc e - 1 ≡ e = omega arith in
      cond_no (not (continues (get_or s (suc e) 0))) (suc e) _ (not_not (continues (get_or s (suc e) 0)) t)
      ∙ rw before (cond_yes (not (continues (get_or s e 0))) e _ u)

  back_two : T (continues (get_or s (suc (suc e)) 0)) → T (continues (get_or s (suc e) 0)) → step_back s (suc (suc e)) ≡ e
  back_two t u =
      let before : suc (suc e) - 1 ≡ suc e = omega arith in
      let first : suc (suc e) - 2 ≡ e = omega arith in
      cond_no (not (continues (get_or s (suc (suc e)) 0))) (suc (suc e)) _ (not_not (continues (get_or s (suc (suc e)) 0)) t)
      ∙ rw (before, first) (cond_no (not (continues (get_or s (suc e) 0))) (suc e) e (not_not (continues (get_or s (suc e) 0)) u))

-- ---- from start to start

module _ (s : List ℕ) (long : 50 ≤ length s) (reg : Regular s) where
  -- a place where a character starts
  record Start (p : ℕ) : Type 0 where
    pub span : Span s 0 p
    pub head : p < 50 → T (not (continues (get_or s p 0)))

  start_lead : (p : ℕ) → p < 50 → Start p → Lead (get_or s p 0)
  start_lead p h b = lead (get_or s p 0) (low (get_or (0 ∷ 0 ∷ s) p 0) (get_or (0 ∷ s) p 0) (get_or s p 0) (reg.each p h)) (b.head h)

  first_start : Start 0
  first_start = record { span = span_none s 0 (omega arith); head = λ h. not_asked 0 0 (get_or s 0 0) (reg.each 0 h) (omega arith) (omega arith) }

  -- the bytes after a first byte of two or three, which continue it
  second_tail : (p : ℕ) → suc p < 50 → 192 ≤ get_or s p 0 → T (continues (get_or s (suc p) 0))
  second_tail p h k = asked_near (get_or (0 ∷ 0 ∷ s) (suc p) 0) (get_or s p 0) (get_or s (suc p) 0) (reg.each (suc p) h) k

  third_tail : (p : ℕ) → suc (suc p) < 50 → 224 ≤ get_or s p 0 → T (continues (get_or s (suc (suc p)) 0))
  third_tail p h k = asked_far (get_or s p 0) (get_or s (suc p) 0) (get_or s (suc (suc p)) 0) (reg.each (suc (suc p)) h) k

  next_head : (p : ℕ) → Start p → p < 47 → Lead (get_or s p 0) → T (not (continues (get_or s (p + char_len (get_or s p 0)) 0)))
  next_head p b h (one k e) =
      let n : p + char_len (get_or s p 0) ≡ suc p = omega arith in
      rw n (not_asked (get_or (0 ∷ s) p 0) (get_or s p 0) (get_or s (suc p) 0) (reg.each (suc p) (omega arith)) (omega arith) far)
    where
      far : get_or (0 ∷ s) p 0 < 224
      far = by_test (leb 224 (get_or (0 ∷ s) p 0))
          (λ t. absurd (T_not (continues (get_or s p 0)) (b.head (omega arith)) (asked_near (get_or (0 ∷ 0 ∷ s) p 0) (get_or (0 ∷ s) p 0) (get_or s p 0) (reg.each p (omega arith)) (omega (arith, leb→le 224 (get_or (0 ∷ s) p 0) t)))))
          (λ t. leb_no {a = 224} {b = get_or (0 ∷ s) p 0} t)
  next_head p b h (two k l e) =
      let n : p + char_len (get_or s p 0) ≡ suc (suc p) = omega arith in
      rw n
      (not_asked (get_or s p 0) (get_or s (suc p) 0) (get_or s (suc (suc p)) 0) (reg.each (suc (suc p)) (omega arith)) (omega (arith, continues_le (get_or s (suc p) 0) (second_tail p (omega arith) k))) l)
  next_head p b h (three k e) =
      let n : p + char_len (get_or s p 0) ≡ suc (suc (suc p)) = omega arith in
      rw n
      (not_asked (get_or s (suc p) 0) (get_or s (suc (suc p)) 0) (get_or s (suc (suc (suc p))) 0) (reg.each (suc (suc (suc p))) (omega arith))
      (omega (arith, continues_le (get_or s (suc (suc p)) 0) (third_tail p (omega arith) k)))
      (omega (arith, continues_le (get_or s (suc p) 0) (second_tail p (omega arith) (omega arith)))))

  next_start : (p : ℕ) → Start p → p < 47 → Start (p + char_len (get_or s p 0))
  next_start p b h =
      let l = start_lead p (omega arith) b in
      let n = lead_len (get_or s p 0) l in
      record {
        span = span_join b.span (span_char s p (p + char_len (get_or s p 0)) (omega arith) (omega (arith, n.1)));
        head = λ k. next_head p b h l;
      }

  -- ---- the character in which the byte at a place stands

  record Found (limit : ℕ) : Type 0 where
    pub e : ℕ
    pub start : Start e
    pub small : e ≤ limit
    pub past : limit < e + char_len (get_or s e 0)

  find : (limit : ℕ) → limit < 47 → (fuel p : ℕ) → Start p → p ≤ limit → limit - p < fuel → Found limit
  find limit h zero p b k f = absurd (omega arith)
  find limit h (suc fuel) p b k f =
      by_test (leb (p + char_len (get_or s p 0)) limit)
      (λ t. find limit h fuel (p + char_len (get_or s p 0)) (next_start p b (omega arith)) (leb→le _ limit t) (omega (arith, f, leb→le _ limit t, lead_len (get_or s p 0) (start_lead p (omega arith) b))))
      (λ t. record { e = p; start = b; small = k; past = leb_no {a = p + char_len (get_or s p 0)} {b = limit} t })

  -- a step back from a place in it finds its start
  back_is : (limit e : ℕ) → limit < 47 → Start e → e ≤ limit → limit < e + char_len (get_or s e 0) → step_back s limit ≡ e
  back_is limit e h b k p =
      by_test (eqb limit e) (λ t. rw (eqb→eq limit e t) (back_none s e (b.head (omega arith))))
      (λ t. by_test (eqb limit (suc e))
      (λ u. rw (eqb→eq limit (suc e) u) (back_one s e (in_second (eqb→eq limit (suc e) u) l) (b.head (omega arith))))
      (λ u. let third : limit ≡ suc (suc e) = omega (arith, eqb_no {a = limit} {b = e} t, eqb_no {a = limit} {b = suc e} u, lead_len (get_or s e 0) l) in
      let w = in_third third l in
      rw third (back_two s e (third_tail e (omega arith) w) (second_tail e (omega arith) (omega arith)))))
    where
      l : Lead (get_or s e 0)
      l = start_lead e (omega arith) b

      in_second : limit ≡ suc e → Lead (get_or s e 0) → T (continues (get_or s (suc e) 0))
      in_second q (one m n) = absurd (omega arith)
      in_second q (two m n o) = second_tail e (omega arith) m
      in_second q (three m n) = second_tail e (omega arith) (omega arith)

      in_third : limit ≡ suc (suc e) → Lead (get_or s e 0) → 224 ≤ get_or s e 0
      in_third q (one m n) = absurd (omega arith)
      in_third q (two m n o) = absurd (omega arith)
      in_third q (three m n) = m

  found_full : (limit e : ℕ) → limit < 47 → Start e → e ≤ limit → limit < e + char_len (get_or s e 0) → FullInB limit s e
  found_full limit e h b k p = record {
    span = b.span;
    small = k;
    full = λ c cs j. let same : take (char_len (get_or s e 0)) (drop e s) ≡ c = head_same (sym (chars_at s e (omega arith)) ∙ j) in
        omega (arith, p, ap length (sym same), length-take (char_len (get_or s e 0)) (drop e s), length-drop e s, lead_len (get_or s e 0) (start_lead e (omega arith) b));
  }
    where
      head_same : {x y : List ℕ} {xs ys : List (List ℕ)} → x ∷ xs ≡ y ∷ ys → x ≡ y
      head_same q = cc

  pub back_full : (limit : ℕ) → limit < 47 → FullInB limit s (step_back s limit)
  back_full limit h =
      let f = find limit h (suc limit) 0 first_start (omega arith) (omega arith) in
      rw (back_is limit f.e h f.start f.small f.past) (found_full limit f.e h f.start f.small f.past)

-- it is no further back than two bytes
pub back_near : (s : List ℕ) (n : ℕ) → n ≤ step_back s n + 2
back_near s n =
    cond_has (λ e. n ≤ e + 2) (not (continues (get_or s n 0))) n (cond (not (continues (get_or s (n - 1) 0))) (n - 1) (n - 2)) (λ t. omega arith)
    (λ t. cond_has (λ e. n ≤ e + 2) (not (continues (get_or s (n - 1) 0))) (n - 1) (n - 2) (λ u. omega arith) (λ u. omega arith))

-- a word in B that ends there: many of the first 32 bytes are not ASCII
pub word_back : {room limit : ℕ} {s : List ℕ} → limit ≡ bytes_in_b room → 34 ≤ limit → limit < 47 → 50 ≤ length s → Regular s
    → room < 32 + 2 * count (λ b. leb 128 b) (take 32 s) → WordEnd room s 0 (step_back s limit) B
word_back {room} {limit} {s} l h k long reg t =
    word_in_b l (back_full s long reg limit k) (highs_over room s (step_back s limit) (omega (arith, back_near s limit)) (omega arith) t)
