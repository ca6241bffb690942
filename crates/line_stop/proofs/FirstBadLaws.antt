-- Laws of the first byte at which a text stops being a beginning of any line: there is one only, how it is found byte by byte, and
-- that a malformed line has it in itself.
use Rattle.std.specs.Prelude.{◌≡◌, refl, Bool, not, List, [], ◌∷◌, ◌++◌, ℕ, zero, suc, ◌≤◌, ◌<◌, T, ltb, length, take}
use Rattle.std.proofs.Common.{sym, ap, ◌∙◌, append_assoc, not-suc-le-zero, arith, T_not, length-append}
use Rattle.std.proofs.lemmas.List.{take-append-le}
use Rattle.std.proofs.Math.Facts.{and_yes, ltb_yes, ltb_no}
use Rattle.lists.specs.Lists.{all}
use Rattle.lists.specs.ListsLaws.{by_test}
use Rattle.line_stop.specs.FirstBad.{Beginning, FirstBad, WithCrlf}

-- there is one at the most
pub first_once : {L : List ℕ → Type 0} {s : List ℕ} {n m : ℕ} → FirstBad L s n → FirstBad L s m → n ≡ m
first_once {n = n} {m = m} f g =
    by_test (ltb n m)
    (λ t. let h : n < m = ltb_yes t in absurd (f.bad (omega (arith, g.inside)) (g.good n h)))
    (λ t.
    by_test (ltb m n)
    (λ u. let h : m < n = ltb_yes u in absurd (g.bad (omega (arith, f.inside)) (f.good m h)))
    (λ u. omega (arith, ltb_no {a = n} {b = m} t, ltb_no {a = m} {b = n} u)))

module _ {L : List ℕ → Type 0} where
  pub first_end : FirstBad L [] 0
  first_end = record { inside = omega arith; good = λ i h. absurd (not-suc-le-zero h); bad = λ h. absurd (not-suc-le-zero h) }

  -- the first byte is it
  pub first_here : {b : ℕ} {s : List ℕ} → (Beginning L (b ∷ []) → ⊥) → FirstBad L (b ∷ s) 0
  first_here never = record { inside = omega arith; good = λ i h. absurd (not-suc-le-zero h); bad = λ h. never }

  -- it is not: what is left is asked of what may follow that byte
  pub first_later : {b n : ℕ} {s : List ℕ} → Beginning L (b ∷ []) → FirstBad (λ l. L (b ∷ l)) s n → FirstBad L (b ∷ s) (suc n)
  first_later {b} {n} {s} some f = record { inside = omega (arith, f.inside); good = good; bad = λ h. f.bad (omega arith) }
    where
      good : (i : ℕ) → i < suc n → Beginning L (take (suc i) (b ∷ s))
      good zero h = some
      good (suc i) h = f.good i (omega arith)

  pub first_same : {M : List ℕ → Type 0} {s : List ℕ} {n : ℕ} → ((l : List ℕ) → M l → L l) → ((l : List ℕ) → L l → M l) → FirstBad L s n → FirstBad M s n
  first_same {s = s} {n = n} there back f = record {
    inside = f.inside;
    good = λ i h. let b = f.good i h in (b.0, back (take (suc i) s ++ b.0) b.1);
    bad = λ h b. f.bad h (b.0, there (take (suc n) s ++ b.0) b.1);
  }

  -- no text at all: its first byte, if any
  pub first_none : ((l : List ℕ) → L l → ⊥) → (s : List ℕ) → FirstBad L s 0
  first_none none [] = first_end
  first_none none (b ∷ s) = first_here (λ p. none (b ∷ p.0) p.1)

  -- it is asked of the bytes up to it only
  pub first_front : (a b : List ℕ) (n : ℕ) → n < length a → FirstBad L (a ++ b) n → FirstBad L a n
  first_front a b n h f = record {
    inside = omega arith;
    good = λ i k. rw (take-append-le (suc i) a b (omega arith)) at (f.good i k);
    bad = λ k p. f.bad (omega (arith, length-append a b)) (rw (take-append-le (suc n) a b h) p);
  }

-- it is the same for two forms that the same lines have
pub first_formed : {Formed Other : List ℕ → Type 0} {s : List ℕ} {n : ℕ} → ((l : List ℕ) → Formed l → Other l) → ((l : List ℕ) → Other l → Formed l)
    → FirstBad (WithCrlf Formed) s n → FirstBad (WithCrlf Other) s n
first_formed there back f =
    first_same
    (λ l w. record { text = w.text; ends = w.ends; formed = back w.text w.formed })
    (λ l w. record { text = w.text; ends = w.ends; formed = there w.text w.formed })
    f

-- ---- a malformed line has the byte in itself, its CRLF with it, whatever follows it

-- a text without CR is cut from its CRLF in one way only
same_text : (text line more : List ℕ) → (f : ℕ → Bool) → (T (f 13) → ⊥) → T (all f line) → text ++ (13 ∷ 10 ∷ more) ≡ line ++ (13 ∷ 10 ∷ []) → text ≡ line
same_text [] [] more f z t e = refl
same_text [] (c ∷ line) more f z t e =
    let head : 13 ≡ c = cc in
    absurd (z (rw head (and_yes (f c) (all f line) t).0))
same_text (b ∷ text) [] more f z t e = absurd (omega (arith, ap length e, length-append text (13 ∷ 10 ∷ more)))
same_text (b ∷ text) (c ∷ line) more f z t e =
    let head : b ≡ c = cc in
    let tail : text ++ (13 ∷ 10 ∷ more) ≡ line ++ (13 ∷ 10 ∷ []) = cc in
    let rest = same_text text line more f z (and_yes (f c) (all f line) t).1 tail in
    rw (head, rest)

take_line : (text more : List ℕ) → take (suc (suc (length text))) (text ++ (13 ∷ 10 ∷ more)) ≡ text ++ (13 ∷ 10 ∷ [])
take_line [] more = refl
take_line (b ∷ text) more = ap (λ (l : List ℕ). b ∷ l) (take_line text more)

-- where every byte of a text that passes has f, which a CR has not
pub stop_inside : (formed : List ℕ → Bool) (f : ℕ → Bool) → (T (f 13) → ⊥) → ((l : List ℕ) → T (formed l) → T (all f l))
    → (text more : List ℕ) (n : ℕ) → T (not (formed text)) → FirstBad (WithCrlf (λ t. T (formed t))) (text ++ (13 ∷ 10 ∷ more)) n → n < suc (suc (length text))
stop_inside formed f z each text more n t first =
    by_test (ltb n (suc (suc (length text))))
    (λ u. ltb_yes u)
    (λ u.
    let far : suc (suc (length text)) ≤ n = ltb_no {a = n} {b = suc (suc (length text))} u in
    let b = first.good (suc (length text)) (omega arith) in
    let p : WithCrlf (λ t. T (formed t)) ((text ++ (13 ∷ 10 ∷ [])) ++ b.0) = rw (take_line text more) at b.1 in
    let e : text ++ (13 ∷ 10 ∷ b.0) ≡ p.text ++ (13 ∷ 10 ∷ []) = sym (append_assoc text (13 ∷ 10 ∷ []) b.0) ∙ p.ends in
    let same = same_text text p.text b.0 f z (each p.text p.formed) e in
    absurd (T_not (formed text) t (rw same p.formed)))
