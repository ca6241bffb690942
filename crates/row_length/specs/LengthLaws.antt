-- A row measured word by word.
use Rattle.std.specs.Prelude.{◌≡◌, true, ◌&&◌, List, ◌∷◌, ℕ, ◌+◌, ◌-◌, ◌*◌, ◌≤◌, ◌<◌, min, length, take, drop, get_or, leb, ltb}
use Rattle.std.proofs.Common.{sym, ap, ◌∙◌, arith, length-append, leb-true, ltb-true}
use Rattle.utf8.specs.Utf8.{char_len}
use Rattle.utf8.specs.Utf8Laws.{char_len_some}
use Rattle.word_spelling.specs.Cost.{byte_cost, cost}
use Rattle.word_spelling.specs.SpellingLaws.{cost_one}
use Rattle.word_spelling.specs.HighChar.{HighChar}
use Rattle.word_spelling.specs.HighCharLaws.{both, one_byte, ascii_len, char_cost_lem, whole_end, whole_take, whole_cost}
use Rattle.word_spelling.specs.FirstChars.{first_chars, cost_in}
use Rattle.word_spelling.specs.FirstCharsLaws.{cost_in_lem}
use Rattle.row.specs.Word.{word}
use Rattle.row.specs.Row.{row, row_after}
use Rattle.row.proofs.FitsLaws.{length_word_in}
use Rattle.row.specs.WordEndLaws.{between}
use Rattle.row.proofs.WordEndLaws.{span_char, span_join, row_end, first_step, first_none}
use Rattle.row.proofs.RowLaws.{row_after_none}
use Rattle.word_choice.specs.EndInQLaws.{Stepped, WordAt, cost_join, word_at_small, rest_step, rest_more, rest_within}

-- ---- characters

-- one, up to place e
pub stepped_char : (s : List ℕ) (i left e m : ℕ) → i < length s → e ≡ min (i + char_len (get_or s i 0)) (length s) → m ≡ cost (between s i e) → Stepped s i left e m
stepped_char s i left e m h he hm = record {
  span = span_char s i e h he;
  more = omega (arith, char_len_some (get_or s i 0));
  size = hm;
  small = omega (arith, char_cost_lem s i e m he hm);
  single = λ k. he;
}

-- one that is whole and of which no byte is ASCII
pub stepped_high : {s : List ℕ} {i left r : ℕ} → 0 < r → HighChar s i r → Stepped s i left (i + r) (3 * r)
stepped_high {s} {i} {left} {r} hr k =
    stepped_char s i left (i + r) (3 * r) (omega (arith, k.fits hr)) (whole_end hr k) (whole_cost hr k ∙ ap cost (sym (whole_take hr k)))

-- one that is ASCII
pub stepped_ascii : (s : List ℕ) (i left m : ℕ) → i < length s → get_or s i 0 < 128 → m ≡ byte_cost (get_or s i 0) → Stepped s i left (i + 1) m
stepped_ascii s i left m h a e =
    stepped_char s i left (i + 1) m h (omega (arith, ascii_len (get_or s i 0) a)) (cost_one (get_or s i 0) m e ∙ ap cost (sym (one_byte s i h)))

-- some, and more after them, which what is left holds together
pub stepped_join : {s : List ℕ} {i left e e' m m' : ℕ} → Stepped s i left e m → Stepped s e left e' m' → m + m' ≤ left → m + m' ≤ 63 → Stepped s i left e' (m + m')
stepped_join {s} {i} {left} {e} {e'} p q h k = record {
  span = span_join p.span q.span;
  more = omega (arith, p.more, q.more);
  size = omega (arith, p.size, q.size, cost_join s i e e' (omega (arith, p.more)) (omega (arith, q.more)));
  small = k;
  single = λ l. absurd (omega arith);
}

-- the test of the room and of the text for four
pub roomy_four : (left n : ℕ) → leb 12 left && leb 4 n ≡ true → (12 ≤ left) × (4 ≤ n)
roomy_four left n e = let p = both (leb 12 left) (leb 4 n) e in (leb-true 12 left p.0, leb-true 4 n p.1)

-- four that are ASCII, in what holds any four
pub stepped_bytes : (s : List ℕ) (i left x y z w : ℕ) → leb 12 left && leb 4 (length s - i) ≡ true → get_or s i 0 < 128
    → ltb (get_or s (i + 1) 0) 128 && ltb (get_or s (i + 1 + 1) 0) 128 && ltb (get_or s (i + 1 + 1 + 1) 0) 128 ≡ true
    → (x ≡ byte_cost (get_or s i 0)) × (x ≤ 3) → (y ≡ byte_cost (get_or s (i + 1) 0)) × (y ≤ 3) → (z ≡ byte_cost (get_or s (i + 1 + 1) 0)) × (z ≤ 3)
    → (w ≡ byte_cost (get_or s (i + 1 + 1 + 1) 0)) × (w ≤ 3) → Stepped s i left (i + 1 + 1 + 1 + 1) (x + y + z + w)
stepped_bytes s i left x y z w t a bcd hx hy hz hw =
    let roomy = (roomy_four left (length s - i) t).0 in
    let h = (roomy_four left (length s - i) t).1 in
    let p = both (ltb (get_or s (i + 1) 0) 128 && ltb (get_or s (i + 1 + 1) 0) 128) (ltb (get_or s (i + 1 + 1 + 1) 0) 128) bcd in
    let q = both (ltb (get_or s (i + 1) 0) 128) (ltb (get_or s (i + 1 + 1) 0) 128) p.0 in
    let b = ltb-true (get_or s (i + 1) 0) 128 q.0 in
    let c = ltb-true (get_or s (i + 1 + 1) 0) 128 q.1 in
    let d = ltb-true (get_or s (i + 1 + 1 + 1) 0) 128 p.1 in
    let s1 = stepped_ascii s i left x (omega arith) a hx.0 in
    let s2 = stepped_ascii s (i + 1) left y (omega arith) b hy.0 in
    let s3 = stepped_ascii s (i + 1 + 1) left z (omega arith) c hz.0 in
    let s4 = stepped_ascii s (i + 1 + 1 + 1) left w (omega arith) d hw.0 in
    let s12 = stepped_join s1 s2 (omega (arith, hx.1, hy.1)) (omega (arith, hx.1, hy.1)) in
    let s123 = stepped_join s12 s3 (omega (arith, hx.1, hy.1, hz.1)) (omega (arith, hx.1, hy.1, hz.1)) in
    stepped_join s123 s4 (omega (arith, hx.1, hy.1, hz.1, hw.1)) (omega (arith, hx.1, hy.1, hz.1, hw.1))

-- the same, by the table of first characters
pub stepped_four : (s first : List ℕ) (i left x y z w : ℕ) → first ≡ first_chars → leb 12 left && leb 4 (length s - i) ≡ true → get_or s i 0 < 128
    → ltb (get_or s (i + 1) 0) 128 && ltb (get_or s (i + 1 + 1) 0) 128 && ltb (get_or s (i + 1 + 1 + 1) 0) 128 ≡ true
    → (x ≡ cost_in first (get_or s i 0)) × (x ≤ 3) → (y ≡ cost_in first (get_or s (i + 1) 0)) × (y ≤ 3) → (z ≡ cost_in first (get_or s (i + 1 + 1) 0)) × (z ≤ 3)
    → (w ≡ cost_in first (get_or s (i + 1 + 1 + 1) 0)) × (w ≤ 3) → Stepped s i left (i + 1 + 1 + 1 + 1) (x + y + z + w)
stepped_four s first i left x y z w e t a bcd hx hy hz hw =
    let p = both (ltb (get_or s (i + 1) 0) 128 && ltb (get_or s (i + 1 + 1) 0) 128) (ltb (get_or s (i + 1 + 1 + 1) 0) 128) bcd in
    let q = both (ltb (get_or s (i + 1) 0) 128) (ltb (get_or s (i + 1 + 1) 0) 128) p.0 in
    let b = ltb-true (get_or s (i + 1) 0) 128 q.0 in
    let c = ltb-true (get_or s (i + 1 + 1) 0) 128 q.1 in
    let d = ltb-true (get_or s (i + 1 + 1 + 1) 0) 128 p.1 in
    stepped_bytes s i left x y z w t a bcd
    (cost_in_lem (get_or s i 0) e (omega arith) hx.0, hx.1)
    (cost_in_lem (get_or s (i + 1) 0) e (omega arith) hy.0, hy.1)
    (cost_in_lem (get_or s (i + 1 + 1) 0) e (omega arith) hz.0, hz.1)
    (cost_in_lem (get_or s (i + 1 + 1 + 1) 0) e (omega arith) hw.0, hw.1)

-- ---- the row

-- on the name's line stand n characters, up to place e of the text, and the row of what is left follows
pub record BeginsWith (column : ℕ) (s : List ℕ) (e n : ℕ) : Type 0 where
  pub within : e ≤ length s
  pub small : n ≤ 78 * e
  pub size : n + length (row (drop e s)) ≡ length (row_after column s)

pub begins_none : (column : ℕ) (s : List ℕ) → 63 ≤ column → BeginsWith column s 0 0
begins_none column s h = record { within = omega arith; small = omega arith; size = omega (arith, ap length (row_after_none column s h)) }

module _ (column : ℕ) {s : List ℕ} {e n : ℕ} (w : WordAt (63 - column) s e n) where
  pub begins_empty : e ≡ 0 → BeginsWith column s 0 0
  begins_empty h = record { within = omega arith; small = omega arith; size = omega (arith, ap length (first_none column w.end h)) }

  pub begins_word : 0 < e → BeginsWith column s e (13 + n)
  begins_word h = record {
    within = w.end.span.within;
    small = omega (arith, word_at_small w);
    size = omega (
      arith,
      ap length (first_step column w.end h),
      length-append (32 ∷ word w.kind (between s 0 e)) (row (drop e s)),
      length_word_in w.kind (between s 0 e),
      w.size,
    );
  }

-- a word on a line of its own
module _ (s : List ℕ) (i : ℕ) {e m : ℕ} (h : i < length s) (w : WordAt 63 (take (length s - i) (drop i s)) e m) where
  pub measured_on : (whole n : ℕ) → n + length (row (drop i s)) ≡ whole → n + (15 + m) + length (row (drop (i + e) s)) ≡ whole
  measured_on whole n k =
      let bytes = between (take (length s - i) (drop i s)) 0 e in
      omega (
        arith,
        k,
        ap length (rest_step s i h w.end),
        length-append (13 ∷ 10 ∷ 32 ∷ word w.kind bytes) (row (drop (i + e) s)),
        length_word_in w.kind bytes,
        w.size,
      )

  pub measured_more : 0 < e
  measured_more = rest_more s i h w.end

  pub measured_within : i + e ≤ length s
  measured_within = rest_within s i h w.end

pub measured_all : (s : List ℕ) (i n whole : ℕ) → length s ≤ i → n + length (row (drop i s)) ≡ whole → n ≡ whole
measured_all s i n whole h k = omega (arith, k, ap length (row_end s i h))
