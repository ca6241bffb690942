-- Laws of fields by position, as code finds them.
use Rattle.std.proofs.Common.{ne_eqb, sym, not-suc-le-zero, suc-add, zero-add, add-one, arith, length-drop, length-take, take-append-drop, drop_of_length-le, drop-drop, get_or-drop, length-take-le}
use Rattle.std.specs.Prelude.{◌≡◌, refl, Bool, true, false, cond, not, ◌&&◌, List, [], ◌∷◌, ◌++◌, ℕ, zero, suc, ◌+◌, ◌-◌, ◌≤◌, ◌<◌, T, eqb, length, take, drop, get_or}
use Rattle.std.proofs.Math.Seq.{drop-cons, take-nil}
use Rattle.std.proofs.Math.Facts.{and_yes}
use Rattle.lists.specs.Lists.{all, joined}
use Rattle.lists.specs.ListsLaws.{cond_has, yes_true, true_yes, no_false}
use Rattle.lists.specs.CutByLaws.{cut_nil, cut_front, cut_next, cut_joined, cut_few}
use Rattle.lists.specs.Run.{run}
use Rattle.lists.specs.RunLaws.{run_le, run_all}
use Rattle.header_line.specs.Lines.{name_byte, name_len}
use Rattle.line.specs.Line.{blank, crlf, not_cr}
use Rattle.line.specs.LineLaws.{crlf_inside}
use Rattle.header.specs.Fields.{fold, field_len, fields_of, name_of, value_of, line_count}

-- ---- where a field ends

-- the CRLF that ends a field stands at the front
unfoldable pub ends : List ℕ → Bool
ends h = crlf h && not (fold h)

pub ends_by : (h : List ℕ) (i b : ℕ) (line end : Bool) → line ≡ crlf (drop i h) → b ≡ get_or h (i + 2) 0 → end ≡ blank b → line && not end ≡ ends (drop i h)
unfolding ends fold
ends_by h i b line end l e k = rw (k, e, l, get_or-drop i h 2 0) (both (crlf (drop i h)) (blank (get_or h (i + 2) 0)))
  where
    both : (a b : Bool) → a && not b ≡ a && not (a && b)
    both true b = refl
    both false b = refl

-- no CR stands there
pub ends_not : (h : List ℕ) (i : ℕ) → (get_or h i 0 ≡ 13 → ⊥) → false ≡ ends (drop i h)
unfolding ends crlf
ends_not h i n =
    let there : i + 0 ≡ i = omega arith in
    let first : get_or (drop i h) 0 0 ≡ get_or h i 0 = rw there at (get_or-drop i h 0 0) in
    rw (first, ne_eqb (get_or h i 0) 13 n)

pub len_cons : (b : ℕ) (rest : List ℕ) → field_len (b ∷ rest) ≡ cond (ends (b ∷ rest)) 2 (suc (field_len rest))
unfolding field_len ends
len_cons b rest = refl

pub no_end : (b : ℕ) (rest : List ℕ) → T (not_cr b) → ends (b ∷ rest) ≡ false
unfolding ends crlf
no_end b rest t = rw (no_false (eqb b 13) t)

pub len_past : (a b : List ℕ) → T (all not_cr a) → field_len (a ++ b) ≡ length a + field_len b
len_past [] b h = sym (zero-add (field_len b))
len_past (x ∷ a) b h =
    let both = and_yes (not_cr x) (all not_cr a) h in
    rw (len_cons x (a ++ b), no_end x (a ++ b) both.0, len_past a b both.1, suc-add)

module _ (h : List ℕ) (i : ℕ) where
  pub field_run : (r : ℕ) → r ≡ i + run not_cr (drop i h) → i + field_len (drop i h) ≡ r + field_len (drop r h)
  field_run r e =
      let n = run not_cr (drop i h) in
      let part = take n (drop i h) in
      let whole : part ++ drop (i + n) h ≡ drop i h = rw (← drop-drop n i h) (take-append-drop n (drop i h)) in
      let size : length part ≡ n = length-take-le n (drop i h) (run_le not_cr (drop i h)) in
      let past : field_len (drop i h) ≡ n + field_len (drop (i + n) h) = rw (whole, size) at (len_past part (drop (i + n) h) (run_all not_cr (drop i h))) in
      rw e (omega (arith, past))

  pub field_stop : i < length h → ends (drop i h) ≡ true → i + field_len (drop i h) ≡ i + 2
  field_stop k e = let front = drop-cons h i 0 k in rw (front, len_cons (get_or h i 0) (drop (suc i) h), rw front at e)

  pub field_step : i < length h → ends (drop i h) ≡ false → i + field_len (drop i h) ≡ i + 1 + field_len (drop (i + 1) h)
  field_step k e =
      let front = drop-cons h i 0 k in
      rw (add-one, front, len_cons (get_or h i 0) (drop (suc i) h), rw front at e) (omega arith)

  pub field_none : length h ≤ i → i + field_len (drop i h) ≡ i
  unfolding field_len
  field_none k = rw (drop_of_length-le h {i = i} k) (omega arith)

ends_crlf : (h : List ℕ) → ends h ≡ true → 2 ≤ length h
unfolding ends
ends_crlf h e = omega (arith, crlf_inside h 0 (yes_true (crlf h) (and_yes (crlf h) (not (fold h)) (true_yes (crlf h && not (fold h)) e)).0))

pub field_le : (h : List ℕ) → field_len h ≤ length h
unfolding field_len
field_le [] = omega arith
field_le (b ∷ rest) =
    let k = field_le rest in
    rw (len_cons b rest)
    (cond_has (λ n. n ≤ suc (length rest)) (ends (b ∷ rest)) 2 (suc (field_len rest))
    (λ t. ends_crlf (b ∷ rest) (yes_true (ends (b ∷ rest)) t))
    (λ t. omega arith))

pub field_some : (b : ℕ) (rest : List ℕ) → 0 < field_len (b ∷ rest)
field_some b rest = rw (len_cons b rest) (cond_has (λ n. 0 < n) (ends (b ∷ rest)) 2 (suc (field_len rest)) (λ t. omega arith) (λ t. omega arith))

-- the place after the field at `at`
pub field_after : (h : List ℕ) (at to : ℕ) → at < length h → to ≡ at + field_len (drop at h) → (at < to) × (to ≤ length h)
field_after h at to k e =
    let some : 0 < field_len (drop at h) = rw (drop-cons h at 0 k) (field_some (get_or h at 0) (drop (suc at) h)) in
    (omega arith, omega (arith, field_le (drop at h), length-drop at h))

-- ---- a header is its fields

pub fields_nil : fields_of [] ≡ []
unfolding fields_of
fields_nil = cut_nil field_len

pub fields_front : (h : List ℕ) → 0 < length h → fields_of h ≡ take (field_len h) h ∷ fields_of (drop (field_len h) h)
unfolding fields_of
fields_front [] k = absurd (not-suc-le-zero k)
fields_front (b ∷ rest) k = cut_front field_len (b ∷ rest) k (field_some b rest)

-- the first field of what is left from `at` on, where code knows the place after it as `to`
pub fields_next : (h : List ℕ) (at to : ℕ) → at < length h → to ≡ at + field_len (drop at h) → fields_of (drop at h) ≡ take (to - at) (drop at h) ∷ fields_of (drop to h)
unfolding fields_of
fields_next h at to k e = cut_next field_len h at to k e (field_after h at to k e).0

-- nothing is lost or invented between fields
pub fields_joined : (h : List ℕ) → joined (fields_of h) ≡ h
unfolding fields_of
fields_joined h = cut_joined field_len h

pub fields_few : (h : List ℕ) → length (fields_of h) ≤ length h
unfolding fields_of
fields_few h = cut_few field_len h

-- ---- a field's value

pub value_none : (field : List ℕ) (n : ℕ) → n ≡ name_len field → length field < n + 3 → take (0 - 0) (drop 0 field) ≡ value_of field
unfolding value_of
value_none field n e k =
    let short : length (take (length field - 2) field) ≤ name_len field + 1 = omega (arith, length-take (length field - 2) field) in
    rw (drop_of_length-le (take (length field - 2) field) {i = name_len field + 1} short)

pub drop_take : (m n : ℕ) (xs : List ℕ) → drop m (take n xs) ≡ take (n - m) (drop m xs)
drop_take zero n xs = let e : n - 0 ≡ n = omega arith in rw e
drop_take (suc m) zero xs = let e : zero - suc m ≡ 0 = omega arith in rw e
drop_take (suc m) (suc n) [] = sym (take-nil (suc n - suc m))
drop_take (suc m) (suc n) (x ∷ xs) = let e : suc n - suc m ≡ n - m = omega arith in rw e (drop_take m n xs)

pub value_part : (field : List ℕ) (n : ℕ) → n ≡ name_len field → take (length field - 2 - (n + 1)) (drop (n + 1) field) ≡ value_of field
unfolding value_of
value_part field n e = rw (drop_take (name_len field + 1) (length field - 2) field, e)

pub length_value : (field : List ℕ) → length (value_of field) ≤ length field
unfolding value_of
length_value field = omega (arith, length-drop (name_len field + 1) (take (length field - 2) field), length-take (length field - 2) field)

pub name_le : (field : List ℕ) → name_len field ≤ length field
unfolding name_len
name_le field = run_le name_byte field

-- as code takes the name from the front of a field
module _ (field : List ℕ) (n : ℕ) (e : n ≡ name_len field) where
  pub name_part : take n field ≡ name_of field
  unfolding name_of
  name_part = rw e

  pub name_size : n ≡ length (take n field)
  name_size = sym (length-take-le n field (rw e (name_le field)))

-- ---- the lines that end before a place

module _ (s : List ℕ) (i : ℕ) where
  pub lines_yes : i < length s → crlf (drop i s) ≡ true → line_count (drop i s) ≡ 1 + line_count (drop (i + 1) s)
  unfolding line_count
  lines_yes k e = let front = drop-cons s i 0 k in rw (add-one, front, rw front at e) (omega arith)

  pub lines_no : i < length s → crlf (drop i s) ≡ false → line_count (drop i s) ≡ line_count (drop (i + 1) s)
  unfolding line_count
  lines_no k e = let front = drop-cons s i 0 k in rw (add-one, front, rw front at e)

  pub lines_end_lem : length s ≤ i → line_count (drop i s) ≡ 0
  unfolding line_count
  lines_end_lem k = rw (drop_of_length-le s {i = i} k)

-- what a loop that counts the lines of s has found before i
pub record Counted (s : List ℕ) (i n : ℕ) : Type 0 where
  pub few : n ≤ i
  pub left : n + line_count (drop i s) ≡ line_count s

pub counted_none : (s : List ℕ) → Counted s 0 0
counted_none s = record { few = omega arith; left = zero-add (line_count s) }

module _ {s : List ℕ} {i n : ℕ} (c : Counted s i n) where
  pub counted_yes : i < length s → crlf (drop i s) ≡ true → Counted s (i + 1) (n + 1)
  counted_yes k e = record { few = omega (arith, c.few); left = omega (arith, c.left, lines_yes s i k e) }

  pub counted_no : i < length s → crlf (drop i s) ≡ false → Counted s (i + 1) n
  counted_no k e = record { few = omega (arith, c.few); left = omega (arith, c.left, lines_no s i k e) }

  pub counted_end : length s ≤ i → n ≡ line_count s
  counted_end k = omega (arith, c.left, lines_end_lem s i k)
