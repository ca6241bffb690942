-- Laws of fields that are wholly ASCII, one after another.
use Rattle.std.specs.Prelude.{◌≡◌, refl, true, not, ◌&&◌, ℕ, zero, suc, ◌+◌, ◌-◌, ◌≤◌, ◌<◌, leb, eqb, get_or}
use Rattle.std.proofs.Common.{sym, ap, ◌∙◌, eqb→eq, length-append, take-append-drop, take-add, take_at, drop-drop, get_or-drop, get_or-take}
use Rattle.std.proofs.Math.Bool.{false}
use mathlib.Core.List.{List, [], ◌∷◌, ◌++◌, append-nil}
use native.Mathlib.Omega.{arith}
use Rattle.std.proofs.Math.Dec.{T}
use Rattle.std.proofs.Math.ListN.{length, take, drop, length-drop}
use Rattle.std.proofs.Math.Seq.{take_all, length-take-le}
use Rattle.std.proofs.Math.Facts.{and_yes, yes_and, leb_yes, leb_no}
use Rattle.lists.specs.ListsLaws.{by_test, cond_has, yes_true, true_yes, no_false, all_left, all_right, all_at_lem, all_joined, joined_append}
use Rattle.lists.specs.Lists.{all, joined}
use Rattle.lists.specs.Byte.{is_ascii}
use Rattle.lists.specs.Run.{run}
use Rattle.lists.specs.RunLaws.{run_le, run_all, run_after}
use Rattle.utf8.specs.Utf8.{ascii_run}
use Rattle.header_line.specs.Lines.{name_len}
use Rattle.header.specs.Fields.{fold, field_len, fields_of, value_of}
use Rattle.header.specs.AsciiFields.{ascii_fields, ascii_fields_end}
use Rattle.line.specs.Line.{crlf}
use Rattle.header.specs.FieldLaws.{ends, len_cons, field_le, field_some, fields_nil, fields_front, fields_joined}

-- ---- where fields end

-- These fields stand in the first n bytes, and the others after them.
record CutAt (s : List ℕ) (n : ℕ) : Type 0 where
  pub passed : List (List ℕ)
  pub fields : fields_of s ≡ passed ++ fields_of (drop n s)
  pub bytes : joined passed ≡ take n s

none_end : (q : ℕ) → ends (drop q []) ≡ true → ⊥
unfolding ends crlf
none_end zero e = true_yes false e
none_end (suc q) e = true_yes false e

ends_bytes : (s : List ℕ) → ends s ≡ true → (get_or s 0 0 ≡ 13) × (get_or s 1 0 ≡ 10)
unfolding ends crlf
ends_bytes s e =
    let cr = eqb (get_or s 0 0) 13 in
    let lf = eqb (get_or s 1 0) 10 in
    let both = and_yes cr lf (and_yes (cr && lf) (not (fold s)) (true_yes (cr && lf && not (fold s)) e)).0 in
    (eqb→eq (get_or s 0 0) 13 both.0, eqb→eq (get_or s 1 0) 10 both.1)

-- no field goes on past a CRLF that ends one
first_end : (q : ℕ) (s : List ℕ) → ends (drop q s) ≡ true → field_len s ≤ q + 2
unfolding field_len
first_end q [] e = omega arith
first_end zero (b ∷ s) e = rw (len_cons b s, e) (omega arith)
first_end (suc q) (b ∷ s) e =
    let k = first_end q s e in
    rw (len_cons b s) (cond_has (λ n. n ≤ suc q + 2) (ends (b ∷ s)) 2 (suc (field_len s)) (λ t. omega arith) (λ t. omega (arith, k)))

-- nor does one end inside it
not_inside : (q : ℕ) (s : List ℕ) → ends (drop q s) ≡ true → field_len s ≡ q + 1 → ⊥
unfolding field_len
not_inside q [] e f = omega arith
not_inside zero (b ∷ s) e f = let n : field_len (b ∷ s) ≡ 2 = len_cons b s ∙ rw e in omega (arith, n, f)
not_inside (suc zero) (b ∷ s) e f =
    by_test (ends (b ∷ s))
    (λ t. omega (arith, (ends_bytes (b ∷ s) (yes_true (ends (b ∷ s)) t)).1, (ends_bytes s e).0))
    (λ t. let n : field_len (b ∷ s) ≡ suc (field_len s) = len_cons b s ∙ rw (no_false (ends (b ∷ s)) t) in not_inside zero s e (omega (arith, n, f)))
not_inside (suc (suc q)) (b ∷ s) e f =
    by_test (ends (b ∷ s))
    (λ t. let n : field_len (b ∷ s) ≡ 2 = len_cons b s ∙ rw (yes_true (ends (b ∷ s)) t) in omega (arith, n, f))
    (λ t. let n : field_len (b ∷ s) ≡ suc (field_len s) = len_cons b s ∙ rw (no_false (ends (b ∷ s)) t) in not_inside (suc q) s e (omega (arith, n, f)))

module _ (s : List ℕ) (q : ℕ) (some : 0 < length s) (e : ends (drop q s) ≡ true) where
  -- the first field ends there,
  cut_here : field_len s ≡ q + 2 → CutAt s (q + 2)
  cut_here f = record { passed = take (q + 2) s ∷ []; fields = fields_front s some ∙ rw f; bytes = append-nil (take (q + 2) s) }

  -- or before
  cut_later : (n j : ℕ) → n ≡ field_len s → q ≡ n + j → CutAt (drop n s) (j + 2) → CutAt s (q + 2)
  cut_later n j f p c =
      let m : q + 2 ≡ n + (j + 2) = omega arith in
      let more : drop (n + (j + 2)) s ≡ drop (j + 2) (drop n s) = rw drop-drop in
      record {
        passed = take n s ∷ c.passed;
        fields = fields_front s some ∙ rw (← f, c.fields, m, more);
        bytes = rw (c.bytes, m, take-add n (j + 2) s);
      }

some_there : (q : ℕ) (s : List ℕ) → ends (drop q s) ≡ true → (0 < length s) × (0 < field_len s)
some_there q [] e = absurd (none_end q e)
some_there q (b ∷ s) e = (omega arith, field_some b s)

-- by the number of bytes before the CRLF
cut_at : (k q : ℕ) (s : List ℕ) → q ≤ k → ends (drop q s) ≡ true → CutAt s (q + 2)
cut_at zero q s l e =
    let some = some_there q s e in
    let up = first_end q s e in
    let z : q ≡ 0 = omega arith in
    by_test (leb 2 (field_len s))
    (λ t. let two = leb_yes {a = 2} {b = field_len s} t in cut_here s q some.0 e (omega (arith, up, two, z)))
    (λ t. let one = leb_no {a = 2} {b = field_len s} t in absurd (not_inside q s e (omega (arith, one, some.1, z))))
cut_at (suc k) q s l e =
    let n = field_len s in
    let some = some_there q s e in
    let up = first_end q s e in
    by_test (leb (q + 2) n)
    (λ t. cut_here s q some.0 e (omega (arith, up, leb_yes {a = q + 2} {b = n} t)))
    (λ t. let short = leb_no {a = q + 2} {b = n} t in
    by_test (leb n q)
    (λ u. let low = leb_yes {a = n} {b = q} u in
    let there : n + (q - n) ≡ q = omega (arith, low) in
    let after : drop (q - n) (drop n s) ≡ drop q s = rw (drop-drop, there) in
    cut_later s q some.0 e n (q - n) refl (omega (arith, low)) (cut_at k (q - n) (drop n s) (omega (arith, low, some.1, l)) (ap ends after ∙ e)))
    (λ u. absurd (not_inside q s e (omega (arith, short, leb_no {a = n} {b = q} u)))))

-- From `at` up to r stand whole fields, perhaps none.
pub record Boundary (h : List ℕ) (at r : ℕ) : Type 0 where
  pub passed : List (List ℕ)
  pub fields : fields_of (drop at h) ≡ passed ++ fields_of (drop r h)
  pub bytes : joined passed ≡ take (r - at) (drop at h)

pub boundary_none : (h : List ℕ) (at : ℕ) → Boundary h at at
boundary_none h at = let n : at - at ≡ 0 = omega arith in record { passed = []; fields = refl; bytes = rw n }

pub boundary_at : (h : List ℕ) (at q r : ℕ) → at ≤ q → r ≡ q + 2 → ends (drop q h) ≡ true → Boundary h at r
boundary_at h at q r k f e =
    let there : at + (q - at) ≡ q = omega arith in
    let after : drop (q - at) (drop at h) ≡ drop q h = rw (drop-drop, there) in
    let c = cut_at (q - at) (q - at) (drop at h) (omega arith) (ap ends after ∙ e) in
    let size : r - at ≡ q - at + 2 = omega arith in
    let end : at + (q - at + 2) ≡ r = omega arith in
    let rest : drop (q - at + 2) (drop at h) ≡ drop r h = rw (drop-drop, end) in
    record { passed = c.passed; fields = rw (← rest) c.fields; bytes = rw size c.bytes }

-- ---- the last field end before a place

-- no CRLF that ends a field from `at` on has its end past i and up to `to`
pub record NoEnd (h : List ℕ) (at i to : ℕ) : Type 0 where
  pub none : (q : ℕ) → at ≤ q → i < q + 2 → q + 2 ≤ to → ends (drop q h) ≡ false

pub no_end_none : (h : List ℕ) (at to : ℕ) → NoEnd h at to to
no_end_none h at to = record { none = λ q a b c. absurd (omega arith) }

pub no_end_more : {h : List ℕ} {at i to : ℕ} (j : ℕ) → NoEnd h at i to → j + 1 ≡ i → 2 ≤ i → ends (drop (i - 2) h) ≡ false → NoEnd h at j to
no_end_more {h} {at} {i} {to} j g e k f = record {
  none = λ q a b c.
      by_test (leb (q + 2) i)
      (λ t. let w : q + 2 ≤ i = leb_yes t in let there : i - 2 ≡ q = omega arith in rw there at f)
      (λ t. g.none q a (leb_no {a = q + 2} {b = i} t) c);
}

-- what code answers for the last place from `at` up to `to` where a field ends
pub record LastEnd (h : List ℕ) (at to r : ℕ) : Type 0 where
  pub up : at ≤ r
  pub within : r ≤ to
  pub whole : Boundary h at r
  pub last : (q : ℕ) → r ≤ q → q + 2 ≤ to → ends (drop q h) ≡ false

pub last_found : {h : List ℕ} {at to i : ℕ} (q : ℕ) → NoEnd h at i to → at ≤ q → i ≡ q + 2 → i ≤ to → ends (drop q h) ≡ true → LastEnd h at to i
last_found {h} {at} {to} {i} q g a e w f = record {
  up = omega arith;
  within = w;
  whole = boundary_at h at q i a e f;
  last = λ p b c. g.none p (omega arith) (omega arith) c;
}

pub last_none : {h : List ℕ} {at to i : ℕ} → NoEnd h at i to → at ≤ to → i < at + 2 → LastEnd h at to at
last_none {h} {at} {to} {i} g a w = record {
  up = omega arith;
  within = a;
  whole = boundary_none h at;
  last = λ p b c. g.none p b (omega arith) c;
}

-- a field that ends before what is left of a header does ends with its CRLF
len_ends : (s : List ℕ) → field_len s < length s → (2 ≤ field_len s) × (ends (drop (field_len s - 2) s) ≡ true)
unfolding field_len
len_ends [] k = absurd (omega arith)
len_ends (b ∷ s) k =
    by_test (ends (b ∷ s))
    (λ t.
    let e = yes_true (ends (b ∷ s)) t in
    let n : field_len (b ∷ s) ≡ 2 = len_cons b s ∙ rw e in
    let z : field_len (b ∷ s) - 2 ≡ 0 = omega (arith, n) in
    (omega (arith, n), rw z e))
    (λ t.
    let n : field_len (b ∷ s) ≡ suc (field_len s) = len_cons b s ∙ rw (no_false (ends (b ∷ s)) t) in
    let more = len_ends s (omega (arith, n, k)) in
    let z : field_len (b ∷ s) - 2 ≡ suc (field_len s - 2) = omega (arith, n, more.0) in
    (omega (arith, n, more.0), rw z more.1))

-- ---- fields that are ASCII

-- From `at` up to r stand fields that are wholly ASCII, perhaps none.
pub record AsciiFields (h : List ℕ) (at r : ℕ) : Type 0 where
  pub passed : List (List ℕ)
  pub up : at ≤ r
  pub inside : at ≤ length h → r ≤ length h
  pub fields : fields_of (drop at h) ≡ passed ++ fields_of (drop r h)
  pub bytes : joined passed ≡ take (r - at) (drop at h)
  pub ascii : T (all (all is_ascii) passed)

-- these fields and no more
ascii_cut : (a b : List (List ℕ)) → T (all (all is_ascii) a) → ascii_fields b ≡ [] → ascii_fields (a ++ b) ≡ a
unfolding ascii_fields
ascii_cut [] b t e = e
ascii_cut (field ∷ a) b t e =
    let both = and_yes (all is_ascii field) (all (all is_ascii) a) t in
    rw (yes_true (all is_ascii field) both.0, ascii_cut a b both.1 e)

ascii_nil : ascii_fields [] ≡ []
unfolding ascii_fields
ascii_nil = refl

ascii_stop : (field : List ℕ) (more : List (List ℕ)) → all is_ascii field ≡ false → ascii_fields (field ∷ more) ≡ []
unfolding ascii_fields
ascii_stop field more e = rw e

module _ (h : List ℕ) (at high : ℕ) (e : high ≡ at + ascii_run (drop at h)) where
  run_ascii : T (all is_ascii (take (high - at) (drop at h)))
  unfolding ascii_run
  run_ascii = let n : high - at ≡ run is_ascii (drop at h) = omega arith in rw n (run_all is_ascii (drop at h))

  -- all that is left is ASCII
  pub ascii_rest : length h ≤ high → high ≡ ascii_fields_end h at
  unfolding ascii_run ascii_fields_end
  ascii_rest k =
      let s = drop at h in
      let run_whole : run is_ascii s ≡ length s = omega (arith, run_le is_ascii s, length-drop at h) in
      let whole : take (high - at) s ≡ s = take_all (high - at) s (omega arith) in
      let every : T (all (all is_ascii) (fields_of s)) = all_joined is_ascii (fields_of s) (rw (fields_joined s, ← whole) run_ascii) in
      let cut : ascii_fields (fields_of s) ≡ fields_of s = rw append-nil at (ascii_cut (fields_of s) [] every ascii_nil) in
      rw (cut, fields_joined s) (omega arith)

  -- the bytes up to a place
  part_ascii : (to : ℕ) → at ≤ to → to ≤ high → T (all is_ascii (take (to - at) (drop at h)))
  part_ascii to a d =
      let n : high - at ≡ to - at + (high - to) = omega arith in
      all_left is_ascii (take (to - at) (drop at h)) (take (high - to) (drop (to - at) (drop at h))) (rw (← take-add (to - at) (high - to) (drop at h), ← n) run_ascii)

  module _ (within : high < length h) (r : ℕ) (g : LastEnd h at high r) where
    -- the byte where the run ends is not ASCII,
    not_ascii : is_ascii (get_or h high 0) ≡ false
    unfolding ascii_run
    not_ascii =
        let s = drop at h in
        let f : is_ascii (get_or s (run is_ascii s) 0) ≡ false = run_after is_ascii s (omega (arith, length-drop at h)) in
        rw (get_or-drop at h (run is_ascii s) 0, ← e) at f

    -- and it is in the field at r
    past_high : high < r + field_len (drop r h)
    past_high =
        let s = drop r h in
        let n = field_len s in
        by_test (leb (r + n) high)
        (λ t.
        let low : r + n ≤ high = leb_yes t in
        let there = len_ends s (omega (arith, length-drop r h, g.up, low)) in
        let at_end_lem : ends (drop (r + (n - 2)) h) ≡ true = rw (← drop-drop (n - 2) r h) there.1 in
        let never : ends (drop (r + (n - 2)) h) ≡ false = g.last (r + (n - 2)) (omega arith) (omega (arith, there.0, low)) in
        absurd (true_yes false (sym never ∙ at_end_lem)))
        (λ t. leb_no {a = r + n} {b = high} t)

    field_not : all is_ascii (take (field_len (drop r h)) (drop r h)) ≡ false
    field_not =
        let s = drop r h in
        let field = take (field_len s) s in
        by_test (all is_ascii field)
        (λ t.
        let i = high - r in
        let short : i < field_len s = omega (arith, past_high, g.within) in
        let there : r + i ≡ high = omega (arith, g.within) in
        let is : get_or field i 0 ≡ get_or h high 0 = rw (get_or-take (field_len s) s i 0 short, get_or-drop r h i 0, there) in
        let size : length field ≡ field_len s = length-take-le (field_len s) s (field_le s) in
        let yes : T (is_ascii (get_or field i 0)) = all_at_lem is_ascii field i 0 t (omega arith) in
        absurd (rw (is, not_ascii) at yes))
        (λ t. no_false (all is_ascii field) t)

    -- up to the last place where a field ends
    pub ascii_up_to : r ≡ ascii_fields_end h at
    unfolding ascii_fields_end
    ascii_up_to =
        let b = g.whole in
        let every : T (all (all is_ascii) b.passed) = all_joined is_ascii b.passed (rw b.bytes (part_ascii r g.up g.within)) in
        let stop : ascii_fields (fields_of (drop r h)) ≡ [] =
        rw (fields_front (drop r h) (rw length-drop (omega (arith, g.within)))) (ascii_stop _ (fields_of (drop (field_len (drop r h)) (drop r h))) field_not) in
        let cut : ascii_fields (fields_of (drop at h)) ≡ b.passed = rw b.fields (ascii_cut b.passed (fields_of (drop r h)) every stop) in
        let size : length (take (r - at) (drop at h)) ≡ r - at = length-take-le (r - at) (drop at h) (rw length-drop (omega (arith, g.within))) in
        rw (cut, b.bytes, size) (omega (arith, g.up))

-- ---- what a caller makes of the place

ascii_all : (fields : List (List ℕ)) → T (all (all is_ascii) (ascii_fields fields))
unfolding ascii_fields
ascii_all [] = tt
ascii_all (field ∷ fields) =
    cond_has (λ (l : List (List ℕ)). T (all (all is_ascii) l)) (all is_ascii field) (field ∷ ascii_fields fields) []
    (λ t. yes_and (all is_ascii field) (all (all is_ascii) (ascii_fields fields)) t (ascii_all fields))
    (λ t. tt)

-- the others
ascii_others : (fields : List (List ℕ)) → (others : List (List ℕ)) × (fields ≡ ascii_fields fields ++ others)
unfolding ascii_fields
ascii_others [] = ([], refl)
ascii_others (field ∷ fields) =
    let more = ascii_others fields in
    by_test (all is_ascii field)
    (λ t. (more.0, rw (yes_true (all is_ascii field) t) (ap (λ (l : List (List ℕ)). field ∷ l) more.1)))
    (λ t. (field ∷ fields, rw (no_false (all is_ascii field) t)))

-- the fields after some of them
fields_after : (a b : List (List ℕ)) (s : List ℕ) → fields_of s ≡ a ++ b → fields_of (drop (length (joined a)) s) ≡ b
fields_after [] b s e = e
fields_after (field ∷ a) b [] e = absurd (let q : [] ≡ field ∷ (a ++ b) = sym fields_nil ∙ e in let z : ◌≡◌ {A = ℕ} 0 1 = cc in omega arith)
fields_after (field ∷ a) b (x ∷ rest) e =
    let s = x ∷ rest in
    let n = field_len s in
    let q : take n s ∷ fields_of (drop n s) ≡ field ∷ (a ++ b) = sym (fields_front s (omega arith)) ∙ e in
    let first : field ≡ take n s = cc in
    let more : fields_of (drop n s) ≡ a ++ b = cc in
    let size : length field ≡ n = rw first (length-take-le n s (field_le s)) in
    let both : length (field ++ joined a) ≡ n + length (joined a) = length-append field (joined a) ∙ rw size in
    rw (both, ← drop-drop (length (joined a)) n s) (fields_after a b (drop n s) more)

pub ascii_fields_lem : {h : List ℕ} {at r : ℕ} → r ≡ ascii_fields_end h at → AsciiFields h at r
unfolding ascii_fields_end
ascii_fields_lem {h} {at} {r} e =
    let s = drop at h in
    let passed = ascii_fields (fields_of s) in
    let others = ascii_others (fields_of s) in
    let n : r - at ≡ length (joined passed) = omega arith in
    let split : s ≡ joined passed ++ joined others.0 = sym (fields_joined s) ∙ ap joined others.1 ∙ joined_append passed others.0 in
    let size : length s ≡ length (joined passed) + length (joined others.0) = ap length split ∙ length-append (joined passed) (joined others.0) in
    let there : at + length (joined passed) ≡ r = omega arith in
    let after : fields_of (drop r h) ≡ others.0 = rw (← there, ← drop-drop (length (joined passed)) at h) (fields_after passed others.0 s others.1) in
    record {
      passed = passed;
      up = omega arith;
      inside = λ k. omega (arith, size, length-drop at h);
      fields = rw after others.1;
      bytes = sym (rw n (ap (take (length (joined passed))) split ∙ take_at (joined passed) (joined others.0) (length (joined passed)) refl));
      ascii = ascii_all (fields_of s);
    }

-- the value of a field that is ASCII is ASCII
pub value_ascii : (field : List ℕ) → T (all is_ascii field) → T (all is_ascii (value_of field))
unfolding value_of
value_ascii field t =
    let part = take (length field - 2) field in
    let front : T (all is_ascii part) = all_left is_ascii part (drop (length field - 2) field) (rw take-append-drop t) in
    all_right is_ascii (take (name_len field + 1) part) (drop (name_len field + 1) part) (rw take-append-drop front)
