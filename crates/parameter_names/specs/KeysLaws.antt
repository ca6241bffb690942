-- Keys of names: the same names have the same key, so that a name whose key no other has differs from all others.
use Rattle.std.proofs.Common.{eq-eqb, ap, ◌∙◌, not-suc-le-zero, append-nil, append_assoc, eqb→eq, T_not, length-set, length-drop, drop_of_length-le, take_all, take-suc-set}
use Rattle.std.specs.Prelude.{◌≡◌, refl, Bool, true, false, ◌&&◌, List, [], ◌∷◌, ◌++◌, map, ℕ, zero, suc, ◌+◌, ◌-◌, ◌*◌, ◌%◌, ◌≤◌, ◌<◌, T, eqb, ltb, length, take, drop, get_or, set}
use Rattle.std.proofs.Math.Path.{sym}
use Rattle.std.proofs.Math.Bool.{not, and-true, and_assoc}
use Rattle.std.proofs.Math.Numerals.{add-one}
use native.Mathlib.Omega.{arith}
use Rattle.std.proofs.Math.Seq.{drop-cons}
use Rattle.std.proofs.Math.Facts.{and_yes, yes_and, ltb_yes, ltb_no}
use Rattle.lists.specs.CutBy.{cut_by}
use Rattle.lists.specs.CutByLaws.{cut_nil, cut_next}
use Rattle.lists.specs.Lists.{all}
use Rattle.lists.specs.ListsLaws.{by_test, yes_true, true_yes, no_false}
use Rattle.letter_case.specs.LetterCase.{lower, same_any_case}
use Rattle.parameter_names.specs.Names.{marked_len}
use Rattle.parameter_names.specs.NamesLaws.{marked_ahead}

-- ---- a key: the bytes in small letters as the digits of a number, by its remainder
unfoldable pub key_from : ℕ → List ℕ → ℕ
key_from k [] = k
key_from k (b ∷ s) = key_from ((k * 8191 + lower b) % 4294967291) s

abbrev pub key_of : List ℕ → ℕ
key_of s = key_from 0 s

-- what the loop has found before place i
pub record Key (s : List ℕ) (k i : ℕ) : Type 0 where
  pub is : key_from k (drop i s) ≡ key_of s
  pub small : k < 4294967291

module _ {s : List ℕ} {k i : ℕ} (g : Key s k i) where
  pub key_more_lem : {b : ℕ} → i < length s → b ≡ lower (get_or s i 0) → Key s ((k * 8191 + b) % 4294967291) (i + 1)
  unfolding key_from
  key_more_lem h e = record { is = rw (e, add-one i) (rw (drop-cons s i 0 h) at g.is); small = omega arith }

  pub key_all : length s ≤ i → k ≡ key_of s
  unfolding key_from
  key_all h = rw (drop_of_length-le s {i = i} h) at g.is

same_key : (a b : List ℕ) (k : ℕ) → T (same_any_case a b) → key_from k a ≡ key_from k b
unfolding key_from same_any_case
same_key [] [] k h = refl
same_key [] (y ∷ b) k h = absurd h
same_key (x ∷ a) [] k h = absurd h
same_key (x ∷ a) (y ∷ b) k h =
    let both = and_yes (eqb (lower x) (lower y)) (same_any_case a b) h in
    rw (eqb→eq (lower x) (lower y) both.0) (same_key a b ((k * 8191 + lower y) % 4294967291) both.1)

-- ---- a key that none has

unfoldable pub absent_in : List ℕ → ℕ → Bool
absent_in keys key = all (λ other. not (eqb other key)) keys

-- what the loop has found before place j
pub record Absent (keys : List ℕ) (key : ℕ) (absent : Bool) (j : ℕ) : Type 0 where
  pub is : absent_in keys key ≡ absent && absent_in (drop j keys) key

module _ {keys : List ℕ} {key : ℕ} {absent : Bool} {j : ℕ} (g : Absent keys key absent j) where
  pub absent_more : j < length keys → Absent keys key (absent && not (eqb (get_or keys j 0) key)) (j + 1)
  unfolding absent_in
  absent_more h = record { is = g.is ∙ rw (add-one j, drop-cons keys j 0 h) (sym (and_assoc absent (not (eqb (get_or keys j 0) key)) (all (λ other. not (eqb other key)) (drop (suc j) keys)))) }

  pub absent_all : length keys ≤ j → absent ≡ absent_in keys key
  unfolding absent_in
  absent_all h = sym (g.is ∙ rw (drop_of_length-le keys {i = j} h) (and-true absent))

differs : (name other : List ℕ) → T (not (eqb (key_of other) (key_of name))) → T (not (same_any_case name other))
differs name other h =
    by_test (same_any_case name other)
    (λ t. absurd (T_not (eqb (key_of other) (key_of name)) h (rw (same_key name other 0 t) (eqb_same (key_of other)))))
    (λ t. t)
  where
    eqb_same : (n : ℕ) → T (eqb n n)
    eqb_same n = true_yes (eqb n n) (eq-eqb n n refl)

all_other : (name : List ℕ) (names : List (List ℕ)) → T (absent_in (map key_of names) (key_of name)) → T (all (λ other. not (same_any_case name other)) names)
unfolding absent_in
all_other name [] h = tt
all_other name (other ∷ names) h =
    let both = and_yes (not (eqb (key_of other) (key_of name))) (all (λ k. not (eqb k (key_of name))) (map key_of names)) h in
    yes_and (not (same_any_case name other)) (all (λ o. not (same_any_case name o)) names) (differs name other both.0) (all_other name names both.1)

-- ---- the keys of marked names, from a place on

pub record KeysAt (s : List ℕ) (i : ℕ) (keys : List ℕ) : Type 0 where
  pub is : keys ≡ map key_of (cut_by marked_len (drop i s))

pub absent_new : (name s : List ℕ) (at : ℕ) {keys : List ℕ} {key : ℕ} {r : Bool} → KeysAt s at keys → key ≡ key_of name → r ≡ absent_in keys key → r ≡ true
    → true ≡ all (λ other. not (same_any_case name other)) (cut_by marked_len (drop at s))
absent_new name s at k e a t =
    sym (yes_true _ (all_other name (cut_by marked_len (drop at s)) (true_yes _ (rw (k.is, e) at (sym a ∙ t)))))

module _ (s : List ℕ) (i end : ℕ) (h : i < length s) (e : end ≡ i + marked_len (drop i s)) where
  chunk : cut_by marked_len (drop i s) ≡ take (end - i) (drop i s) ∷ cut_by marked_len (drop end s)
  chunk = cut_next marked_len s i end h e (marked_ahead s i end h e)

  module _ (keys : List ℕ) (n : ℕ) (k : KeysAt s i (drop n keys)) where
    first : drop n keys ≡ key_of (take (end - i) (drop i s)) ∷ map key_of (cut_by marked_len (drop end s))
    first = k.is ∙ rw chunk

    pub key_there : n < length keys
    key_there = omega (arith, ap length first, length-drop n keys)

    two : get_or keys n 0 ∷ drop (n + 1) keys ≡ key_of (take (end - i) (drop i s)) ∷ map key_of (cut_by marked_len (drop end s))
    two = rw (add-one n) (sym (drop-cons keys n 0 key_there) ∙ first)

    pub key_here : get_or keys n 0 ≡ key_of (take (end - i) (drop i s))
    key_here = let both = two in cc

    pub keys_next : KeysAt s end (drop (n + 1) keys)
    keys_next = let both = two in record { is = cc }

    -- and the rest of the keys as it is lent on
    pub keys_lent : KeysAt s end (take (length keys - (n + 1)) (drop (n + 1) keys)) × (get_or keys n 0 ≡ key_of (take (end - i) (drop i s)))
    keys_lent = (rw (take_all (length keys - (n + 1)) (drop (n + 1) keys) (rw length-drop (omega arith))) keys_next, key_here)

-- there are as many keys as names
pub name_there : (s : List ℕ) (i n : ℕ) (keys : List ℕ) → KeysAt s i (drop n keys) → n < length keys → i < length s
name_there s i n keys k h =
    by_test (ltb i (length s))
    (λ t. ltb_yes t)
    (λ t.
    let none : cut_by marked_len (drop i s) ≡ [] = rw (drop_of_length-le s {i = i} (ltb_no t)) (cut_nil marked_len) in
    let size : length (drop n keys) ≡ 0 = rw none at (ap length k.is) in
    absurd (not-suc-le-zero {n = 0} (omega (arith, length-drop n keys, size, h))))

pub names_over : (s : List ℕ) (i n : ℕ) (keys : List ℕ) → KeysAt s i (drop n keys) → length keys ≤ n → length s ≤ i
names_over s i n keys k h =
    by_test (ltb i (length s))
    (λ t.
    let l : i < length s = ltb_yes t in
    let more = key_there s i (i + marked_len (drop i s)) l refl keys n k in
    absurd (not-suc-le-zero {n = 0} (omega (arith, more, h))))
    (λ t. ltb_no t)

-- the keys of the first n names, while they are gathered in an array of 8,192
pub record Gathered (s : List ℕ) (i : ℕ) (keys : List ℕ) (n : ℕ) : Type 0 where
  pub is : map key_of (cut_by marked_len s) ≡ take n keys ++ map key_of (cut_by marked_len (drop i s))
  pub size : length keys ≡ 8192
  pub most : n ≤ 8192

pub gathered_start : (s : List ℕ) {keys : List ℕ} → length keys ≡ 8192 → Gathered s 0 keys 0
gathered_start s h = record { is = refl; size = h; most = omega arith }

pub gathered_more : (s : List ℕ) (i end : ℕ) {keys : List ℕ} {n key : ℕ} → i < length s → end ≡ i + marked_len (drop i s) → (n ≡ 8192 → ⊥)
    → key ≡ key_of (take (end - i) (drop i s)) → Gathered s i keys n → Gathered s end (set keys n key) (n + 1)
gathered_more s i end {keys} {n} {key} h e k q g =
    let part = key_of (take (end - i) (drop i s)) in
    let more = map key_of (cut_by marked_len (drop end s)) in
    let less : n < length keys = omega (arith, g.size, g.most) in
    record {
      is = g.is ∙ rw (chunk s i end h e, add-one n, take-suc-set keys n key less, q) (sym (append_assoc (take n keys) (part ∷ []) more));
      size = length-set keys n key ∙ g.size;
      most = omega (arith, g.most);
    }

pub gathered_all : (s : List ℕ) (i : ℕ) {keys : List ℕ} {n : ℕ} → length s ≤ i → Gathered s i keys n → KeysAt s 0 (take n keys)
gathered_all s i {keys} {n} h g =
    let none : cut_by marked_len (drop i s) ≡ [] = rw (drop_of_length-le s {i = i} h) (cut_nil marked_len) in
    record { is = sym (g.is ∙ rw (none, append-nil (take n keys))) }
