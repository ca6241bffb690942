-- The lines of a field, as code checks them; and how long the runs of a well-formed field are.
use Rattle.std.specs.Prelude.{Some, None, ◌≡◌, refl, Bool, true, false, not, cond, ◌&&◌, ◌||◌, List, [], ◌∷◌, ◌++◌, ℕ, zero, suc, ◌+◌, ◌-◌, ◌≤◌, ◌<◌, T, leb, eqb, length, take, drop, get_or}
use Rattle.std.proofs.Common.{ap, sym, ◌∙◌, not-suc-le-zero, arith, eqb→eq, length-drop, length-append, take-append-drop, drop_of_length-le, drop-drop, get_or-drop, get_or-take, length-take-le}
use Rattle.std.proofs.Math.Bool.{and-false}
use Rattle.std.proofs.Math.Facts.{and_yes, leb_yes, leb_no}
use Rattle.lists.specs.Lists.{all}
use Rattle.lists.specs.ListsLaws.{by_test, cond_has, cond_yes, cond_no, yes_true, no_false, true_yes}
use Rattle.lists.specs.Byte.{within}
use Rattle.lists.specs.ByteLaws.{within_high}
use Rattle.lists.specs.Run.{run}
use Rattle.lists.specs.CutByLaws.{cut_nil, cut_front}
use Rattle.utf8.specs.Utf8.{utf8}
use Rattle.line.specs.Line.{blank, crlf, line_len}
use Rattle.line.specs.LineLaws.{crlf_inside}
use Rattle.header_line.specs.Lines.{line_byte, named_to, continuation, line_ok_to, after_line, lines_of}
use Rattle.header_line.specs.LineLaws.{ok_front_to, line_bad, line_good}
use Rattle.header.specs.Fields.{value_of}
use Rattle.header.specs.FieldShapeLaws.{crlf_front}
use Rattle.header_line.specs.Lines.{name_len}
use Rattle.downgraded_field.specs.Shown.{continues, lines_formed, is_formed, spacing, solid}
use Rattle.downgraded_field.specs.ShownLaws.{ShortRuns, short_rest, text_part}

-- ---- line after line

pub lines_nil : lines_of [] ≡ []
unfolding lines_of
lines_nil = cut_nil (λ rest. line_len rest + 2)

pub lines_front : (s : List ℕ) → 0 < length s → lines_of s ≡ take (line_len s + 2) s ∷ lines_of (drop (line_len s + 2) s)
unfolding lines_of
lines_front s h = cut_front (λ rest. line_len rest + 2) s h (omega arith)

pub continues_front : (s : List ℕ) → continues (take (line_len s + 2) s) ≡ line_ok_to 87 false s && blank (get_or s 0 0)
unfolding continues
continues_front s = rw (ok_front_to 87 false s, get_or-take (line_len s + 2) s 0 0 (omega arith)) refl

pub formed_front : (s : List ℕ) → 0 < length s → is_formed s ≡ line_ok_to 87 true s && all continues (lines_of (drop (line_len s + 2) s))
unfolding is_formed lines_formed
formed_front s h = rw (lines_front s h, ok_front_to 87 true s) refl

-- what is left to check at `at`
pub record Formed (field : List ℕ) (at : ℕ) : Type 0 where
  pub same : is_formed field ≡ all continues (lines_of (drop at field))

empty_bad : (field : List ℕ) → length field ≤ 0 → is_formed field ≡ false
unfolding is_formed lines_formed
empty_bad [] h = rw lines_nil refl
empty_bad (b ∷ s) h = absurd (omega arith)

empty_line_lem : (field : List ℕ) → length field ≤ 0 → line_ok_to 87 true field ≡ true → ⊥
unfolding line_ok_to crlf line_len
empty_line_lem [] h t = true_yes false t
empty_line_lem (b ∷ s) h t = omega arith

module _ (field : List ℕ) where
  pub formed_bad : None ≡ after_line 87 true field 0 → false ≡ is_formed field
  formed_bad e =
      by_test (leb 1 (length field))
      (λ t. sym (formed_front field (leb_yes t) ∙ rw (line_bad 87 field 0 true e) refl))
      (λ t. sym (empty_bad field (omega (arith, leb_no {a = 1} {b = length field} t))))

  pub formed_start : {r : ℕ} → Some r ≡ after_line 87 true field 0 → Formed field r
  formed_start {r} e =
      let g = line_good 87 field 0 true e in
      let to : r ≡ line_len field + 2 = omega (arith, g.after) in
      by_test (leb 1 (length field))
      (λ t. record { same = formed_front field (leb_yes t) ∙ rw (g.good, to) refl })
      (λ t. absurd (empty_line_lem field (omega (arith, leb_no {a = 1} {b = length field} t)) g.good))

module _ {field : List ℕ} {at : ℕ} (f : Formed field at) where
  pub formed_end : length field ≤ at → true ≡ is_formed field
  formed_end h = sym (f.same ∙ rw (drop_of_length-le field {i = at} h, lines_nil) refl)

  module _ (h : at < length field) where
    front : all continues (lines_of (drop at field)) ≡ (line_ok_to 87 false (drop at field) && blank (get_or field at 0)) && all continues (lines_of (drop (at + (line_len (drop at field) + 2)) field))
    front =
        let x = drop at field in
        let zero_at : at + 0 ≡ at = omega arith in
        rw (lines_front x (rw length-drop (omega arith)), continues_front x, get_or-drop at field 0 0, zero_at, drop-drop) refl

    pub formed_blank : blank (get_or field at 0) ≡ false → false ≡ is_formed field
    formed_blank b = sym (f.same ∙ front ∙ rw (b, and-false) refl)

    pub formed_line : None ≡ after_line 87 false field at → false ≡ is_formed field
    formed_line e = sym (f.same ∙ front ∙ rw (line_bad 87 field at false e) refl)

    module _ {r : ℕ} (e : Some r ≡ after_line 87 false field at) where
      pub formed_next : blank (get_or field at 0) ≡ true → Formed field r
      formed_next b = let g = line_good 87 field at false e in record { same = f.same ∙ front ∙ rw (g.good, b, ← g.after) refl }

      pub formed_more : at < r
      formed_more = omega (arith, (line_good 87 field at false e).after)

-- ---- what a well-formed field is made of

-- Lines up to the CRLF that ends the last, n bytes before the next CRLF: bytes of a line, CRLF before a continuation.
pub data Folds : ℕ → List ℕ → Type 0 where
  end : Folds 0 (13 ∷ 10 ∷ [])
  byte : {b n : ℕ} {s : List ℕ} → T (line_byte b) → n < 998 → Folds n s → Folds (suc n) (b ∷ s)
  fold : {b n : ℕ} {s : List ℕ} → T (blank b) → Folds n (b ∷ s) → Folds 0 (13 ∷ 10 ∷ b ∷ s)

past : (l : List ℕ) {n : ℕ} {s : List ℕ} → T (all line_byte l) → length l + n ≤ 998 → Folds n s → Folds (length l + n) (l ++ s)
past [] {n} {s} h k f = let z : 0 + n ≡ n = omega arith in rw z f
past (b ∷ l) {n} {s} h k f =
    let both = and_yes (line_byte b) (all line_byte l) h in
    let z : suc (length l) + n ≡ suc (length l + n) = omega arith in
    rw z (Folds.byte {n = length l + n} both.0 (omega arith) (past l both.1 (omega arith) f))

-- what a well-formed line holds
line_parts : (limit : ℕ) (first : Bool) (s : List ℕ) → T (line_ok_to limit first s) → T (crlf (drop (line_len s) s)) × T (all line_byte (take (line_len s) s)) × (length (take (line_len s) s) ≤ 998)
unfolding line_ok_to
line_parts limit first s t =
    let line = take (line_len s) s in
    let size = within 1 998 (length line) in
    let start = continuation first line || named_to limit line in
    let a = and_yes (crlf (drop (line_len s) s)) (size && all line_byte line && utf8 line && start) t in
    let b = and_yes (size && all line_byte line && utf8 line) start a.1 in
    let c = and_yes (size && all line_byte line) (utf8 line) b.0 in
    let d = and_yes size (all line_byte line) c.0 in
    (a.0, d.1, within_high 1 998 (length line) d.0)

-- a line before more of them
folds_line : (first : Bool) (s : List ℕ) → T (line_ok_to 87 first s) → Folds 0 (13 ∷ 10 ∷ drop (line_len s + 2) s) → Folds (line_len s) s
folds_line first s t f =
    let n = line_len s in
    let p = line_parts 87 first s t in
    let inside : n + 2 ≤ length s = crlf_inside s n (yes_true (crlf (drop n s)) p.0) in
    let size : length (take n s) ≡ n = length-take-le n s (omega arith) in
    let split : take n s ++ (13 ∷ 10 ∷ drop (n + 2) s) ≡ s =
    ap (λ (r : List ℕ). take n s ++ r) (sym (crlf_front (drop n s) p.0 ∙ rw drop-drop refl)) ∙ take-append-drop n s in
    let count : length (take n s) + 0 ≡ n = omega arith in
    rw (split, count) at (past (take n s) p.1 (omega (arith, p.2)) f)

folds_rest : (m : ℕ) (r : List ℕ) → length r ≤ m → T (all continues (lines_of r)) → Folds 0 (13 ∷ 10 ∷ r)
folds_rest zero [] h c = Folds.end
folds_rest zero (b ∷ r) h c = absurd (omega arith)
folds_rest (suc m) [] h c = Folds.end
folds_rest (suc m) (b ∷ r) h c =
    let x = b ∷ r in
    let n = line_len x in
    let more = all continues (lines_of (drop (n + 2) x)) in
    let both = and_yes (continues (take (n + 2) x)) more (rw (lines_front x (omega arith)) at c) in
    let k = and_yes (line_ok_to 87 false x) (blank b) (rw (continues_front x) at both.0) in
    Folds.fold k.1 (folds_line false x k.0 (folds_rest m (drop (n + 2) x) (omega (arith, length-drop (n + 2) x)) both.1))

pub formed_folds : (field : List ℕ) → T (is_formed field) → Folds (line_len field) field
formed_folds [] t = absurd (rw (empty_bad [] (omega arith)) at t)
formed_folds (b ∷ s) t =
    let x = b ∷ s in
    let n = line_len x in
    let both = and_yes (line_ok_to 87 true x) (all continues (lines_of (drop (n + 2) x))) (rw (formed_front x (omega arith)) at t) in
    folds_line true x both.0 (folds_rest (length x) (drop (n + 2) x) (omega (arith, length-drop (n + 2) x)) both.1)

-- ---- how long runs are

run_front : {n : ℕ} {s : List ℕ} → Folds n s → run solid s ≤ n
unfolding run spacing blank
run_front Folds.end = omega arith
run_front (Folds.byte {b} {n} {s} h k f) = let r = run_front f in cond_has (λ m. m ≤ suc n) (solid b) (suc (run solid s)) 0 (λ t. omega arith) (λ t. omega arith)
run_front (Folds.fold h f) = omega arith

bound : {n : ℕ} {s : List ℕ} → Folds n s → n ≤ 998
bound Folds.end = omega arith
bound (Folds.byte h k f) = k
bound (Folds.fold h f) = omega arith

lf_front : (s : List ℕ) → run solid (10 ∷ s) ≤ 998
unfolding run spacing blank
lf_front s = omega arith

nil_front : run solid [] ≤ 998
unfolding run
nil_front = omega arith

run_anywhere : {n : ℕ} {s : List ℕ} → Folds n s → (i : ℕ) → run solid (drop i s) ≤ 998
run_anywhere Folds.end zero = omega (arith, run_front Folds.end)
run_anywhere Folds.end (suc zero) = lf_front []
run_anywhere Folds.end (suc (suc zero)) = nil_front
run_anywhere Folds.end (suc (suc (suc i))) = nil_front
run_anywhere (Folds.byte h k f) zero = let g = Folds.byte h k f in omega (arith, run_front g, bound g)
run_anywhere (Folds.byte h k f) (suc i) = run_anywhere f i
run_anywhere (Folds.fold h f) zero = let g = Folds.fold h f in omega (arith, run_front g)
run_anywhere (Folds.fold {b} {n} {s} h f) (suc zero) = lf_front (b ∷ s)
run_anywhere (Folds.fold h f) (suc (suc i)) = run_anywhere f i

-- a part has no longer run at a place than the whole
run_part : (f : ℕ → Bool) (i n : ℕ) (s : List ℕ) → run f (drop i (take n s)) ≤ run f (drop i s)
unfolding run
run_part f zero zero s = omega arith
run_part f zero (suc n) [] = omega arith
run_part f zero (suc n) (b ∷ s) =
    let k = run_part f zero n s in
    by_test (f b) (λ t. rw (yes_true (f b) t) (omega arith)) (λ t. rw (no_false (f b) t) (omega arith))
run_part f (suc i) zero s = omega arith
run_part f (suc i) (suc n) [] = omega arith
run_part f (suc i) (suc n) (b ∷ s) = run_part f i n s

pub formed_short : {value : List ℕ} (field : List ℕ) → value ≡ value_of field → is_formed field ≡ true → ShortRuns value
unfolding value_of
formed_short field e t = record {
  short = λ i.
      let f = formed_folds field (true_yes (is_formed field) t) in
      let k = name_len field + 1 in
      rw (e, drop-drop) (omega (arith, run_part solid (k + i) (length field - 2) field, run_anywhere f (k + i)));
}

pub formed_text_short : {s : List ℕ} (field : List ℕ) → s ≡ text_part field → is_formed field ≡ true → ShortRuns s
formed_text_short field e t = rw e (short_rest (run spacing (value_of field)) (formed_short field refl t))
