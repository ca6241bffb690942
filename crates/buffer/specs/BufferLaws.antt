-- Laws of writing: how two writings join, by lending the rest and from a place on.
use Rattle.std.specs.Prelude.{◌≡◌, refl, Bool, true, false, ℕ, zero, suc, ◌+◌, ◌-◌, ◌≤◌, ◌<◌, min, take, drop, set, get_or, leb}
use Rattle.std.proofs.Common.{ap, sym, ◌∙◌, not-suc-le-zero, le_of_suc-le-suc, suc-add, add-one, arith, length-append, length-take, take-append-drop, leb-true, leb-false}
use mathlib.Core.List.{List, [], ◌∷◌, ◌++◌, append-nil, append_assoc}
use Rattle.std.proofs.Math.Numerals.{unary_clauses}
use Rattle.std.proofs.Math.ListN.{length, length-drop, drop_of_length-le}
use Rattle.std.proofs.Math.Seq.{take_all, take-nil, drop-nil}
use Rattle.buffer.specs.Buffer.{ReachedCapped, overlay, overlay_at, Wrote, Appended, AppendedCapped, greatest, Reached}

-- ---- text over the front

pub overlay_nil : (text : List ℕ) → overlay text [] ≡ []
unfolding overlay
overlay_nil [] = refl
overlay_nil (b ∷ text) = refl

pub length_overlay : (text out : List ℕ) → length (overlay text out) ≡ length out
unfolding overlay
length_overlay [] out = refl
length_overlay (b ∷ text) [] = refl
length_overlay (b ∷ text) (o ∷ out) = ap suc (length_overlay text out)

-- a text that fits stands at the front
pub overlay_front : (text out : List ℕ) → length text ≤ length out → take (length text) (overlay text out) ≡ text
unfolding overlay
overlay_front [] out h = refl
overlay_front (b ∷ text) [] h = absurd (not-suc-le-zero h)
overlay_front (b ∷ text) (o ∷ out) h = ap (λ (l : List ℕ). b ∷ l) (overlay_front text out (le_of_suc-le-suc h))

-- what lies past the text is as before
pub overlay_past : (text out : List ℕ) → drop (length text) (overlay text out) ≡ drop (length text) out
unfolding overlay
overlay_past [] out = refl
overlay_past (b ∷ text) [] = refl
overlay_past (b ∷ text) (o ∷ out) = overlay_past text out

-- the store of a loop's turn
pub overlay_snoc : (text out : List ℕ) (i : ℕ) → i < length text → i < length out
    → set (overlay (take i text) out) i (get_or text i 0) ≡ overlay (take (i + 1) text) out
unfolding overlay
overlay_snoc text out i h k = rw add-one (go text out i h k)
  where
    go : (text out : List ℕ) (i : ℕ) → i < length text → i < length out
        → set (overlay (take i text) out) i (get_or text i 0) ≡ overlay (take (suc i) text) out
    go [] out i h k = absurd (not-suc-le-zero h)
    go (b ∷ text) [] i h k = absurd (not-suc-le-zero k)
    go (b ∷ text) (o ∷ out) zero h k = refl
    go (b ∷ text) (o ∷ out) (suc i) h k = ap (λ (l : List ℕ). b ∷ l) (go text out i (le_of_suc-le-suc h) (le_of_suc-le-suc k))

-- the same from where the loop stands
pub overlay_turn : (text out mid : List ℕ) (i n : ℕ) → n ≡ min (length text) (length out) → i < n → mid ≡ overlay (take i text) out
    → set mid i (get_or text i 0) ≡ overlay (take (i + 1) text) out
overlay_turn text out mid i n hn h e = rw e (overlay_snoc text out i (omega arith) (omega arith))

-- what lies past the end of the buffer makes no difference
pub overlay_clip : (text out : List ℕ) (i : ℕ) → min (length text) (length out) ≤ i → overlay (take i text) out ≡ overlay text out
unfolding overlay
overlay_clip [] out zero h = refl
overlay_clip [] out (suc i) h = refl
overlay_clip (b ∷ text) [] zero h = refl
overlay_clip (b ∷ text) [] (suc i) h = refl
overlay_clip (b ∷ text) (o ∷ out) zero h = absurd (not-suc-le-zero (simp unary_clauses at h))
overlay_clip (b ∷ text) (o ∷ out) (suc i) h =
    ap (λ (l : List ℕ). b ∷ l) (overlay_clip text out i (omega (arith, simp unary_clauses at h)))

-- the part that fits, and what stands past it
pub overlay_parts : (text out : List ℕ) (n : ℕ) → n ≡ min (length text) (length out) → overlay text out ≡ take n text ++ drop n out
unfolding overlay
overlay_parts [] out n e = let z : n ≡ 0 = omega arith in rw z
overlay_parts (b ∷ text) [] n e = let z : n ≡ 0 = omega arith in rw z
overlay_parts (b ∷ text) (o ∷ out) zero e = absurd (omega arith)
overlay_parts (b ∷ text) (o ∷ out) (suc n) e = ap (λ (l : List ℕ). b ∷ l) (overlay_parts text out n (omega arith))

pub length_wrote : {text before after : List ℕ} {r : ℕ} → Wrote text before after r → length after ≡ length before
length_wrote {text} {before} {after} {r} w = rw (w.bytes, length_overlay)

-- ---- text from a place on

pub length_overlay_at : (at : ℕ) (text out : List ℕ) → length (overlay_at at text out) ≡ length out
unfolding overlay_at
length_overlay_at at text out = rw (length-append, length_overlay, length-take, length-drop) (omega arith)

pub length_appended : {text before after : List ℕ} {at r : ℕ} → Appended text at before after r → length after ≡ length before
length_appended {text} {before} {after} {at} {r} a = rw a.bytes (length_overlay_at at text before)

-- a store is a text of one byte
pub set_overlay_at : (at b : ℕ) (out : List ℕ) → set out at b ≡ overlay_at at (b ∷ []) out
unfolding overlay_at overlay
set_overlay_at zero b [] = refl
set_overlay_at zero b (o ∷ out) = refl
set_overlay_at (suc at) b [] = refl
set_overlay_at (suc at) b (o ∷ out) = ap (λ (l : List ℕ). o ∷ l) (set_overlay_at at b out)

pub overlay_at_then : (at : ℕ) (xs ys out : List ℕ) → overlay_at (at + length xs) ys (overlay_at at xs out) ≡ overlay_at at (xs ++ ys) out
unfolding overlay_at overlay
overlay_at_then zero [] ys out = refl
overlay_at_then zero (x ∷ xs) ys [] = simp (unary_clauses, overlay_nil)
overlay_at_then zero (x ∷ xs) ys (o ∷ out) = simp unary_clauses (ap (λ (l : List ℕ). x ∷ l) (overlay_at_then zero xs ys out))
overlay_at_then (suc at) xs ys [] = simp (overlay_nil, take-nil, drop-nil)
overlay_at_then (suc at) xs ys (o ∷ out) = rw suc-add (ap (λ (l : List ℕ). o ∷ l) (overlay_at_then at xs ys out))

pub appended_none : (at : ℕ) (before : List ℕ) → Appended [] at before before at
unfolding overlay_at overlay
appended_none at before = record { place = omega arith; bytes = sym (take-append-drop at before) }

pub appended_byte : (at b : ℕ) (before : List ℕ) → Appended (b ∷ []) at before (set before at b) (at + 1)
appended_byte at b before = record { place = refl; bytes = set_overlay_at at b before }

pub appended_then : {xs ys before mid after : List ℕ} {at r s : ℕ} → Appended xs at before mid r → Appended ys r mid after s → Appended (xs ++ ys) at before after s
appended_then {xs} {ys} {before} {mid} {after} {at} {r} {s} v w = record {
  place = rw length-append (omega (arith, v.place, w.place));
  bytes = w.bytes ∙ rw (v.bytes, v.place, overlay_at_then);
}

-- stores one after another
unfoldable pub stores : List ℕ → ℕ → List ℕ → List ℕ
stores [] at out = out
stores (b ∷ bs) at out = stores bs (at + 1) (set out at b)

pub appended_stores : (bs : List ℕ) (at r : ℕ) (before : List ℕ) → r ≡ at + length bs → Appended bs at before (stores bs at before) r
unfolding stores
appended_stores [] at r before e = record { place = e; bytes = (appended_none at before).bytes }
appended_stores (b ∷ bs) at r before e =
    let k : r ≡ at + 1 + length bs = omega (arith, e) in
    appended_then (appended_byte at b before) (appended_stores bs (at + 1) r (set before at b) k)

-- from the start on
pub wrote_from : {text before after : List ℕ} {r : ℕ} → Appended text 0 before after r → Wrote text before after r
unfolding overlay_at
wrote_from {text} {before} {after} {r} a = record { size = omega (arith, a.place); bytes = a.bytes }

pub appended_from : {text before after : List ℕ} {r : ℕ} → Wrote text before after r → Appended text 0 before after r
unfolding overlay_at
appended_from {text} {before} {after} {r} w = record { place = omega (arith, w.size); bytes = w.bytes }

-- into an empty buffer: measuring
pub wrote_empty : {text before : List ℕ} {r : ℕ} → length before ≡ 0 → r ≡ length text → Wrote text before before r
wrote_empty {text} {before} {r} h e = record { size = e; bytes = go before h }
  where
    go : (before : List ℕ) → length before ≡ 0 → before ≡ overlay text before
    go [] h = sym (overlay_nil text)
    go (o ∷ before) h = absurd (omega arith)

-- nothing written
pub wrote_nothing : (before : List ℕ) → Wrote [] before before 0
unfolding overlay
wrote_nothing before = record { size = refl; bytes = refl }

-- ---- the rest lent on from a place

-- `a` is the place clipped to the buffer; the part lent and the part after it stand as the borrow checker gives them back
module _ (text before last : List ℕ) (at a : ℕ) (ha : a ≡ min at (length before)) where
  clip_at : (at : ℕ) (before : List ℕ)
      → take (min at (length before)) before ++ overlay text (drop (min at (length before)) before) ≡ take at before ++ overlay text (drop at before)
  clip_at zero before = simp unary_clauses
  clip_at (suc at) [] = simp unary_clauses
  clip_at (suc at) (o ∷ before) = simp unary_clauses (ap (λ (l : List ℕ). o ∷ l) (clip_at at before))

  lent : last ≡ overlay text (take (length before - a) (drop a before))
      → take a before ++ (last ++ drop (length before - a) (drop a before)) ≡ overlay_at at text before
  unfolding overlay_at
  lent e =
      let le : length (drop a before) ≤ length before - a = rw length-drop (omega arith) in
      rw (e, take_all (length before - a) (drop a before) le, drop_of_length-le (drop a before) {i = length before - a} le, append-nil, ha)
      (clip_at at before)

  pub appended_by : {r : ℕ} → Wrote text (take (length before - a) (drop a before)) last r
      → Appended text at before (take a before ++ (last ++ drop (length before - a) (drop a before))) (at + r)
  appended_by w = record { place = rw w.size; bytes = lent w.bytes }

  pub added_by : {r s : ℕ} → Wrote text (take (length before - a) (drop a before)) last r → s ≡ min (at + r) greatest
      → AppendedCapped text at before (take a before ++ (last ++ drop (length before - a) (drop a before))) s
  added_by w e = record { place = rw (← w.size) e; bytes = lent w.bytes }

pub length_added : {text before after : List ℕ} {at r : ℕ} → AppendedCapped text at before after r → length after ≡ length before
length_added {text} {before} {after} {at} {r} a = rw a.bytes (length_overlay_at at text before)

-- where the place after the text is a usize
pub appended_of : {text before after : List ℕ} {at r : ℕ} → AppendedCapped text at before after r → at + length text ≤ greatest → Appended text at before after r
appended_of {text} {before} {after} {at} {r} a h = record { place = omega (arith, a.place, h); bytes = a.bytes }

-- the same for a text that is written otherwise
pub capped_same : {x y before after : List ℕ} {at r : ℕ} → x ≡ y → AppendedCapped x at before after r → AppendedCapped y at before after r
capped_same e a = rw (← e) a

-- a writer's answer where the length fits
pub wrote_of : {text before after : List ℕ} {r : ℕ} → AppendedCapped text 0 before after r → length text ≤ greatest → Wrote text before after r
wrote_of {text} a h = wrote_from (appended_of a (omega arith))

-- no text
pub capped_none : (at : ℕ) (before : List ℕ) → at ≤ greatest → AppendedCapped [] at before before at
capped_none at before h = record { place = omega arith; bytes = (appended_none at before).bytes }

-- past the end of the buffer nothing is written
overlay_at_end : (at : ℕ) (text out : List ℕ) → length out ≤ at → overlay_at at text out ≡ out
unfolding overlay_at
overlay_at_end at text out h = rw (take_all at out h, drop_of_length-le out {i = at} h, overlay_nil, append-nil)

-- one text after another; a place that is capped lies past the end of the buffer
pub capped_then : {xs ys before mid after : List ℕ} {at r s : ℕ} → AppendedCapped xs at before mid r → AppendedCapped ys r mid after s → length before ≤ greatest
    → AppendedCapped (xs ++ ys) at before after s
capped_then {xs} {ys} {before} {mid} {after} {at} {r} {s} v w h = record {
  place = rw length-append (omega (arith, v.place, w.place));
  bytes = w.bytes ∙ by_place ∙ rw v.bytes (overlay_at_then at xs ys before);
}
  where
    same : length mid ≡ length before
    same = length_added v

    by_place : overlay_at r ys mid ≡ overlay_at (at + length xs) ys mid
    by_place = pick (leb (at + length xs) greatest) refl
      where
        pick : (b : Bool) → leb (at + length xs) greatest ≡ b → overlay_at r ys mid ≡ overlay_at (at + length xs) ys mid
        pick true k = let le = leb-true (at + length xs) greatest k in let e : r ≡ at + length xs = omega (arith, v.place) in rw e
        pick false k =
            let gt = leb-false (at + length xs) greatest k in
            rw (overlay_at_end r ys mid (omega (arith, v.place, same)), overlay_at_end (at + length xs) ys mid (omega (arith, same)))

-- ---- a loop that writes

pub reached_start : (whole : List ℕ) (at : ℕ) (before : List ℕ) → Reached whole whole at before before at
reached_start whole at before = record { text = []; wrote = appended_none at before; joins = refl }

pub reached_then : {whole rest : List ℕ} {at : ℕ} {before mid after : List ℕ} {n m : ℕ} (part left : List ℕ)
    → Reached whole rest at before mid n → rest ≡ part ++ left → Appended part n mid after m → Reached whole left at before after m
reached_then part left g e a = record {
  text = g.text ++ part;
  wrote = appended_then g.wrote a;
  joins = g.joins ∙ rw e (sym (append_assoc g.text part left));
}

pub reached_join : {whole rest left : List ℕ} {at : ℕ} {before mid after : List ℕ} {n m : ℕ}
    → Reached whole rest at before mid n → Reached rest left n mid after m → Reached whole left at before after m
reached_join {whole} {rest} {left} g k = reached_then k.text left g k.joins k.wrote

pub reached_last : {whole rest : List ℕ} {at : ℕ} {before mid after : List ℕ} {n m : ℕ}
    → Reached whole rest at before mid n → Appended rest n mid after m → Appended whole at before after m
reached_last g a = rw g.joins (appended_then g.wrote a)

pub reached_end : {whole rest : List ℕ} {at : ℕ} {before after : List ℕ} {n : ℕ} → Reached whole rest at before after n → rest ≡ [] → Appended whole at before after n
reached_end g e = rw (g.joins, e, append-nil) g.wrote

pub length_reached : {whole rest : List ℕ} {at : ℕ} {before after : List ℕ} {n : ℕ} → Reached whole rest at before after n → length after ≡ length before
length_reached g = length_appended g.wrote

-- the place reached and what is left lie within the whole
pub reached_within : {whole rest : List ℕ} {at : ℕ} {before after : List ℕ} {n : ℕ} → Reached whole rest at before after n → n + length rest ≡ at + length whole
reached_within {whole} {rest} g = omega (arith, g.wrote.place, ap length g.joins, length-append g.text rest)

-- the same for every place
pub capped_start : (whole : List ℕ) (at : ℕ) (before : List ℕ) → at ≤ greatest → ReachedCapped whole whole at before before at
capped_start whole at before h = record { text = []; wrote = capped_none at before h; joins = refl }

module _ {whole rest : List ℕ} {at : ℕ} {before mid : List ℕ} {n : ℕ} (g : ReachedCapped whole rest at before mid n) where
  pub length_capped : length mid ≡ length before
  length_capped = length_added g.wrote

  pub capped_turn : {part left after : List ℕ} {m : ℕ} → rest ≡ part ++ left → AppendedCapped part n mid after m → length before ≤ greatest → ReachedCapped whole left at before after m
  capped_turn {part} {left} e a h = record {
    text = g.text ++ part;
    wrote = capped_then g.wrote a h;
    joins = g.joins ∙ rw e (sym (append_assoc g.text part left));
  }

  pub capped_end : rest ≡ [] → AppendedCapped whole at before mid n
  capped_end e = rw (g.joins, e, append-nil) g.wrote
