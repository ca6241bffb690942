-- Laws of a text without the blanks at its ends: how code finds it from behind, how long it is, and that it stays UTF-8.
use Rattle.std.specs.Prelude.{◌≡◌, refl, true, false, ◌&&◌, List, [], ◌∷◌, ◌++◌, ℕ, zero, suc, ◌+◌, ◌-◌, ◌≤◌, ◌<◌, T, length, take, drop, get_or}
use Rattle.std.proofs.Common.{sym, ◌∙◌, arith, not-suc-le-zero, length-take, length-drop, take_all}
use Rattle.std.proofs.lemmas.List.{take-append-le}
use Rattle.std.proofs.Math.Bool.{and-true, and-false, and_assoc}
use Rattle.std.proofs.Math.Facts.{and_yes}
use Rattle.lists.specs.Lists.{all}
use Rattle.lists.specs.ListsLaws.{by_test, yes_true, no_false, cond_has, all_at_lem}
use Rattle.lists.specs.Run.{run}
use Rattle.line.specs.Line.{blank}
use Rattle.line.specs.LineLaws.{part_rest}
use Rattle.utf8.specs.Utf8.{utf8}
use Rattle.address.specs.GrammarLaws.{Cut, utf8_taken}
use Rattle.phrase.specs.BoundaryLaws.{blank_low, blanks_boundary}
use Rattle.group.specs.Trimmed.{content_len, trimmed}

-- ---- from behind

-- the last byte counts as the others do
all_last : (t : List ℕ) (b : ℕ) → all blank (t ++ (b ∷ [])) ≡ all blank t && blank b
all_last [] b = and-true (blank b)
all_last (x ∷ t) b = rw (all_last t b) (sym (and_assoc (blank x) (all blank t) (blank b)))

content_blank : (t : List ℕ) (b : ℕ) → blank b ≡ true → content_len (t ++ (b ∷ [])) ≡ content_len t
unfolding content_len
content_blank [] b h = rw h
content_blank (x ∷ t) b h = rw (all_last t b, h, and-true (all blank t), content_blank t b h)

content_whole : (t : List ℕ) (b : ℕ) → blank b ≡ false → content_len (t ++ (b ∷ [])) ≡ length (t ++ (b ∷ []))
unfolding content_len
content_whole [] b h = rw h
content_whole (x ∷ t) b h = rw (all_last t b, h, and-false (all blank t), and-false (blank x), content_whole t b h)

content_le : (t : List ℕ) → content_len t ≤ length t
unfolding content_len
content_le [] = omega arith
content_le (b ∷ t) = cond_has (λ n. n ≤ suc (length t)) (all blank (b ∷ t)) 0 (suc (content_len t)) (λ _. omega arith) (λ _. omega (arith, content_le t))

-- a text by its last byte, as code finds it
module _ {t : List ℕ} (front : List ℕ) (last : ℕ) (q : t ≡ front ++ (last ∷ [])) where
  pub content_next : blank last ≡ true → take (content_len t) t ≡ take (content_len front) front
  content_next h = rw (q, content_blank front last h) (take-append-le (content_len front) front (last ∷ []) (content_le front))

  pub content_here : blank last ≡ false → t ≡ take (content_len t) t
  content_here h = sym (take_all (content_len t) t (let k : content_len t ≡ length t = rw q (content_whole front last h) in omega arith))

pub content_over : (t : List ℕ) → length t ≡ 0 → t ≡ take (content_len t) t
unfolding content_len
content_over [] h = refl
content_over (b ∷ t) h = absurd (not-suc-le-zero {n = length t} (omega arith))

-- the parts of a text that code makes
pub trimmed_parts : (t : List ℕ) (start : ℕ) → start ≡ 0 + run blank (drop 0 t) → (rest part : List ℕ) → rest ≡ take (length t - start) (drop start t)
    → part ≡ take (content_len rest) rest → part ≡ trimmed t
unfolding trimmed
trimmed_parts t start q rest part a p =
    let z : start ≡ run blank t = omega arith in
    p ∙ rw (a, part_rest t start, z)

-- ---- how long

pub trimmed_le : (t : List ℕ) → length (trimmed t) ≤ length t
unfolding trimmed
trimmed_le t = let rest = drop (run blank t) t in omega (arith, length-take (content_len rest) rest, length-drop (run blank t) t)

-- ---- UTF-8

content_then : (t : List ℕ) → get_or t (content_len t) 0 < 128
unfolding content_len
content_then [] = omega arith
content_then (b ∷ t) =
    cond_has (λ n. get_or (b ∷ t) n 0 < 128) (all blank (b ∷ t)) 0 (suc (content_len t))
    (λ h. blank_low b (and_yes (blank b) (all blank t) h).0)
    (λ _. content_then t)

pub trimmed_utf8 : (t : List ℕ) → T (utf8 t) → T (utf8 (trimmed t))
unfolding trimmed
trimmed_utf8 t h =
    let rest = drop (run blank t) t in
    utf8_taken rest (content_len rest) (blanks_boundary t h).after (Cut.before (content_then rest))
