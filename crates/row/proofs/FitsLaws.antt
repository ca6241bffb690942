-- What fits a word, over any encodings and any room: a part of what fits does, every character does, and the encoding chosen holds it.
use Rattle.std.specs.Prelude.{◌≡◌, refl, Bool, true, false, not, ◌||◌, ℕ, ◌+◌, ◌≤◌, ◌<◌, T, length}
use Rattle.std.proofs.Common.{ap, ⊎_elim, arith, leb→le, le→leb, length-append}
use mathlib.Core.List.{List, [], ◌∷◌, ◌++◌, append-nil, Memᴰ}
use Rattle.std.proofs.Math.Facts.{or_yes}
use Rattle.lists.specs.Lists.{nonempty, joined}
use Rattle.lists.specs.ListsLaws.{by_test, cond_yes, cond_no, joined_append}
use Rattle.utf8.specs.Utf8.{is_char}
use Rattle.utf8.specs.Utf8Laws.{char_length}
use Rattle.base64_digits.specs.Base64.{in_base64}
use Rattle.base64_digits.proofs.Base64Laws.{length_base64}
use Rattle.word_spelling.specs.Spelling.{closing, spell}
use Rattle.word_spelling.specs.SpellingLaws.{length_spell, length_spell_append, cost_some}
use Rattle.row.specs.declared.Encoding.{Encoding}
use Rattle.row.specs.declared.Encoding.TheVariants.{Q, B}
use Rattle.row.specs.Word.{opening_in, spell_in, word}
use Rattle.row.specs.Row.{encodings, holds, fits_room, chosen, room_after, fits_after}

pub or_left : (a b : Bool) → T a → T (a || b)
or_left true b t = tt
or_left false b t = absurd t

pub or_right : (a b : Bool) → T b → T (a || b)
or_right true b t = tt
or_right false b t = t

-- ---- how long bytes are in an encoding

-- no part is longer than the whole
spell_in_part : (e : Encoding) (a m b : List ℕ) → length (spell_in e m) ≤ length (spell_in e (a ++ (m ++ b)))
spell_in_part Q a m b = omega (arith, length_spell_append a (m ++ b), length_spell_append m b)
spell_in_part B a m b = omega (arith, length_base64 m, length_base64 (a ++ (m ++ b)), length-append a (m ++ b), length-append m b)

pub spell_in_nil : (e : Encoding) → length (spell_in e []) ≡ 0
unfolding spell in_base64
spell_in_nil Q = refl
spell_in_nil B = refl

-- something takes something
pub spell_in_some : (e : Encoding) (bytes : List ℕ) → 0 < length bytes → 0 < length (spell_in e bytes)
spell_in_some Q bytes h = cost_some bytes h
spell_in_some B bytes h = omega (arith, length_base64 bytes)

-- a word is its opening and closing, 12 characters, and what stands between
pub length_opening_in : (e : Encoding) → length (opening_in e) ≡ 10
length_opening_in Q = refl
length_opening_in B = refl

pub length_word_in : (e : Encoding) (bytes : List ℕ) → length (word e bytes) ≡ length (spell_in e bytes) + 12
unfolding word
length_word_in e bytes = omega (arith, length-append (opening_in e) (spell_in e bytes ++ closing), length-append (spell_in e bytes) closing, length_opening_in e)

-- ---- what fits one line fits another with the same room

pub fits_any_line : (es : List Encoding) (room k j : ℕ) (run : List (List ℕ)) → fits_room es room k run ≡ fits_room es room j run
fits_any_line [] room k j run = refl
fits_any_line (e ∷ es) room k j run = ap (λ (b : Bool). holds room (joined run) e || b) (fits_any_line es room k j run)

-- ---- a part of what fits

pub holds_part : (e : Encoding) (room : ℕ) (a m b : List ℕ) → T (holds room (a ++ (m ++ b)) e) → T (holds room m e)
holds_part e room a m b t = le→leb (length (spell_in e m)) room (omega (arith, leb→le (length (spell_in e (a ++ (m ++ b)))) room t, spell_in_part e a m b))

pub fits_part : (es : List Encoding) (room k : ℕ) (d m e : List (List ℕ)) → T (fits_room es room k (d ++ (m ++ e))) → T (fits_room es room k m)
fits_part [] room k d m e t = t
fits_part (x ∷ es) room k d m e t =
    ⊎_elim
    (λ u. or_left (holds room (joined m) x) (fits_room es room k m)
    (holds_part x room (joined d) (joined m) (joined e) (rw (joined_append d (m ++ e), joined_append m e) at u)))
    (λ u. or_right (holds room (joined m) x) (fits_room es room k m) (fits_part es room k d m e u))
    (or_yes (holds room (joined (d ++ (m ++ e))) x) (fits_room es room k (d ++ (m ++ e))) t)

pub fits_after_part : (es : List Encoding) (room column k : ℕ) (d m e : List (List ℕ)) → T (fits_after es room column k (d ++ (m ++ e)))
    → T (fits_after es room column k m)
fits_after_part es room column k d m e t = fits_part es (room_after room column k) k d m e t

-- ---- what an encoding holds

module _ (room k : ℕ) (run : List (List ℕ)) where
  pub some_of : {e : Encoding} {es : List Encoding} → Memᴰ e es → T (holds room (joined run) e) → T (fits_room es room k run)
  some_of (Memᴰ.head {x} {xs} p) t = or_left (holds room (joined run) x) (fits_room xs room k run) (rw p at t)
  some_of (Memᴰ.tail {x} {xs} m) t = or_right (holds room (joined run) x) (fits_room xs room k run) (some_of m t)

  -- where each encoding holds it
  each_holds : (es : List Encoding) → T (nonempty es) → ((e : Encoding) → length (spell_in e (joined run)) ≤ room) → T (fits_room es room k run)
  each_holds [] n h = absurd n
  each_holds (e ∷ es) n h = or_left (holds room (joined run) e) (fits_room es room k run) (le→leb (length (spell_in e (joined run))) room (h e))

pub none_fits : (es : List Encoding) → T (nonempty es) → (room k : ℕ) → T (fits_room es room k [])
none_fits es n room k = each_holds room k [] es n (λ e. omega (arith, spell_in_nil e))

-- a room of 12 holds every character, 4 bytes of 3 characters each in Q, and of 8 in B
pub char_fits : (es : List Encoding) → T (nonempty es) → (room : ℕ) → 12 ≤ room → (k : ℕ) (c : List ℕ) → T (is_char c) → T (fits_room es room k (c ∷ []))
char_fits es n room h k c t = each_holds room k (c ∷ []) es n (λ e. rw append-nil (go e))
  where
    go : (e : Encoding) → length (spell_in e c) ≤ room
    go Q = omega (arith, length_spell c, char_length c t)
    go B = omega (arith, length_base64 c, char_length c t)

-- a character of any text fits a word: by its first byte it has 8 bytes at most
pub short_fits : (k : ℕ) (c : List ℕ) → length c ≤ 8 → T (fits_room encodings 63 k (c ∷ []))
short_fits k c h = rw append-nil (or_left (holds 63 c Q) _ (le→leb (length (spell_in Q c)) 63 (omega (arith, h, length_spell c))))

-- ---- the encoding chosen

-- it is one of them, and holds what one of them holds
pub record Chosen (es : List Encoding) (room : ℕ) (bytes : List ℕ) (e : Encoding) : Type 0 where
  pub allowed : Memᴰ e es
  pub small : length (spell_in e bytes) ≤ room

pub chosen_holds : (es : List Encoding) (room k : ℕ) (run : List (List ℕ)) → T (fits_room es room k run) → Chosen es room (joined run) (chosen es room (joined run))
unfolding chosen
chosen_holds [] room k run t = absurd t
chosen_holds (e ∷ es) room k run t =
    let bytes = joined run in
    by_test (holds room bytes e)
    (λ u. rw (cond_yes (holds room bytes e) e (chosen es room bytes) u) (record { allowed = Memᴰ.head refl; small = leb→le (length (spell_in e bytes)) room u }))
    (λ u.
    let c = chosen_holds es room k run (other (holds room bytes e) (fits_room es room k run) t u) in
    rw (cond_no (holds room bytes e) e (chosen es room bytes) u) (record { allowed = Memᴰ.tail c.allowed; small = c.small }))
  where
    other : (a b : Bool) → T (a || b) → T (not a) → T b
    other true b t u = absurd u
    other false b t u = t
