-- The grammar of rows and the reading byte by byte say the same: a row is laid out as some words exactly if it reads as them, so in
-- one way at most; it reads back as a text exactly if it is laid out as words that add it.
use Rattle.std.specs.Prelude.{◌≡◌, Bool, false, not, cond, ◌&&◌, ℕ, ◌+◌, ◌*◌, ◌≤◌, T, eqb, drop}
use Rattle.std.proofs.Math.Path.{refl, subst}
use Rattle.std.proofs.Common.{sym, ap, ◌∙◌, arith, eqb→eq}
use Rattle.std.proofs.Math.Bool.{true}
use mathlib.Core.List.{List, [], ◌∷◌, ◌++◌, append_assoc, append-nil}
use Rattle.std.proofs.Math.Option.{Option, none, some}
use Rattle.std.proofs.Math.Facts.{and_yes, no_eqb, eqb_no}
use Rattle.lists.specs.Lists.{all}
use Rattle.lists.specs.ListsLaws.{by_test, cond_yes, cond_no}
use Rattle.lists.specs.Byte.{within}
use Rattle.lists.specs.ByteLaws.{within_low, within_high, to_within}
use Rattle.base64_digits.proofs.Base64Laws.{is_base64, all_base64}
use Rattle.base64_digits.specs.Grammar.{FromBase64}
use Rattle.base64_digits.specs.Reading.{is_digit64, from_base64}
use Rattle.base64_digits.proofs.GrammarLaws.{base64_only, grammar_read, read_grammar}
use Rattle.word_spelling.specs.Spelling.{closing}
use Rattle.row.specs.declared.Encoding.{Encoding}
use Rattle.row.specs.declared.Encoding.TheVariants.{Q, B}
use Rattle.row.specs.Word.{opening_in}
use Rattle.row.specs.Layout.{any_case_value, Adds, AddsIn, Word, word_bytes, Reads, LaidAfter, added_text}
use Rattle.row.specs.Layout.LaidAfter.{empty, space, crlf, word}
use Rattle.row.proofs.LayoutLaws.{Laid}
use Rattle.row.specs.Reading.{State, opened, extended, role, charset, letter_of, step_between, step_opens, step_letter, open_in, step_in_word, step_digit, step_second, closed_b, step, reading, finish, words_read, reads_as}
use Rattle.row.specs.Reading.State.{fault, between, after_cr, opens, letter, after_letter, in_word, after_equals, after_digit, closes, in_word_b, closes_b}
use Rattle.row.specs.Reading.Role.{itself}

-- ---- from the layout to the reading

reading_append : (s : State) (a b : List ℕ) → reading s (a ++ b) ≡ reading (reading s a) b
unfolding reading
reading_append s [] b = refl
reading_append s (x ∷ a) b = reading_append (step s x) a b

role_itself : (b : ℕ) → 33 ≤ b → b ≤ 126 → (b ≡ 63 → ⊥) → (b ≡ 61 → ⊥) → (b ≡ 95 → ⊥) → role b ≡ itself
unfolding role
role_itself b low high q e u =
    cond_no (eqb b 95) _ _ (no_eqb {a = b} {b = 95} u)
    ∙ cond_no (eqb b 61) _ _ (no_eqb {a = b} {b = 61} e)
    ∙ cond_no (eqb b 63) _ _ (no_eqb {a = b} {b = 63} q)
    ∙ cond_yes (within 33 126 b) _ _ (to_within 33 126 b low high)

extended_twice : (w : Word) (s t a b : List ℕ) → extended (extended w s t) a b ≡ extended w (s ++ a) (t ++ b)
extended_twice w s t a b = simp append_assoc

read_adds : (ws : List Word) (w : Word) {s t : List ℕ} → Adds s t → reading (in_word ws w) s ≡ in_word ws (extended w s t)
unfolding reading step role
read_adds ws w Adds.nothing = simp append-nil
read_adds ws w (Adds.underscore {standing} {added} a) =
    read_adds ws (extended w (95 ∷ []) (32 ∷ [])) a ∙ ap (in_word ws) (extended_twice w (95 ∷ []) (32 ∷ []) standing added)
read_adds ws w (Adds.hex {first} {second} {high} {low} {standing} {added} p q a) =
    rw (p, q) (
    read_adds ws (extended w (61 ∷ first ∷ second ∷ []) ((high * 16 + low) ∷ [])) a
    ∙ ap (in_word ws) (extended_twice w (61 ∷ first ∷ second ∷ []) ((high * 16 + low) ∷ []) standing added))
read_adds ws w (Adds.itself {b} {standing} {added} low high q e u a) =
    rw (role_itself b low high q e u) (
    read_adds ws (extended w (b ∷ []) (b ∷ [])) a ∙ ap (in_word ws) (extended_twice w (b ∷ []) (b ∷ []) standing added))

-- what is base64 has no `?`
no_question : (b : ℕ) → T (is_base64 b) → T (not (eqb b 63))
unfolding is_digit64
no_question b t = by_test (eqb b 63) (λ u. absurd (rw (eqb→eq b 63 u) at t)) (λ u. u)

read_base64 : (ws : List Word) (done standing : List ℕ) → T (all is_base64 standing) → reading (in_word_b ws done) standing ≡ in_word_b ws (done ++ standing)
unfolding reading step
read_base64 ws done [] h = simp append-nil
read_base64 ws done (b ∷ standing) h =
    let both = and_yes (is_base64 b) (all is_base64 standing) h in
    rw (cond_no (eqb b 63) (closes_b ws done) (in_word_b ws (done ++ (b ∷ []))) (no_question b both.0))
    (read_base64 ws (done ++ (b ∷ [])) standing both.1 ∙ rw (append_assoc done (b ∷ []) standing) refl)

read_in : (e : Encoding) (ws : List Word) (standing added row : List ℕ) → AddsIn e standing added
    → reading (between false ws) ((opening_in e ++ (standing ++ closing)) ++ row) ≡ reading (between true (ws ++ (record { encoding = e; standing = standing; added = added } ∷ []))) row
unfolding reading step role
read_in Q ws standing added row h =
    rw (append_assoc standing closing row, reading_append (in_word ws opened) standing (closing ++ row), read_adds ws opened h) refl
read_in B ws standing added row h =
    let digits : T (all is_base64 standing) = rw (base64_only h) at (all_base64 added) in
    rw (append_assoc standing closing row, reading_append (in_word_b ws []) standing (closing ++ row), read_base64 ws [] standing digits, grammar_read h) refl

read_word : (ws : List Word) (w : Word) (row : List ℕ) → Reads w → reading (between false ws) (word_bytes w ++ row) ≡ reading (between true (ws ++ (w ∷ []))) row
read_word ws w row h = read_in w.encoding ws w.standing w.added row h

laid_finish : {straight : Bool} {row : List ℕ} {ws : List Word} (vs : List Word) → LaidAfter straight row ws
    → finish (reading (between straight vs) row) ≡ some (vs ++ ws)
unfolding reading step
laid_finish vs empty = rw append-nil
laid_finish vs (space l) = laid_finish vs l
laid_finish vs (crlf l) = laid_finish vs l
laid_finish vs (word {row} {w} h l) =
    rw (read_word vs w row h, laid_finish (vs ++ (w ∷ [])) l, append_assoc) refl

-- a row laid out so reads as its words
pub laid_reads : {row : List ℕ} {ws : List Word} → Laid row ws → words_read row ≡ some ws
unfolding words_read
laid_reads l = laid_finish [] l

-- ---- from the reading to the layout

-- by cases on the test of a cond
by_cond : {A R : Type 0} (P : A → Type 0) (b : Bool) (x y : A) → P (cond b x y) → (T b → P x → R) → (T (not b) → P y → R) → R
by_cond P true x y p f g = f tt p
by_cond P false x y p f g = g tt p

-- what is left of a row between words; `vs` are the words before, and `ws` are all
record Left (straight : Bool) (vs : List Word) (row : List ℕ) (ws : List Word) : Type 0 where
  more : List Word
  laid : LaidAfter straight row more
  are : ws ≡ vs ++ more

-- what is left in a word in Q that is `w` so far, from its next byte added or its closing on
record LeftIn (vs : List Word) (w : Word) (row : List ℕ) (ws : List Word) : Type 0 where
  standing : List ℕ
  added : List ℕ
  adds : Adds standing added
  rest : List ℕ
  left : Left true (vs ++ (extended w standing added ∷ [])) rest ws
  is : row ≡ standing ++ (closing ++ rest)

-- what is left in a word in B in which `begun` stands so far
record LeftBase64 (vs : List Word) (begun row : List ℕ) (ws : List Word) : Type 0 where
  standing : List ℕ
  added : List ℕ
  adds : FromBase64 (begun ++ standing) added
  rest : List ℕ
  left : Left true (vs ++ (record { encoding = B; standing = begun ++ standing; added = added } ∷ [])) rest ws
  is : row ≡ standing ++ (closing ++ rest)

-- what is left from the start of what stands in a word on
record LeftWord (e : Encoding) (vs : List Word) (row : List ℕ) (ws : List Word) : Type 0 where
  standing : List ℕ
  added : List ℕ
  adds : AddsIn e standing added
  rest : List ℕ
  left : Left true (vs ++ (record { encoding = e; standing = standing; added = added } ∷ [])) rest ws
  is : row ≡ standing ++ (closing ++ rest)

-- what is left from the letter of an encoding on
record LeftLetter (vs : List Word) (row : List ℕ) (ws : List Word) : Type 0 where
  kind : Encoding
  rest : List ℕ
  left : LeftWord kind vs rest ws
  is : row ≡ letter_of kind ∷ 63 ∷ rest

-- what is left in `=?UTF-8?` with the bytes `more` of it to come
record LeftOpening (vs : List Word) (more row : List ℕ) (ws : List Word) : Type 0 where
  rest : List ℕ
  left : LeftLetter vs rest ws
  is : row ≡ more ++ rest

-- what is left of a row that reads as `ws`, by the state
abbrev Rest : State → List ℕ → List Word → Type 0
Rest fault row ws = ⊥
Rest (between straight vs) row ws = Left straight vs row ws
Rest (after_cr vs) row ws = (straight : Bool) → Left straight vs (13 ∷ row) ws
Rest (opens more vs) row ws = LeftOpening vs more row ws
Rest (letter vs) row ws = LeftLetter vs row ws
Rest (after_letter e vs) row ws = LeftLetter vs (letter_of e ∷ row) ws
Rest (in_word vs w) row ws = LeftIn vs w row ws
Rest (after_equals vs w) row ws = LeftIn vs w (61 ∷ row) ws
Rest (after_digit vs w first high) row ws = any_case_value first ≡ some high → LeftIn vs w (61 ∷ first ∷ row) ws
Rest (closes vs w) row ws = LeftIn vs w (63 ∷ row) ws
Rest (in_word_b vs begun) row ws = LeftBase64 vs begun row ws
Rest (closes_b vs begun) row ws = LeftBase64 vs begun (63 ∷ row) ws

module _ (row : List ℕ) (ws : List Word) where
  -- a byte added before what is left
  back_adds : (vs : List Word) (w : Word) (s : List ℕ) (x : ℕ) → ((a b : List ℕ) → Adds a b → Adds (s ++ a) (x ∷ b))
      → LeftIn vs (extended w s (x ∷ [])) row ws → LeftIn vs w (s ++ row) ws
  back_adds vs w s x f l = record {
    standing = s ++ l.standing;
    added = x ∷ l.added;
    adds = f l.standing l.added l.adds;
    rest = l.rest;
    left = subst (λ (v : Word). Left true (vs ++ (v ∷ [])) l.rest ws) (extended_twice w s (x ∷ []) l.standing l.added) l.left;
    is = rw l.is (sym (append_assoc s l.standing (closing ++ l.rest)));
  }

  -- a word that has been opened
  back_opened : (e : Encoding) (vs : List Word) → Rest (open_in e vs) row ws → LeftWord e vs row ws
  back_opened Q vs l = record { standing = l.standing; added = l.added; adds = l.adds; rest = l.rest; left = l.left; is = l.is }
  back_opened B vs l = record { standing = l.standing; added = l.added; adds = l.adds; rest = l.rest; left = l.left; is = l.is }

  whole_word : (e : Encoding) (rest : List ℕ) (vs : List Word) → LeftWord e vs rest ws → Left false vs (opening_in e ++ rest) ws
  whole_word e rest vs l =
      let w : Word = record { encoding = e; standing = l.standing; added = l.added } in record {
        more = w ∷ l.left.more;
        laid = subst (λ (r : List ℕ). LaidAfter false r (w ∷ l.left.more))
            (append_assoc (opening_in e) (l.standing ++ closing) l.rest ∙ rw (l.is, append_assoc l.standing closing l.rest) refl)
            (word {w = w} l.adds l.left.laid);
        are = l.left.are ∙ append_assoc vs (w ∷ []) l.left.more;
      }

  back_opening : (straight : Bool) (vs : List Word) → T (not straight) → LeftOpening vs (drop 1 charset) row ws → Left straight vs (61 ∷ row) ws
  back_opening true vs t o = absurd t
  back_opening false vs t o = rw (o.is, o.left.is) (go o.left.kind o.left.rest o.left.left)
    where
      go : (e : Encoding) (rest : List ℕ) → LeftWord e vs rest ws → Left false vs (charset ++ (letter_of e ∷ 63 ∷ rest)) ws
      go Q rest l = whole_word Q rest vs l
      go B rest l = whole_word B rest vs l

  back_between : (straight : Bool) (vs : List Word) (b : ℕ) → Rest (step_between straight vs b) row ws → Left straight vs (b ∷ row) ws
  back_between straight vs b r =
      by_cond (λ s. Rest s row ws) (eqb b 32) _ _ r
      (λ t l. rw (eqb→eq b 32 t) (record { more = l.more; laid = space l.laid; are = l.are }))
      (λ t r. by_cond (λ s. Rest s row ws) (eqb b 13) _ _ r (λ u f. rw (eqb→eq b 13 u) (f straight))
      (λ u r. by_cond (λ s. Rest s row ws) (eqb b 61 && not straight) _ _ r
      (λ v o. let both = and_yes (eqb b 61) (not straight) v in rw (eqb→eq b 61 both.0) (back_opening straight vs both.1 o)) (λ v n. absurd n)))

  back_opens : (more : List ℕ) (vs : List Word) (b : ℕ) → Rest (step_opens more vs b) row ws → LeftOpening vs more (b ∷ row) ws
  back_opens [] vs b r = absurd r
  back_opens (x ∷ []) vs b r =
      by_cond (λ s. Rest s row ws) (eqb b x) _ _ r (λ t l. record { rest = row; left = l; is = rw (eqb→eq b x t) refl }) (λ t n. absurd n)
  back_opens (x ∷ y ∷ more) vs b r =
      by_cond (λ s. Rest s row ws) (eqb b x) _ _ r
      (λ t o. record { rest = o.rest; left = o.left; is = rw (eqb→eq b x t, o.is) refl }) (λ t n. absurd n)

  back_letter : (vs : List Word) (b : ℕ) → Rest (step_letter vs b) row ws → LeftLetter vs (b ∷ row) ws
  back_letter vs b r =
      by_cond (λ s. Rest s row ws) (eqb b 81) _ _ r (λ t l. rw (eqb→eq b 81 t) l)
      (λ t r. by_cond (λ s. Rest s row ws) (eqb b 66) _ _ r (λ u l. rw (eqb→eq b 66 u) l) (λ u n. absurd n))

  back_after_letter : (e : Encoding) (vs : List Word) (b : ℕ) → Rest (cond (eqb b 63) (open_in e vs) fault) row ws → LeftLetter vs (letter_of e ∷ b ∷ row) ws
  back_after_letter e vs b r =
      by_cond (λ s. Rest s row ws) (eqb b 63) _ _ r
      (λ t l. rw (eqb→eq b 63 t) (record { kind = e; rest = row; left = back_opened e vs l; is = refl })) (λ t n. absurd n)

  back_base64 : (vs : List Word) (begun : List ℕ) (b : ℕ) → Rest (cond (eqb b 63) (closes_b vs begun) (in_word_b vs (begun ++ (b ∷ [])))) row ws
      → LeftBase64 vs begun (b ∷ row) ws
  back_base64 vs begun b r =
      by_cond (λ s. Rest s row ws) (eqb b 63) _ _ r (λ t l. rw (eqb→eq b 63 t) l)
      (λ t l.
      let same : (begun ++ (b ∷ [])) ++ l.standing ≡ begun ++ (b ∷ l.standing) = append_assoc begun (b ∷ []) l.standing in
      record { standing = b ∷ l.standing; added = l.added; adds = rw same at l.adds; rest = l.rest; left = rw same at l.left; is = rw l.is refl })

  back_close : (o : Option (List ℕ)) (vs : List Word) (begun : List ℕ) → from_base64 begun ≡ o → Rest (closed_b o vs begun) row ws
      → LeftBase64 vs begun (63 ∷ 61 ∷ row) ws
  back_close none vs begun e r = absurd r
  back_close (some added) vs begun e r =
      record { standing = []; added = added; adds = rw append-nil (read_grammar begun added e); rest = row; left = rw append-nil r; is = refl }

  back_in_word : (vs : List Word) (w : Word) (b : ℕ) → Rest (step_in_word (role b) vs w b) row ws → LeftIn vs w (b ∷ row) ws
  unfolding role
  back_in_word vs w b r =
      by_cond (λ k. Rest (step_in_word k vs w b) row ws) (eqb b 95) _ _ r
      (λ u l. back_adds vs w (b ∷ []) 32 (λ s t a. rw (eqb→eq b 95 u) (Adds.underscore a)) l)
      (λ t r. by_cond (λ k. Rest (step_in_word k vs w b) row ws) (eqb b 61) _ _ r (λ u l. rw (eqb→eq b 61 u) l)
      (λ u r. by_cond (λ k. Rest (step_in_word k vs w b) row ws) (eqb b 63) _ _ r (λ v l. rw (eqb→eq b 63 v) l)
      (λ v r. by_cond (λ k. Rest (step_in_word k vs w b) row ws) (within 33 126 b) _ _ r
      (λ z l. back_adds vs w (b ∷ []) b
      (λ x y a. Adds.itself (within_low 33 126 b z) (within_high 33 126 b z) (eqb_no {a = b} {b = 63} v) (eqb_no {a = b} {b = 61} u) (eqb_no {a = b} {b = 95} t) a) l)
      (λ z n. absurd n))))

  back_first : (o : Option ℕ) (vs : List Word) (w : Word) (b : ℕ) → any_case_value b ≡ o → Rest (step_digit o vs w b) row ws
      → LeftIn vs w (61 ∷ b ∷ row) ws
  back_first none vs w b e r = absurd r
  back_first (some high) vs w b e r = r e

  back_second : (o : Option ℕ) (vs : List Word) (w : Word) (first high b : ℕ) → any_case_value b ≡ o → any_case_value first ≡ some high
      → Rest (step_second o vs w first high b) row ws → LeftIn vs w (61 ∷ first ∷ b ∷ row) ws
  back_second none vs w first high b e f r = absurd r
  back_second (some low) vs w first high b e f r =
      back_adds vs w (61 ∷ first ∷ b ∷ []) (high * 16 + low) (λ s t a. Adds.hex f e a) r

  -- from what is left after a byte to what is left before it
  back_step : (s : State) (b : ℕ) → Rest (step s b) row ws → Rest s (b ∷ row) ws
  unfolding step
  back_step fault b r = r
  back_step (between straight vs) b r = back_between straight vs b r
  back_step (after_cr vs) b r =
      λ straight. by_cond (λ s. Rest s row ws) (eqb b 10) _ _ r
      (λ t l. rw (eqb→eq b 10 t) (record { more = l.more; laid = crlf l.laid; are = l.are })) (λ t n. absurd n)
  back_step (opens more vs) b r = back_opens more vs b r
  back_step (letter vs) b r = back_letter vs b r
  back_step (after_letter e vs) b r = back_after_letter e vs b r
  back_step (in_word vs w) b r = back_in_word vs w b r
  back_step (after_equals vs w) b r = back_first (any_case_value b) vs w b refl r
  back_step (after_digit vs w first high) b r = λ f. back_second (any_case_value b) vs w first high b refl f r
  back_step (closes vs w) b r =
      by_cond (λ s. Rest s row ws) (eqb b 61) _ _ r
      (λ t l. rw (eqb→eq b 61 t) (record {
        standing = [];
        added = [];
        adds = Adds.nothing;
        rest = row;
        left = subst (λ (v : Word). Left true (vs ++ (v ∷ [])) row ws) (whole w) l;
        is = refl;
      })) (λ t n. absurd n)
    where
      whole : (w : Word) → w ≡ extended w [] []
      whole w = simp append-nil
  back_step (in_word_b vs begun) b r = back_base64 vs begun b r
  back_step (closes_b vs begun) b r =
      by_cond (λ s. Rest s row ws) (eqb b 61) _ _ r (λ t l. rw (eqb→eq b 61 t) (back_close (from_base64 begun) vs begun refl l)) (λ t n. absurd n)

none≢some : {A : Type 0} {a : A} → none ≡ some a → ⊥
none≢some e = let z : ◌≡◌ {A = ℕ} 0 1 = cc in omega arith

back_end : (s : State) (ws : List Word) → finish s ≡ some ws → Rest s [] ws
back_end fault ws e = none≢some e
back_end (between straight vs) ws e = record { more = []; laid = empty; are = let same : vs ≡ ws = cc in sym same ∙ rw append-nil refl }
back_end (after_cr vs) ws e = absurd (none≢some e)
back_end (opens more vs) ws e = absurd (none≢some e)
back_end (letter vs) ws e = absurd (none≢some e)
back_end (after_letter kind vs) ws e = absurd (none≢some e)
back_end (in_word vs w) ws e = absurd (none≢some e)
back_end (after_equals vs w) ws e = absurd (none≢some e)
back_end (after_digit vs w first high) ws e = absurd (none≢some e)
back_end (closes vs w) ws e = absurd (none≢some e)
back_end (in_word_b vs begun) ws e = absurd (none≢some e)
back_end (closes_b vs begun) ws e = absurd (none≢some e)

back : (s : State) (row : List ℕ) (ws : List Word) → finish (reading s row) ≡ some ws → Rest s row ws
unfolding reading
back s [] ws e = back_end s ws e
back s (b ∷ row) ws e = back_step row ws s b (back (step s b) row ws e)

-- a row that reads is laid out so
pub laid_out : (row : List ℕ) (ws : List Word) → words_read row ≡ some ws → Laid row ws
unfolding words_read
laid_out row ws e = let l = back (between false []) row ws e in rw l.are l.laid

-- ---- a row has one layout, and one text

-- "A row is read from its bytes alone": in one way
pub laid_once : {row : List ℕ} {vs ws : List Word} → Laid row vs → Laid row ws → vs ≡ ws
laid_once a b = let p = laid_reads a in let q = laid_reads b in cc

-- what a row laid out so reads back as
pub laid_text : {row : List ℕ} {ws : List Word} → Laid row ws → reads_as row ≡ some (added_text ws)
unfolding reads_as
laid_text l = rw (laid_reads l)

-- a row with a fault is not laid out
pub fault_not_laid : {row : List ℕ} {ws : List Word} → reads_as row ≡ none → Laid row ws → ⊥
fault_not_laid e l = none≢some (sym e ∙ laid_text l)

fault_text : (row : List ℕ) → words_read row ≡ none → reads_as row ≡ none
unfolding reads_as
fault_text row e = rw e

-- words that a row is laid out as, and that add the text
pub record LaidText (row text : List ℕ) : Type 0 where
  pub words : List Word
  pub laid : Laid row words
  pub adds : added_text words ≡ text

by_words : (row text : List ℕ) (o : Option (List Word)) → words_read row ≡ o → reads_as row ≡ some text → LaidText row text
by_words row text none p r = absurd (none≢some (sym (fault_text row p) ∙ r))
by_words row text (some ws) p r =
    let l = laid_out row ws p in
    let q = laid_text l in
    record { words = ws; laid = l; adds = cc }

-- a row that reads back as a text is laid out as words that add it
pub text_laid : (row text : List ℕ) → reads_as row ≡ some text → LaidText row text
text_laid row text e = by_words row text (words_read row) refl e
