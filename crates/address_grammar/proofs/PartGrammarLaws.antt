-- The parts of every text are what their kinds say, and joined they are the text.
use Rattle.std.specs.Prelude.{◌≡◌, refl, Bool, cond, ◌&&◌, List, [], ◌∷◌, ◌++◌, ℕ, zero, suc, pred, ◌+◌, ◌-◌, ◌≤◌, ◌<◌, T, ltb, leb, eqb, length, take, drop, get_or, Result, Ok, Err}
use Rattle.std.proofs.Common.{ap, sym, ◌∙◌, append_assoc, append-nil, not-suc-le-zero, add-one, arith, length-append, length-drop, take-append-drop, drop-cons, drop-drop, drop_at, take-add, length-take-le}
use Rattle.std.proofs.Math.Seq.{drop-append_seam, take-nil, take-append_seam}
use Rattle.std.proofs.Math.Facts.{and_yes, ltb_yes, leb_yes}
use Rattle.lists.specs.ListsLaws.{cond_has}
use Rattle.lists.specs.Lists.{nonempty}
use Rattle.lists.specs.Run.{run}
use Rattle.lists.specs.RunLaws.{run_le, run_all}
use Rattle.line.specs.Line.{blank}
use Rattle.address.specs.Address.{quoted_scan, address_scan}
use Rattle.address.specs.AddressLaws.{byte_within}
use Rattle.address.specs.GrammarLaws.{quoted_string_sound, address_sound}
use Rattle.comment.proofs.GrammarLaws.{taken_comment}
use Rattle.rules.specs.Rules.{allows_alternative}
use Rattle.rules.specs.declared.Rules.{Rules}
use Rattle.phrase.specs.Words.{found, capped, is_word_byte, address_len, word_len, next_word_len, next_words_len, phrase_len}
use Rattle.address_list.specs.Parts.{front, part_at, parts_from, parts_of}
use Rattle.address_list.specs.PartCasesLaws.{Opened, Replaced, part_has}
use Rattle.address_list.specs.declared.PartKind.TheVariants.{Angled, Alternative}
use Rattle.address_list.specs.declared.Front.{Front}
use Rattle.address_grammar.specs.PartGrammar.{PhraseText, AngledText, AlternativeText, IsPart, EachIsPart, joined_parts}
use Rattle.address_grammar.specs.PartTexts.{WordForm, WordText, AddressText, SomeBlanks}

-- ---- words and addresses

none_some : {A : Type 0} → 0 < 0 → A
none_some h = absurd (not-suc-le-zero h)

-- a length that is not above 900 is told
capped_some : (P : ℕ → Type 0) (n : ℕ) → (0 < n → n ≤ 900 → P n) → 0 < capped n → P (capped n)
unfolding capped
capped_some P n f = cond_has (λ m. 0 < m → P m) (leb n 900) n 0 (λ t p. f p (leb_yes t)) (λ t p. none_some p)

front_le : (n : ℕ) (s : List ℕ) → length (take n s) ≤ n
front_le zero s = omega arith
front_le (suc n) [] = omega arith
front_le (suc n) (b ∷ s) = omega (arith, front_le n s)

size_in : (n : ℕ) (s : List ℕ) → n ≤ 900 → length (take n s) ≤ 900
size_in n s h = omega (arith, front_le n s)

front_some : (n : ℕ) (s : List ℕ) → 0 < n → 0 < length s → T (nonempty (take n s))
front_some n [] p h = absurd (not-suc-le-zero h)
front_some zero (b ∷ s) p h = absurd (not-suc-le-zero p)
front_some (suc n) (b ∷ s) p h = tt

-- bytes at the front that pass a test, at least one
run_some : (f : ℕ → Bool) (s : List ℕ) → 0 < run f s → T (nonempty (take (run f s) s))
run_some f s p = front_some (run f s) s p (omega (arith, run_le f s))

pub word_made : (s : List ℕ) → 0 < word_len s → WordText (take (word_len s) s)
unfolding word_len
word_made s = capped_some (λ n. WordText (take n s)) (cond (eqb (get_or s 0 0) 34) (found (quoted_scan s)) (run is_word_byte s))
    (cond_has (λ n. 0 < n → n ≤ 900 → WordText (take n s)) (eqb (get_or s 0 0) 34) (found (quoted_scan s)) (run is_word_byte s)
    (λ t. string (quoted_scan s) refl)
    (λ t p h. record { form = WordForm.run (run_some is_word_byte s p) (run_all is_word_byte s); size = size_in _ s h }))
  where
    string : (r : Result ℕ ℕ) → quoted_scan s ≡ r → 0 < found r → found r ≤ 900 → WordText (take (found r) s)
    string (Ok n) e p h = record { form = WordForm.string (quoted_string_sound s n e); size = size_in n s h }
    string (Err n) e p h = none_some p

pub address_made : (s : List ℕ) → 0 < address_len s → AddressText (take (address_len s) s)
unfolding address_len
address_made s = capped_some (λ n. AddressText (take n s)) (found (address_scan s)) (go (address_scan s) refl)
  where
    go : (r : Result ℕ ℕ) → address_scan s ≡ r → 0 < found r → found r ≤ 900 → AddressText (take (found r) s)
    go (Ok n) e p h = record { form = address_sound s n e; size = size_in n s h }
    go (Err n) e p h = none_some p

-- ---- phrases

-- blanks and a word after them
record NextWord (t : List ℕ) : Type 0 where
  gap : List ℕ
  word : List ℕ
  made : t ≡ gap ++ word
  blanks : SomeBlanks gap
  is : WordText word

next_word_made : (s : List ℕ) → 0 < next_word_len s → NextWord (take (next_word_len s) s)
unfolding next_word_len
next_word_made s =
    let gap = run blank s in
    let word = word_len (drop gap s) in
    cond_has (λ n. 0 < n → NextWord (take n s)) (ltb 0 gap && ltb 0 word) (gap + word) 0
    (λ t p.
    let both = and_yes (ltb 0 gap) (ltb 0 word) t in
    record {
      gap = take gap s;
      word = take word (drop gap s);
      made = take-add gap word s;
      blanks = record { some = run_some blank s (ltb_yes both.0); blanks = run_all blank s };
      is = word_made (drop gap s) (ltb_yes both.1);
    })
    (λ t p. none_some p)

-- what follows k bytes of a phrase, as far as it goes on
record Continued (k : ℕ) (s : List ℕ) (t : List ℕ) : Type 0 where
  rest : List ℕ
  made : t ≡ take k s ++ rest
  phrase : (w : List ℕ) → WordText w → PhraseText (w ++ rest)

ends : (w : List ℕ) → WordText w → PhraseText (w ++ [])
ends w h = rw append-nil (PhraseText.one h)

words_made : (k : ℕ) (s : List ℕ) → Continued k s (take (next_words_len k s) s)
unfolding next_words_len
words_made k [] = record { rest = []; made = rw (take-nil k); phrase = ends }
words_made (suc k) (b ∷ s) =
    let i = words_made k s in
    record { rest = i.rest; made = ap (λ (l : List ℕ). b ∷ l) i.made; phrase = i.phrase }
words_made zero (b ∷ s) =
    let n = next_word_len (b ∷ s) in
    let more = next_words_len (pred n) s in
    let i : Continued (pred n) s (take more s) = words_made (pred n) s in
    cond_has (λ m. Continued 0 (b ∷ s) (take m (b ∷ s))) (ltb 0 n) (suc more) 0
    (λ t.
    let next = next_word_made (b ∷ s) (ltb_yes t) in
    let size : n ≡ suc (pred n) = omega (arith, ltb_yes {a = 0} {b = n} t) in
    let words : b ∷ take (pred n) s ≡ next.gap ++ next.word = sym (ap (λ (j : ℕ). take j (b ∷ s)) size) ∙ next.made in
    record {
      rest = next.gap ++ (next.word ++ i.rest);
      made = ap (λ (l : List ℕ). b ∷ l) i.made ∙ ap (λ (l : List ℕ). l ++ i.rest) words ∙ append_assoc next.gap next.word i.rest;
      phrase = λ w h. PhraseText.then h next.blanks (i.phrase next.word next.is);
    })
    (λ t. record { rest = []; made = refl; phrase = ends })

pub phrase_made : (s : List ℕ) → 0 < phrase_len s → PhraseText (take (phrase_len s) s)
unfolding phrase_len
phrase_made s =
    let word = word_len s in
    cond_has (λ n. 0 < n → PhraseText (take n s)) (ltb 0 word) (word + next_words_len 0 (drop word s)) 0
    (λ t p.
    let i = words_made 0 (drop word s) in
    rw (take-add word (next_words_len 0 (drop word s)) s, i.made) (i.phrase (take word s) (word_made s (ltb_yes t))))
    (λ t p. none_some p)

-- ---- a text by positions

chunk : (s : List ℕ) (i n m : ℕ) → take (n + m) (drop i s) ≡ take n (drop i s) ++ take m (drop (i + n) s)
chunk s i n m = take-add n m (drop i s) ∙ rw (drop-drop n i s)

byte_chunk : (s : List ℕ) (i b m : ℕ) → get_or s i 0 ≡ suc b → take (suc m) (drop i s) ≡ suc b ∷ take m (drop (i + 1) s)
byte_chunk s i b m e = rw (drop-cons s i 0 (byte_within s i b e), e, add-one)

chunk_length : (s : List ℕ) (i n : ℕ) → i + n ≤ length s → length (take n (drop i s)) ≡ n
chunk_length s i n h = length-take-le n (drop i s) (rw length-drop (omega arith))

-- ---- the address that a part names

pub angled_told : {start size : ℕ} {t : List ℕ} (p : AngledText start size t) → take size (drop start t) ≡ p.address
angled_told p =
    let from : 1 + length p.gap ≡ suc (length p.gap) = omega arith in
    rw (p.made, p.size_is, p.start_is, from, drop-append_seam p.gap (p.address ++ (62 ∷ [])), take-append_seam p.address (62 ∷ []))

pub alternative_told : {rules : Rules} {start size : ℕ} {t : List ℕ} (p : AlternativeText rules start size t) → take size (drop start t) ≡ p.alternative
alternative_told {rules} {start} {size} {t} p =
    let gap = p.gap in
    let first = p.first in
    let between = p.between in
    let gap₂ = p.gap₂ in
    let last : List ℕ = p.alternative ++ (62 ∷ 62 ∷ []) in
    let front : List ℕ = 60 ∷ (gap ++ (first ++ (between ++ (60 ∷ gap₂)))) in
    let whole : t ≡ front ++ last =
    p.made ∙ rw (append_assoc gap (first ++ (between ++ (60 ∷ gap₂))) last, append_assoc first (between ++ (60 ∷ gap₂)) last, append_assoc between (60 ∷ gap₂) last) in
    let from : length front ≡ start =
    omega (arith, p.start_is, length-append gap (first ++ (between ++ (60 ∷ gap₂))), length-append first (between ++ (60 ∷ gap₂)), length-append between (60 ∷ gap₂)) in
    rw (whole, p.size_is, drop_at front last start from, take-append_seam p.alternative (62 ∷ 62 ∷ []))

-- ---- the part at the front

-- it has a byte, and it is what its kind says
record Made (rules : Rules) (s : List ℕ) (f : Front) : Type 0 where
  some : 0 < f.size
  is : IsPart rules f.kind (take f.size s)

first_byte : (s : List ℕ) → 0 < length s → take 1 s ≡ get_or s 0 0 ∷ []
first_byte [] h = absurd (not-suc-le-zero h)
first_byte (b ∷ s) h = refl

-- `<`, blanks up to a, and an address up to a + n
module _ (rules : Rules) (s : List ℕ) (a n : ℕ) (o : Opened s a n) where
  address_there : AddressText (take n (drop a s))
  address_there = rw o.size_is (address_made (drop a s) (rw o.size_is at o.some))

  angled_made : get_or s (a + n) 0 ≡ 62 → Made rules s (front (Angled a n) (a + n + 1))
  angled_made close =
      let r : ℕ = run blank (drop 1 s) in
      let total : a + n + 1 ≡ suc (r + (n + 1)) = omega (arith, o.start_is) in
      let long : a + n < length s = byte_within s (a + n) 61 close in
      record {
        some = omega arith;
        is = record {
          gap = take r (drop 1 s);
          address = take n (drop a s);
          made = rw (total, byte_chunk s 0 59 (r + (n + 1)) o.opens, chunk s 1 r (n + 1), ← o.start_is, chunk s a n 1, byte_chunk s (a + n) 61 0 close);
          blanks = run_all blank (drop 1 s);
          is = address_there;
          start_is = omega (arith, o.start_is, chunk_length s 1 r (omega (arith, o.start_is)));
          size_is = sym (chunk_length s a n (omega arith));
        };
      }

  -- blanks up to inner, `<`, blanks up to start, an address and `>>`
  module _ (inner start size : ℕ) (e : Replaced s a (a + n) inner start size) where
    alternative_made : T (allows_alternative rules) → Made rules s (front (Alternative start size) (start + size + 2))
    alternative_made allowed =
        let r : ℕ = run blank (drop 1 s) in
        let b : ℕ = a + n in
        let k : ℕ = run blank (drop b s) in
        let m : ℕ = run blank (drop (inner + 1) s) in
        let end : ℕ = start + size in
        let total : end + 2 ≡ suc (r + (n + (k + suc (m + (size + 2))))) = omega (arith, o.start_is, e.inner_is, e.start_is) in
        let long : end < length s = byte_within s end 61 e.close in
        let width : b - a ≡ n = omega arith in
        record {
          some = omega arith;
          is = record {
            allowed = allowed;
            gap = take r (drop 1 s);
            first = take n (drop a s);
            between = take k (drop b s);
            gap₂ = take m (drop (inner + 1) s);
            alternative = take size (drop start s);
            made =
                rw (
                  total,
                  byte_chunk s 0 59 (r + (n + (k + suc (m + (size + 2))))) o.opens,
                  chunk s 1 r (n + (k + suc (m + (size + 2)))),
                  ← o.start_is,
                  chunk s a n (k + suc (m + (size + 2))),
                  chunk s b k (suc (m + (size + 2))),
                  ← e.inner_is,
                  byte_chunk s inner 59 (m + (size + 2)) e.opens,
                  chunk s (inner + 1) m (size + 2),
                  ← e.start_is,
                  chunk s start size 2,
                  byte_chunk s end 61 1 e.close,
                  byte_chunk s (end + 1) 61 0 e.close₂,
                );
            blanks = run_all blank (drop 1 s);
            first_is = address_there;
            first_high = rw width at e.high;
            apart = record { some = run_some blank (drop b s) (omega (arith, e.apart, e.inner_is)); blanks = run_all blank (drop b s) };
            blanks₂ = run_all blank (drop (inner + 1) s);
            alternative_is = rw e.size_is (address_made (drop start s) (rw e.size_is at e.some));
            alternative_ascii = e.ascii;
            start_is =
                omega (
                  arith,
                  o.start_is,
                  e.inner_is,
                  e.start_is,
                  chunk_length s 1 r (omega (arith, o.start_is, e.inner_is, e.start_is)),
                  chunk_length s a n (omega (arith, e.inner_is, e.start_is)),
                  chunk_length s b k (omega (arith, e.inner_is, e.start_is)),
                  chunk_length s (inner + 1) m (omega (arith, e.start_is)),
                );
            size_is = sym (chunk_length s start size (omega arith));
          };
        }

part_made : (rules : Rules) (s : List ℕ) → 0 < length s → Made rules s (part_at rules s)
part_made rules s h = part_has (Made rules s) rules s (record {
  none = record { some = omega arith; is = record { byte = get_or s 0 0; made = first_byte s h; is = tt } };
  is_blank_lem = λ t. record { some = omega arith; is = record { byte = get_or s 0 0; made = first_byte s h; is = t } };
  comma = λ e. record { some = omega arith; is = mark 44 e };
  colon = λ e. record { some = omega arith; is = mark 58 e };
  semicolon = λ e. record { some = omega arith; is = mark 59 e };
  angled = λ start size o close. angled_made rules s start size o close;
  alternative = λ a n inner start size allowed o e. alternative_made rules s a n o inner start size e allowed;
  comment = λ some runs. record { some = some; is = record { form = taken_comment s some; runs = runs } };
  address = λ some. record { some = some; is = address_made s some };
  phrase = λ some. record { some = some; is = phrase_made s some };
})
  where
    mark : (b : ℕ) → get_or s 0 0 ≡ b → take 1 s ≡ b ∷ []
    mark b e = first_byte s h ∙ rw e

-- ---- the parts of a text

from_made : (rules : Rules) (k : ℕ) (s : List ℕ) → EachIsPart rules (parts_from rules k s)
unfolding parts_from
from_made rules k [] = tt
from_made rules (suc k) (b ∷ s) = from_made rules k s
from_made rules zero (b ∷ s) = ((part_made rules (b ∷ s) (omega arith)).is, from_made rules (pred (part_at rules (b ∷ s)).size) s)

-- each part of a text is what its kind says
pub parts_made : (rules : Rules) (text : List ℕ) → EachIsPart rules (parts_of rules text)
unfolding parts_of
parts_made rules text = from_made rules 0 text

from_joined : (rules : Rules) (k : ℕ) (s : List ℕ) → joined_parts (parts_from rules k s) ≡ drop k s
unfolding parts_from
from_joined rules zero [] = refl
from_joined rules (suc k) [] = refl
from_joined rules (suc k) (b ∷ s) = from_joined rules k s
from_joined rules zero (b ∷ s) =
    let n = (part_at rules (b ∷ s)).size in
    go n (part_made rules (b ∷ s) (omega arith)).some (from_joined rules (pred n) s)
  where
    go : (n : ℕ) → 0 < n → joined_parts (parts_from rules (pred n) s) ≡ drop (pred n) s → take n (b ∷ s) ++ joined_parts (parts_from rules (pred n) s) ≡ b ∷ s
    go zero p e = absurd (not-suc-le-zero p)
    go (suc n) p e = rw e (take-append-drop (suc n) (b ∷ s))

-- joined, the parts are the text
pub parts_joined : (rules : Rules) (text : List ℕ) → joined_parts (parts_of rules text) ≡ text
unfolding parts_of
parts_joined rules text = from_joined rules 0 text
