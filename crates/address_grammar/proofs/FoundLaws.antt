-- Words, phrases and addresses that the grammar makes are found in a text, where what follows does not go on with them.
use Rattle.std.specs.Prelude.{◌≡◌, refl, Bool, true, false, ◌&&◌, ◌||◌, List, [], ◌∷◌, ◌++◌, ℕ, suc, ◌+◌, ◌≤◌, ◌<◌, T, eqb, length, drop, get_or, Result, Ok, Err}
use Rattle.std.proofs.Common.{sym, ◌∙◌, append_assoc, add-zero, arith, lt-ltb, ne_eqb, length-append, drop_at}
use Rattle.std.proofs.Math.Bool.{and-false}
use Rattle.std.proofs.Math.Seq.{drop-append_seam}
use Rattle.std.proofs.Math.Facts.{and_yes, or_no}
use Rattle.lists.specs.Lists.{all, nonempty}
use Rattle.lists.specs.ListsLaws.{cond_has, by_test, yes_true, no_false}
use Rattle.lists.specs.Run.{run}
use Rattle.lists.specs.RunLaws.{run_past}
use Rattle.line.specs.Line.{blank}
use Rattle.address.specs.Address.{later, byte_then, scan_then, is_atext, is_atom_byte, dot_atom_end, dot_atom_from, dot_atom_scan, domain_scan, local_scan, address_scan}
use Rattle.address.specs.Grammar.{Atom, DotAtom, QuotedString, LocalPart, Address as AddressForm}
use Rattle.address.specs.GrammarLaws.{Closed, quoted_string_complete, address_complete}
use Rattle.phrase.specs.Words.{found, capped, is_word_byte, address_len, word_len, next_word_len, next_words_len, phrase_len}
use Rattle.phrase.specs.WordsLaws.{capped_in, words_front, words_stop}
use Rattle.address_grammar.specs.PartGrammar.{PhraseText}
use Rattle.address_grammar.specs.PartTexts.{WordForm, WordText, AddressText, Blanks, SomeBlanks}

-- ---- bytes

-- a word or an address starts with such a byte
unfoldable pub starting : ℕ → Bool
starting b = is_word_byte b || eqb b 34

-- no other part does, and no text ends there (0 is read past its end)
pub record Starts (b : ℕ) : Type 0 where
  pub no_blank : blank b ≡ false
  pub no_end : eqb b 0 ≡ false
  pub no_comma : eqb b 44 ≡ false
  pub no_colon : eqb b 58 ≡ false
  pub no_semicolon : eqb b 59 ≡ false
  pub no_bracket : eqb b 60 ≡ false
  pub no_paren : eqb b 40 ≡ false

pub starts : (b : ℕ) → T (starting b) → Starts b
unfolding starting is_word_byte is_atom_byte is_atext blank
starts b t = record {
  no_blank = rw (ne_eqb b 32 (λ e. rw e at t), ne_eqb b 9 (λ e. rw e at t));
  no_end = ne_eqb b 0 (λ e. rw e at t);
  no_comma = ne_eqb b 44 (λ e. rw e at t);
  no_colon = ne_eqb b 58 (λ e. rw e at t);
  no_semicolon = ne_eqb b 59 (λ e. rw e at t);
  no_bracket = ne_eqb b 60 (λ e. rw e at t);
  no_paren = ne_eqb b 40 (λ e. rw e at t);
}

-- a byte that ends a mailbox or a phrase, blanks before it left out: the end, or `, : ; < (`
unfoldable pub ending : ℕ → Bool
ending b = eqb b 0 || eqb b 44 || eqb b 58 || eqb b 59 || eqb b 60 || eqb b 40

-- what follows a word does not go on with it, and does not make it an address
pub record Apart (y : List ℕ) : Type 0 where
  pub word : is_word_byte (get_or y 0 0) ≡ false
  pub sign : eqb (get_or y 0 0) 64 ≡ false

pub stops : (y : List ℕ) → T (blank (get_or y 0 0) || ending (get_or y 0 0)) → Apart y
unfolding ending starting blank
stops y t = record { word = by_test (is_word_byte b) (λ w. absurd (other w)) (λ n. no_false (is_word_byte b) n); sign = ne_eqb b 64 (λ e. rw e at t) }
  where
    b : ℕ
    b = get_or y 0 0

    other : T (is_word_byte b) → ⊥
    other w =
        let s = starts b (rw (yes_true (is_word_byte b) w) tt) in
        rw (s.no_blank, s.no_end, s.no_comma, s.no_colon, s.no_semicolon, s.no_bracket, s.no_paren) at t

pub stops_blanks : {gap : List ℕ} → SomeBlanks gap → (y : List ℕ) → Apart (gap ++ y)
stops_blanks {gap} g y = go gap g.some g.blanks
  where
    go : (gap : List ℕ) → T (nonempty gap) → Blanks gap → Apart (gap ++ y)
    go [] s t = absurd s
    go (b ∷ gap) s t = stops (b ∷ (gap ++ y)) (rw (yes_true (blank b) (and_yes (blank b) (all blank gap) t).0) tt)

pub apart_closed : {y : List ℕ} → Apart y → Closed y
unfolding is_word_byte
apart_closed {y} a =
    let first = get_or y 0 0 in
    let no = or_no (is_atom_byte first) (eqb first 46) (rw a.word tt) in
    record { atom = no_false (is_atom_byte first) no.0; dot = no_false (eqb first 46) no.1 }

run_none : (f : ℕ → Bool) (y : List ℕ) → f (get_or y 0 0) ≡ false → run f y ≡ 0
unfolding run
run_none f [] e = refl
run_none f (b ∷ y) e = rw e

-- a run ends where the next byte does not pass
pub run_whole : (f : ℕ → Bool) (x y : List ℕ) → T (all f x) → f (get_or y 0 0) ≡ false → run f (x ++ y) ≡ length x
run_whole f x y h e = run_past f x y h ∙ rw (run_none f y e, add-zero)

pub some_length : (x : List ℕ) → T (nonempty x) → 0 < length x
some_length [] s = absurd s
some_length (b ∷ x) s = omega arith

-- ---- words

run_starts : (w y : List ℕ) → T (nonempty w) → T (all is_word_byte w) → T (starting (get_or (w ++ y) 0 0))
unfolding starting
run_starts [] y s t = absurd s
run_starts (b ∷ w) y s t = rw (yes_true (is_word_byte b) (and_yes (is_word_byte b) (all is_word_byte w) t).0) tt

quote_starts : T (starting 34)
unfolding starting is_word_byte is_atom_byte is_atext
quote_starts = tt

pub word_starts : {w : List ℕ} → WordText w → (y : List ℕ) → T (starting (get_or (w ++ y) 0 0))
word_starts {w} h y = go h.form
  where
    go : {w : List ℕ} → WordForm w → T (starting (get_or (w ++ y) 0 0))
    go (WordForm.string (QuotedString.quoted q)) = quote_starts
    go (WordForm.run {w} s t) = run_starts w y s t

pub word_some : {w : List ℕ} → WordText w → 0 < length w
word_some {w} h = go h.form
  where
    go : {w : List ℕ} → WordForm w → 0 < length w
    go (WordForm.string (QuotedString.quoted q)) = omega arith
    go (WordForm.run {w} s t) = some_length w s

-- a run of word bytes starts with no quote
no_quote : (w y : List ℕ) → T (nonempty w) → T (all is_word_byte w) → eqb (get_or (w ++ y) 0 0) 34 ≡ false
unfolding is_word_byte is_atom_byte is_atext
no_quote [] y s t = absurd s
no_quote (b ∷ w) y s t = ne_eqb b 34 (λ e. rw e at (and_yes (is_word_byte b) (all is_word_byte w) t).0)

pub word_found : {w : List ℕ} → WordText w → (y : List ℕ) → Apart y → word_len (w ++ y) ≡ length w
unfolding word_len
word_found {w} h y a = go h.form h.size
  where
    go : {w : List ℕ} → WordForm w → length w ≤ 900 → word_len (w ++ y) ≡ length w
    go (WordForm.string (QuotedString.quoted {text} q)) n = rw (quoted_string_complete (QuotedString.quoted q) y) (sym (capped_in _ n))
    go (WordForm.run {w} s t) n = rw (no_quote w y s t, run_whole is_word_byte w y t a.word) (sym (capped_in _ n))

-- a word and what follows it are no address
data Ends (n : ℕ) (r : Result ℕ ℕ) : Type 0 where
  to : r ≡ Ok n → Ends n r
  stop : (m : ℕ) → r ≡ Err m → Ends n r

later_ends : (n : ℕ) (r : Result ℕ ℕ) → Ends n r → Ends (suc n) (later 1 r)
unfolding later
later_ends n r (Ends.to e) = Ends.to (rw e (let k : 1 + n ≡ suc n = omega arith in rw k))
later_ends n r (Ends.stop m e) = Ends.stop (1 + m) (rw e)

atoms_end : (due : Bool) (w y : List ℕ) → T (all is_word_byte w) → is_word_byte (get_or y 0 0) ≡ false → Ends (length w) (dot_atom_from due (w ++ y))
unfolding dot_atom_from is_word_byte
atoms_end true [] [] h e = Ends.stop 0 refl
atoms_end false [] [] h e = Ends.to refl
atoms_end due [] (b ∷ y) h e =
    let no = or_no (is_atom_byte b) (eqb b 46) (rw e tt) in
    rw (no_false (is_atom_byte b) no.0, no_false (eqb b 46) no.1) (go due)
  where
    go : (due : Bool) → Ends 0 (dot_atom_end due)
    go true = Ends.stop 0 refl
    go false = Ends.to refl
atoms_end true (b ∷ w) y h e =
    let both = and_yes (is_atom_byte b || eqb b 46) (all is_word_byte w) h in
    rw (and-false (eqb b 46))
    (cond_has (Ends (suc (length w))) (is_atom_byte b || false) (later 1 (dot_atom_from false (w ++ y))) (Err 0)
    (λ t. later_ends (length w) _ (atoms_end false w y both.1 e))
    (λ t. Ends.stop 0 refl))
atoms_end false (b ∷ w) y h e =
    let both = and_yes (is_atom_byte b || eqb b 46) (all is_word_byte w) h in
    let dot = eqb b 46 && true in
    rw (yes_true (is_atom_byte b || dot) (go (is_atom_byte b) (eqb b 46) both.0)) (later_ends (length w) _ (atoms_end dot w y both.1 e))
  where
    go : (a d : Bool) → T (a || d) → T (a || (d && true))
    go true d t = tt
    go false true t = tt
    go false false t = t

local_ends : {w : List ℕ} → WordForm w → (y : List ℕ) → Apart y → Ends (length w) (local_scan (w ++ y))
unfolding local_scan dot_atom_scan
local_ends (WordForm.string (QuotedString.quoted {text} q)) y a = Ends.to (quoted_string_complete (QuotedString.quoted q) y)
local_ends (WordForm.run {w} s t) y a = rw (no_quote w y s t) (atoms_end true w y t a.word)

no_sign : (w y : List ℕ) → Apart y → (r : Result ℕ ℕ) → Ends (length w) r → found (scan_then r (byte_then 64 domain_scan) (w ++ y)) ≡ 0
unfolding scan_then byte_then later
no_sign w y a r (Ends.to e) = rw (e, drop-append_seam w y, a.sign)
no_sign w y a r (Ends.stop m e) = rw e

pub word_no_address : {w : List ℕ} → WordText w → (y : List ℕ) → Apart y → address_len (w ++ y) ≡ 0
unfolding address_len address_scan capped
word_no_address {w} h y a = rw (no_sign w y a (local_scan (w ++ y)) (local_ends h.form y a))

-- ---- phrases

-- what follows a phrase or a bare address: blanks, perhaps none, and then the end or `, : ; < (`
pub record Ended (rest : List ℕ) : Type 0 where
  pub gap : List ℕ
  pub tail : List ℕ
  pub made : rest ≡ gap ++ tail
  pub blanks : Blanks gap
  pub ends : T (ending (get_or tail 0 0))

pub ended_apart : {rest : List ℕ} → Ended rest → Apart rest
ended_apart {rest} r = rw r.made (go r.gap r.blanks)
  where
    or_right : (a b : Bool) → T b → T (a || b)
    or_right true b t = tt
    or_right false b t = t

    go : (gap : List ℕ) → Blanks gap → Apart (gap ++ r.tail)
    go [] h = stops r.tail (or_right (blank (get_or r.tail 0 0)) (ending (get_or r.tail 0 0)) r.ends)
    go (b ∷ gap) h = stops_blanks {gap = b ∷ gap} (record { some = tt; blanks = h }) r.tail

-- there is no blank and no word
no_word : (y : List ℕ) → T (ending (get_or y 0 0)) → (blank (get_or y 0 0) ≡ false) × (word_len y ≡ 0)
unfolding word_len capped blank ending
no_word y t =
    let b = get_or y 0 0 in
    let apart = ended_apart (record { gap = []; tail = y; made = refl; blanks = tt; ends = t }) in
    (rw (ne_eqb b 32 (λ e. rw e at t), ne_eqb b 9 (λ e. rw e at t)), rw (ne_eqb b 34 (λ e. rw e at t), run_none is_word_byte y apart.word))

no_next : {rest : List ℕ} → Ended rest → next_word_len rest ≡ 0
unfolding next_word_len
no_next {rest} r =
    let none = no_word r.tail r.ends in
    rw (r.made, run_whole blank r.gap r.tail r.blanks none.0, drop-append_seam r.gap r.tail, none.1, and-false)

no_more : {rest : List ℕ} → Ended rest → next_words_len 0 rest ≡ 0
no_more {rest} r = omega (arith, words_stop rest 0 0 (sym (no_next r)) refl)

next_found : {w gap : List ℕ} → WordText w → SomeBlanks gap → (y : List ℕ) → Apart y → next_word_len (gap ++ (w ++ y)) ≡ length gap + length w
unfolding next_word_len
next_found {w} {gap} h g y a =
    rw (
      run_whole blank gap (w ++ y) g.blanks (starts (get_or (w ++ y) 0 0) (word_starts h y)).no_blank,
      drop-append_seam gap (w ++ y),
      word_found h y a,
      lt-ltb 0 (length w) (word_some h),
      lt-ltb 0 (length gap) (some_length gap g.some),
    )

-- blanks, a word, and what follows it
words_next : {w gap : List ℕ} → WordText w → SomeBlanks gap → (y : List ℕ) → Apart y
    → next_words_len 0 (gap ++ (w ++ y)) ≡ length gap + length w + next_words_len 0 y
words_next {w} {gap} h g y a =
    let s = gap ++ (w ++ y) in
    let n = length gap + length w in
    let whole : (gap ++ w) ++ y ≡ s = append_assoc gap w y in
    let past : drop n s ≡ y = rw (← whole) (drop_at (gap ++ w) y n (length-append gap w)) in
    let fact = words_front n s (sym (next_found h g y a)) (omega (arith, word_some h)) (omega (arith, length-append gap (w ++ y), length-append w y)) in
    rw past at fact

words_found : {p before : List ℕ} → PhraseText p → SomeBlanks before → (rest : List ℕ) → Ended rest → next_words_len 0 (before ++ (p ++ rest)) ≡ length before + length p
words_found (PhraseText.one h) b rest r = words_next h b rest (ended_apart r) ∙ rw (no_more r, add-zero)
words_found (PhraseText.then {w} {gap} {more} h g m) b rest r =
    rw (append_assoc w (gap ++ more) rest, append_assoc gap more rest)
    (omega (arith, words_next h b (gap ++ (more ++ rest)) (stops_blanks g (more ++ rest)), words_found m g rest r, length-append w (gap ++ more), length-append gap more))

-- a word, and the rest of a phrase
phrase_front : {w : List ℕ} → WordText w → (y : List ℕ) → Apart y → phrase_len (w ++ y) ≡ length w + next_words_len 0 y
unfolding phrase_len
phrase_front {w} h y a = rw (word_found h y a, lt-ltb 0 (length w) (word_some h), drop-append_seam w y)

-- a phrase starts with a word that stands apart
record FirstWord (s : List ℕ) : Type 0 where
  w : List ℕ
  y : List ℕ
  made : s ≡ w ++ y
  is : WordText w
  apart : Apart y

first_word : {p : List ℕ} → PhraseText p → (rest : List ℕ) → Ended rest → FirstWord (p ++ rest)
first_word (PhraseText.one {w} h) rest r = record { w = w; y = rest; made = refl; is = h; apart = ended_apart r }
first_word (PhraseText.then {w} {gap} {more} h g m) rest r =
    record { w = w; y = gap ++ (more ++ rest); made = rw (append_assoc w (gap ++ more) rest, append_assoc gap more rest); is = h; apart = stops_blanks g (more ++ rest) }

module _ {p : List ℕ} (h : PhraseText p) (rest : List ℕ) (r : Ended rest) where
  pub phrase_starts : T (starting (get_or (p ++ rest) 0 0))
  phrase_starts = let f = first_word h rest r in rw f.made (word_starts f.is f.y)

  pub phrase_no_address : address_len (p ++ rest) ≡ 0
  phrase_no_address = let f = first_word h rest r in rw f.made (word_no_address f.is f.y f.apart)

  pub phrase_found : phrase_len (p ++ rest) ≡ length p
  phrase_found = go h
    where
      go : {p : List ℕ} → PhraseText p → phrase_len (p ++ rest) ≡ length p
      go (PhraseText.one h) = phrase_front h rest (ended_apart r) ∙ rw (no_more r, add-zero)
      go (PhraseText.then {w} {gap} {more} h g m) =
          rw (append_assoc w (gap ++ more) rest, append_assoc gap more rest)
          (omega (arith, phrase_front h (gap ++ (more ++ rest)) (stops_blanks g (more ++ rest)), words_found m g rest r, length-append w (gap ++ more), length-append gap more))

pub phrase_some : {p : List ℕ} → PhraseText p → 0 < length p
phrase_some (PhraseText.one h) = word_some h
phrase_some (PhraseText.then {w} {gap} {more} h g m) = omega (arith, word_some h, length-append w (gap ++ more))

-- ---- addresses

atom_starts : {a : List ℕ} → Atom a → (y : List ℕ) → T (starting (get_or (a ++ y) 0 0))
unfolding starting is_word_byte
atom_starts {a} h y = go a h.some h.bytes
  where
    go : (a : List ℕ) → T (nonempty a) → T (all is_atom_byte a) → T (starting (get_or (a ++ y) 0 0))
    go [] s t = absurd s
    go (b ∷ a) s t = rw (yes_true (is_atom_byte b) (and_yes (is_atom_byte b) (all is_atom_byte a) t).0) tt

local_starts : {l : List ℕ} → LocalPart l → (y : List ℕ) → T (starting (get_or (l ++ y) 0 0))
local_starts (LocalPart.atoms (DotAtom.one h)) y = atom_starts h y
local_starts (LocalPart.atoms (DotAtom.then {a} {more} h d)) y = rw (append_assoc a (46 ∷ more) y) (atom_starts h ((46 ∷ more) ++ y))
local_starts (LocalPart.string (QuotedString.quoted q)) y = quote_starts

pub address_starts : {a : List ℕ} → AddressText a → (y : List ℕ) → T (starting (get_or (a ++ y) 0 0))
address_starts {a} h y = go h.form
  where
    go : {a : List ℕ} → AddressForm a → T (starting (get_or (a ++ y) 0 0))
    go (AddressForm.address {local} {domain} l d) = rw (append_assoc local (64 ∷ domain) y) (local_starts l ((64 ∷ domain) ++ y))

pub address_some : {a : List ℕ} → AddressText a → 0 < length a
address_some {a} h = go h.form
  where
    go : {a : List ℕ} → AddressForm a → 0 < length a
    go (AddressForm.address {local} {domain} l d) = omega (arith, length-append local (64 ∷ domain))

pub address_found : {a : List ℕ} → AddressText a → (rest : List ℕ) → Closed rest → address_len (a ++ rest) ≡ length a
unfolding address_len
address_found {a} h rest c = rw (address_complete h.form rest c) (sym (capped_in (length a) h.size))
