-- The fault of a line, and what is written for it, are those of the grammar.
use Rattle.std.specs.Prelude.{◌≡◌, refl, Bool, true, false, not, cond, ◌&&◌, List, [], ◌∷◌, ◌++◌, ℕ, suc, ◌+◌, ◌≤◌, ◌<◌, get_or, Result, Ok, Err, ⊤}
use Rattle.std.proofs.Math.Path.{ap}
use Rattle.std.proofs.Common.{sym, ◌∙◌, arith, eqb→eq, length-append, take-take, take_at, drop_at, get_or-drop, ne_eqb, eq-eqb}
use Rattle.std.proofs.Math.Bool.{and-false}
use Rattle.std.proofs.Math.Option.{Option, none, some}
use Rattle.std.proofs.Math.Numerals.{add-one}
use Rattle.std.proofs.Math.Dec.{T, eqb, leb}
use Rattle.std.proofs.Math.ListN.{length, take, drop, take-append-drop}
use Rattle.std.proofs.Math.Seq.{drop-cons, drop-drop, append_snoc, take-append_seam, drop-append_seam, take-append-add}
use Rattle.std.proofs.Math.Facts.{T_not, not_T, and_yes, yes_and, leb_yes, yes_leb}
use Rattle.lists.specs.ListsLaws.{by_test, cond_has, yes_true, no_false, some_nonempty}
use Rattle.lists.specs.Lists.{all}
use Rattle.lists.specs.Byte.{within, is_ascii}
use Rattle.utf8.specs.Utf8.{utf8}
use Rattle.letter_case.specs.LetterCase.{bytes, lower, same_any_case}
use Rattle.rules.specs.declared.Rules.{Rules}
use Rattle.rules.specs.Rules.{allows_alternative}
use Rattle.address.specs.Address.{is_atext, is_atom_byte, scan_then, dot_atom_from, dot_atom_scan, local_scan, address_scan}
use Rattle.address.specs.Grammar.{DotAtom, LocalPart}
use Rattle.address.specs.AddressLaws.{byte_within}
use Rattle.address.specs.GrammarLaws.{Closed, address_sound, address_complete, local_alone}
use Rattle.xtext.specs.Xtext.{decoded, is_alt_address}
use Rattle.xtext.specs.Grammar.{AltAddress}
use Rattle.xtext.proofs.GrammarLaws.{xtext_read, read_alt_address, alt_address_read}
use Rattle.parameter.specs.Parameter.{params, spaced, is_param, alts, alts_ok}
use Rattle.envelope_line.specs.declared.Fault.{Fault}
use Rattle.envelope_line.specs.declared.Fault.TheVariants.{Malformed, NoAlternative, BadAlternative, RetiredAlternative}
use Rattle.envelope_line.specs.EnvelopeLine.{verb, verb_len, has_verb, path_scan, scan_end, is_to, path_len, path, has_path, tail, well_formed, value_fault, alt_fault, line_fault, new_path, written_line, replacement}
use Rattle.envelope_line.proofs.FaultLaws.{Formed, formed_of, closed_of}
use Rattle.envelope_line.specs.LineGrammar.{Path, Tail, Line, others_of, value_byte, LineRefused, Written}
use Rattle.envelope_line.proofs.TailGrammarLaws.{same_each, alt_value, read_tail, tail_reads, tail_value, tail_others, value_le}

-- ---- texts that are the same in any case

same_length : (xs ys : List ℕ) → T (same_any_case xs ys) → length ys ≡ length xs
unfolding same_any_case
same_length [] [] t = refl
same_length [] (y ∷ ys) t = absurd t
same_length (x ∷ xs) [] t = absurd t
same_length (x ∷ xs) (y ∷ ys) t = ap suc (same_length xs ys (and_yes (eqb (lower x) (lower y)) (same_any_case xs ys) t).1)

-- a text, and one byte more
record SameSnoc (xs : List ℕ) (x : ℕ) (ys : List ℕ) : Type 0 where
  front : List ℕ
  last : ℕ
  is : ys ≡ front ++ (last ∷ [])
  same : T (same_any_case xs front)
  same_last : lower x ≡ lower last

same_snoc : (xs : List ℕ) (x : ℕ) (ys : List ℕ) → T (same_any_case (xs ++ (x ∷ [])) ys) → SameSnoc xs x ys
unfolding same_any_case
same_snoc [] x [] t = absurd t
same_snoc (a ∷ xs) x [] t = absurd t
same_snoc [] x (y ∷ []) t = record { front = []; last = y; is = refl; same = tt; same_last = eqb→eq (lower x) (lower y) (and_yes (eqb (lower x) (lower y)) true t).0 }
same_snoc [] x (y ∷ z ∷ ys) t = absurd (and_yes (eqb (lower x) (lower y)) false t).1
same_snoc (a ∷ xs) x (y ∷ ys) t =
    let b = and_yes (eqb (lower a) (lower y)) (same_any_case (xs ++ (x ∷ [])) ys) t in
    let s = same_snoc xs x ys b.1 in
    record {
      front = y ∷ s.front;
      last = s.last;
      is = ap (λ (l : List ℕ). y ∷ l) s.is;
      same = yes_and (eqb (lower a) (lower y)) (same_any_case xs s.front) b.0 s.same;
      same_last = s.same_last;
    }

same_more : (xs ys : List ℕ) (b : ℕ) → T (same_any_case xs ys) → T (same_any_case (xs ++ (b ∷ [])) (ys ++ (b ∷ [])))
unfolding same_any_case
same_more [] [] b t = rw (eq-eqb (lower b) (lower b) refl) tt
same_more [] (y ∷ ys) b t = absurd t
same_more (x ∷ xs) [] b t = absurd t
same_more (x ∷ xs) (y ∷ ys) b t =
    let p = and_yes (eqb (lower x) (lower y)) (same_any_case xs ys) t in
    yes_and (eqb (lower x) (lower y)) (same_any_case (xs ++ (b ∷ [])) (ys ++ (b ∷ []))) p.0 (same_more xs ys b p.1)

-- a byte below the small letters that is no capital one
pub lower_mark : (b y : ℕ) → b < 97 → b ≡ lower y → y ≡ b
unfolding lower
lower_mark b y k =
    cond_has (λ n. b ≡ n → y ≡ b) (within 65 90 y) (y + 32) y
    (λ t e. absurd (omega (arith, e, leb_yes {a = 65} {b = y} (and_yes (leb 65 y) (leb y 90) t).0)))
    (λ t e. sym e)

letter_atom : (y : ℕ) → T (within 97 122 (lower y)) → T (is_atom_byte y)
unfolding lower is_atom_byte is_atext
letter_atom y =
    cond_has (λ n. T (within 97 122 n) → T (is_atom_byte y)) (within 65 90 y) (y + 32) y
    (λ t h. rw (yes_true (within 65 90 y) t) tt)
    (λ t h. let b = and_yes (leb 97 y) (leb y 122) h in
    let wide : T (within 94 126 y) = yes_and (leb 94 y) (leb y 126) (yes_leb {a = 94} {b = y} (omega (arith, leb_yes {a = 97} {b = y} b.0))) (yes_leb {a = y} {b = 126} (omega (arith, leb_yes {a = y} {b = 122} b.1))) in
    rw (no_false (within 65 90 y) t, yes_true (within 94 126 y) wide) tt)

-- ---- path

no_to : {n m : ℕ} → Err n ≡ Ok m → ⊥
no_to e = let z : ◌≡◌ {A = ℕ} 0 1 = cc in omega arith

mark_closed : (rest : List ℕ) → Closed (62 ∷ rest)
unfolding is_atom_byte is_atext
mark_closed rest = record { atom = refl; dot = refl }

-- Postmaster and a `>`
postmaster_marked : (s : List ℕ) → T (same_any_case (bytes "Postmaster>") (take 11 s)) → SameSnoc (bytes "Postmaster") 62 (take 11 s)
unfolding bytes
postmaster_marked s t = same_snoc (bytes "Postmaster") 62 (take 11 s) t

module _ (s : List ℕ) (t : T (same_any_case (bytes "Postmaster>") (take 11 s))) where
  word : SameSnoc (bytes "Postmaster") 62 (take 11 s)
  word = postmaster_marked s t

  word_size : length word.front ≡ 10
  unfolding bytes
  word_size = same_length (bytes "Postmaster") word.front word.same

  word_taken : take 10 s ≡ word.front
  word_taken =
      sym (take-take 10 11 s (omega arith)) ∙ ap (take 10) word.is ∙ take_at word.front (word.last ∷ []) 10 word_size

  word_then : word.front ++ (62 ∷ drop 11 s) ≡ s
  unfolding lower
  word_then =
      let mark : word.last ≡ 62 = lower_mark 62 word.last (omega arith) word.same_last in
      let whole : take 11 s ++ drop 11 s ≡ s = take-append-drop 11 s in
      rw (word.is, mark, append_snoc word.front 62 (drop 11 s)) at whole

  word_local : LocalPart word.front
  unfolding bytes lower
  word_local = LocalPart.atoms (DotAtom.one (record {
    some = some_nonempty word.front (omega (arith, word_size));
    bytes = same_each (within 97 122) is_atom_byte letter_atom (bytes "Postmaster") word.front word.same tt;
  }))

  -- is no address
  word_stops : address_scan s ≡ Err (length word.front)
  word_stops = rw word_then at (local_alone word_local 62 (drop 11 s) (mark_closed (drop 11 s)) (λ e. omega (arith, e)))

-- a path that is read is one of the grammar
read_path : (mail : Bool) (s : List ℕ) (n : ℕ) → path_scan mail s ≡ Ok n → Path mail (take n s)
unfolding path_scan
read_path true s n e =
    cond_has (λ r. r ≡ Ok n → Path true (take n s)) (eqb (get_or s 0 0) 62) (Ok 0) (address_scan s)
    (λ t k. let z : n ≡ 0 = cc in rw z Path.empty)
    (λ t k. Path.address (address_sound s n k))
    e
read_path false s n e =
    cond_has (λ r. r ≡ Ok n → Path false (take n s)) (same_any_case (bytes "Postmaster>") (take 11 s)) (Ok 10) (address_scan s)
    (λ t k. let z : n ≡ 10 = cc in rw (z, word_taken s t) (Path.postmaster (word s t).same))
    (λ t k. Path.address (address_sound s n k))
    e

mark_stops : (rest : List ℕ) → address_scan (62 ∷ rest) ≡ Err 0
unfolding address_scan local_scan dot_atom_scan dot_atom_from is_atom_byte is_atext scan_then
mark_stops rest = refl

address_unmarked : (s : List ℕ) (n : ℕ) → address_scan s ≡ Ok n → eqb (get_or s 0 0) 62 ≡ false
address_unmarked [] n e = refl
address_unmarked (b ∷ s) n e = ne_eqb b 62 (λ k. no_to (sym (mark_stops s) ∙ rw k at e))

address_read : (mail : Bool) (s : List ℕ) (n : ℕ) → address_scan s ≡ Ok n → path_scan mail s ≡ Ok n
unfolding path_scan
address_read true s n e = rw (address_unmarked s n e) e
address_read false s n e =
    by_test (same_any_case (bytes "Postmaster>") (take 11 s))
    (λ t. absurd (no_to (sym (word_stops s t) ∙ e)))
    (λ t. rw (no_false (same_any_case (bytes "Postmaster>") (take 11 s)) t) e)

-- a path of the grammar is read
path_read : {mail : Bool} {p : List ℕ} → Path mail p → (rest : List ℕ) → path_scan mail (p ++ (62 ∷ rest)) ≡ Ok (length p)
unfolding path_scan bytes
path_read (Path.address {mail} {path = p} a) rest = address_read mail (p ++ (62 ∷ rest)) (length p) (address_complete a (62 ∷ rest) (mark_closed rest))
path_read Path.empty rest = refl
path_read (Path.postmaster {path = p} t) rest =
    let size : length p ≡ 10 = same_length (bytes "Postmaster") p t in
    let front : take 11 (p ++ (62 ∷ rest)) ≡ p ++ (62 ∷ []) = (let n : length p + 1 ≡ 11 = omega arith in rw n at (take-append-add p (62 ∷ rest) 1)) in
    rw (front, yes_true (same_any_case (bytes "Postmaster>") (p ++ (62 ∷ []))) (same_more (bytes "Postmaster") p 62 t), size)

-- ---- a line, read

to_end : (r : Result ℕ ℕ) → T (is_to r) → r ≡ Ok (scan_end r)
to_end (Ok n) t = refl
to_end (Err n) t = absurd t

module _ (mail : Bool) (line : List ℕ) where
  -- the value of ALT-ADDRESS, if any
  abbrev alternative_of : Option (List ℕ)
  alternative_of = alt_value (alts (params (tail mail line)))

  cut_line : Formed mail line → line ≡ take (verb_len mail) line ++ (path mail line ++ (62 ∷ tail mail line))
  unfolding path tail
  cut_line k =
      let v = verb_len mail in
      let n = path_len mail line in
      let there = byte_within line (v + n) 61 (closed_of mail line k) in
      let after : drop n (drop v line) ≡ 62 ∷ drop (v + n + 1) line = rw (drop-drop, add-one, drop-cons line (v + n) 0 there, closed_of mail line k) in
      rw (← after, take-append-drop, take-append-drop)

  read_line : T (well_formed mail line) → Line mail (path mail line) alternative_of line
  unfolding has_verb has_path path path_len
  read_line w =
      let k = formed_of mail line w in
      let s = drop (verb_len mail) line in
      let to = (and_yes (is_to (path_scan mail s)) (eqb (get_or line (verb_len mail + path_len mail line) 0) 62) k.has_path_lem).0 in
      record {
        front = take (verb_len mail) line;
        tail = tail mail line;
        is = cut_line k;
        short = k.short;
        is_utf8 = k.is_utf8;
        is_front = k.has_verb_lem;
        is_path = read_path mail s (scan_end (path_scan mail s)) (to_end (path_scan mail s) to);
        is_tail = read_tail (tail mail line) k.is_spaced_lem k.are_params_lem k.alts_ok_lem;
      }

-- ---- a line, made: how it is read

verb_length : (mail : Bool) → length (verb mail) ≡ verb_len mail
unfolding verb bytes
verb_length true = refl
verb_length false = refl

module _ (mail : Bool) (front : List ℕ) {p : List ℕ} (f : T (same_any_case (verb mail) front)) (q : Path mail p) (t : List ℕ) where
  abbrev made : List ℕ
  made = front ++ (p ++ (62 ∷ t))

  front_size : length front ≡ verb_len mail
  front_size = same_length (verb mail) front f ∙ verb_length mail

  made_front : take (verb_len mail) made ≡ front
  made_front = take_at front (p ++ (62 ∷ t)) (verb_len mail) front_size

  made_rest : drop (verb_len mail) made ≡ p ++ (62 ∷ t)
  made_rest = drop_at front (p ++ (62 ∷ t)) (verb_len mail) front_size

  made_scan : path_scan mail (drop (verb_len mail) made) ≡ Ok (length p)
  made_scan = rw made_rest (path_read q t)

  made_length : path_len mail made ≡ length p
  unfolding path_len
  made_length = rw made_scan

  made_path : path mail made ≡ p
  unfolding path
  made_path = rw (made_length, made_rest, take-append_seam p (62 ∷ t))

  made_from : drop (verb_len mail + path_len mail made) made ≡ 62 ∷ t
  made_from = rw (← drop-drop (path_len mail made) (verb_len mail) made, made_length, made_rest, drop-append_seam p (62 ∷ t))

  made_tail : tail mail made ≡ t
  unfolding tail
  made_tail = rw (← drop-drop 1 (verb_len mail + path_len mail made) made, made_from)

  made_mark : get_or made (verb_len mail + path_len mail made) 0 ≡ 62
  made_mark =
      let n = verb_len mail + path_len mail made in
      let z : n + 0 ≡ n = omega arith in
      rw z at (sym (get_or-drop n made 0 0)) ∙ rw made_from

  made_formed : {v : Option (List ℕ)} → Tail v t → length made ≤ 998 → T (utf8 made) → T (well_formed mail made)
  unfolding well_formed has_verb has_path
  made_formed tl l u =
      let r = tail_reads tl in
      let a = leb (length made) 998 in
      let b = utf8 made in
      let ps = params t in
      let front_same : T (same_any_case (verb mail) (take (verb_len mail) made)) = rw made_front f in
      let marked : T (eqb (get_or made (verb_len mail + path_len mail made) 0) 62) = rw made_mark tt in
      rw (made_scan, made_tail)
      (yes_and (a && b && has_verb mail made && (true && eqb (get_or made (verb_len mail + path_len mail made) 0) 62) && spaced t && all is_param ps) (alts_ok (alts ps))
      (yes_and (a && b && has_verb mail made && (true && eqb (get_or made (verb_len mail + path_len mail made) 0) 62) && spaced t) (all is_param ps)
      (yes_and (a && b && has_verb mail made && (true && eqb (get_or made (verb_len mail + path_len mail made) 0) 62)) (spaced t)
      (yes_and (a && b && has_verb mail made) (true && eqb (get_or made (verb_len mail + path_len mail made) 0) 62)
      (yes_and (a && b) (has_verb mail made)
      (yes_and a b (yes_leb {a = length made} {b = 998} l) u) front_same) marked) r.is_spaced_lem) r.each) r.alts_ok_lem)

-- the fault by the path and the value of ALT-ADDRESS
abbrev fault_by : Rules → Bool → Option (List ℕ) → Result ⊤ Fault
fault_by rules ascii none = cond ascii (Ok tt) (Err NoAlternative)
fault_by rules ascii (some v) = value_fault rules ascii v

alt_fault_by : (rules : Rules) (ascii : Bool) (found : List (List ℕ)) → alt_fault rules ascii found ≡ fault_by rules ascii (alt_value found)
unfolding alt_fault
alt_fault_by rules ascii [] = refl
alt_fault_by rules ascii (p ∷ found) = refl

pub record LineRead (mail : Bool) (p : List ℕ) (v : Option (List ℕ)) (line : List ℕ) : Type 0 where
  pub well : T (well_formed mail line)
  pub path_is : path mail line ≡ p
  pub value_is : alt_value (alts (params (tail mail line))) ≡ v

module _ {mail : Bool} {p : List ℕ} {v : Option (List ℕ)} {line : List ℕ} (l : Line mail p v line) where
  pub line_read : LineRead mail p v line
  line_read =
      rw l.is (record {
        well = made_formed mail l.front l.is_front l.is_path l.tail l.is_tail (rw l.is at l.short) (rw l.is at l.is_utf8);
        path_is = made_path mail l.front l.is_front l.is_path l.tail;
        value_is = rw (made_tail mail l.front l.is_front l.is_path l.tail) (tail_reads l.is_tail).alternative;
      })

  line_fault_lem : (rules : Rules) → line_fault rules mail line ≡ fault_by rules (all is_ascii p) v
  unfolding line_fault
  line_fault_lem rules =
      rw (yes_true (well_formed mail line) line_read.well, line_read.path_is)
      (alt_fault_by rules (all is_ascii p) (alts (params (tail mail line))) ∙ ap (fault_by rules (all is_ascii p)) line_read.value_is)

  pub line_verb : length l.front ≡ verb_len mail
  line_verb = front_size mail l.front l.is_front l.is_path l.tail

  line_front : take (verb_len mail) line ≡ l.front
  line_front = ap (take (verb_len mail)) l.is ∙ made_front mail l.front l.is_front l.is_path l.tail

  pub line_tail : tail mail line ≡ l.tail
  line_tail = ap (tail mail) l.is ∙ made_tail mail l.front l.is_front l.is_path l.tail

-- ---- well-formed lines

-- any well-formed line
abbrev pub WellFormed : Bool → List ℕ → Type 0
WellFormed mail line = (path : List ℕ) × (alternative : Option (List ℕ)) × Line mail path alternative line

-- a line is well-formed exactly if the grammar makes it
pub read_formed : (mail : Bool) (line : List ℕ) → T (well_formed mail line) → WellFormed mail line
read_formed mail line t = (path mail line, alternative_of mail line, read_line mail line t)

pub formed_read : {mail : Bool} {line : List ℕ} → WellFormed mail line → T (well_formed mail line)
formed_read w = (line_read w.2).well

-- ---- lines that are written

-- what is written for a line without fault
abbrev WrittenFor : Rules → Bool → List ℕ → Type 0
WrittenFor rules mail line = Written rules mail line (tail mail line) (written_line mail line) (replacement mail line)

copied_line : {rules : Rules} {mail : Bool} {p line : List ℕ} → Line mail p none line → T (all is_ascii p) → WrittenFor rules mail line
unfolding written_line replacement
copied_line {p = p} l h = rw ((line_read l).path_is, yes_true (all is_ascii p) h, line_tail l) (Written.copied l h)

module _ {mail : Bool} {p v line new : List ℕ} (l : Line mail p (some v) line) (h : T (not (all is_ascii p))) (a : AltAddress v new) where
  new_path_lem : new_path mail line ≡ new
  unfolding new_path
  new_path_lem = rw (line_tail l, tail_value l.is_tail) (xtext_read a.0).1

  replaced_line : written_line mail line ≡ l.front ++ (new ++ (62 ∷ others_of l.is_tail))
  unfolding written_line
  replaced_line = rw ((line_read l).path_is, no_false (all is_ascii p) h, line_front l, new_path_lem, line_tail l, tail_others l.is_tail)

  replaced_text : replacement mail line ≡ 60 ∷ (p ++ (32 ∷ 60 ∷ (new ++ (62 ∷ 62 ∷ []))))
  unfolding replacement
  replaced_text = rw ((line_read l).path_is, no_false (all is_ascii p) h, new_path_lem)

  replaced_for : {rules : Rules} → T (allows_alternative rules) → WrittenFor rules mail line
  replaced_for t = rw (line_tail l, replaced_line, replaced_text) (Written.replaced l t h a)

-- ---- every line is malformed, refused or written, as its fault says

-- what is said of a line by its fault
abbrev pub LineAnswer : Rules → Bool → List ℕ → Result ⊤ Fault → Type 0
LineAnswer rules mail line (Ok done) = WrittenFor rules mail line
LineAnswer rules mail line (Err Malformed) = WellFormed mail line → ⊥
LineAnswer rules mail line (Err NoAlternative) = (byte : ℕ) × LineRefused rules mail line 3 byte
LineAnswer rules mail line (Err BadAlternative) = (byte : ℕ) × LineRefused rules mail line 4 byte
LineAnswer rules mail line (Err RetiredAlternative) = (byte : ℕ) × LineRefused rules mail line 10 byte

-- a value in a line is no longer than the line may be
value_short : {mail : Bool} {p v line : List ℕ} → Line mail p (some v) line → length v ≤ 998
value_short {mail} {p} {v} {line} l =
    let size = simp length-append at (ap length l.is) in
    omega (arith, value_le l.is_tail, l.short, size)

-- with an ALT-ADDRESS that the rules allow
alt_answer_by : (rules : Rules) {mail : Bool} {p v line : List ℕ} (ascii : Bool) → ascii ≡ all is_ascii p → T (allows_alternative rules) → Line mail p (some v) line
    → LineAnswer rules mail line (cond (not ascii && is_alt_address v) (Ok tt) (Err BadAlternative))
alt_answer_by rules true e a l = (value_byte l, LineRefused.beside_ascii l a (rw (← e) tt))
alt_answer_by rules {mail} {p} {v} {line} false e a l =
    cond_has (λ f. LineAnswer rules mail line f) (is_alt_address v) (Ok tt) (Err BadAlternative)
    (λ t. replaced_for l (rw (← e) tt) (read_alt_address v t) a)
    (λ t. (value_byte l, LineRefused.no_address l a (λ new k. T_not (is_alt_address v) (alt_address_read (value_short l) k).0 t)))

answer_by : (rules : Rules) {mail : Bool} {p : List ℕ} {v : Option (List ℕ)} {line : List ℕ} (ascii : Bool) → ascii ≡ all is_ascii p → Line mail p v line
    → LineAnswer rules mail line (fault_by rules ascii v)
unfolding value_fault
answer_by rules {v = none} true e l = copied_line l (rw (← e) tt)
answer_by rules {v = none} false e l = (length l.front, LineRefused.no_alternative l (rw (← e) tt))
answer_by rules {mail} {p} {v = some w} {line} ascii e l =
    cond_has (λ f. LineAnswer rules mail line f) (allows_alternative rules) (cond (not ascii && is_alt_address w) (Ok tt) (Err BadAlternative)) (Err RetiredAlternative)
    (λ t. alt_answer_by rules ascii e t l)
    (λ t. (value_byte l, LineRefused.retired l t))

pub unformed : (rules : Rules) (mail : Bool) (line : List ℕ) → T (not (well_formed mail line)) → line_fault rules mail line ≡ Err Malformed
unfolding line_fault
unformed rules mail line t = rw (no_false (well_formed mail line) t)

pub line_answer : (rules : Rules) (mail : Bool) (line : List ℕ) → LineAnswer rules mail line (line_fault rules mail line)
line_answer rules mail line =
    by_test (well_formed mail line)
    (λ t. let l = read_line mail line t in rw (line_fault_lem l rules) (answer_by rules (all is_ascii (path mail line)) refl l))
    (λ t. rw (unformed rules mail line t) (λ w. T_not (well_formed mail line) (formed_read w) t))

pub line_written : (rules : Rules) (mail : Bool) (line : List ℕ) → line_fault rules mail line ≡ Ok tt → Written rules mail line (tail mail line) (written_line mail line) (replacement mail line)
line_written rules mail line f = rw f at (line_answer rules mail line)

-- ---- and as nothing else says

-- a line that is written has no fault, and nothing else is written for it
pub record WrittenSo (rules : Rules) (mail : Bool) (line t out text : List ℕ) : Type 0 where
  pub fine : line_fault rules mail line ≡ Ok tt
  pub tail_is : t ≡ tail mail line
  pub out_is : out ≡ written_line mail line
  pub text_is : text ≡ replacement mail line

pub written_exact : {rules : Rules} {mail : Bool} {line t out text : List ℕ} → Written rules mail line t out text → WrittenSo rules mail line t out text
unfolding written_line replacement value_fault
written_exact {rules} (Written.copied {path = p} l h) =
    let yes = yes_true (all is_ascii p) h in
    record { fine = line_fault_lem l rules ∙ rw yes; tail_is = sym (line_tail l); out_is = rw ((line_read l).path_is, yes); text_is = rw ((line_read l).path_is, yes) }
written_exact {rules} (Written.replaced {path = p} {v} l a h k) =
    record {
      fine = line_fault_lem l rules ∙ rw (yes_true (allows_alternative rules) a, no_false (all is_ascii p) h, yes_true (is_alt_address v) (alt_address_read (value_short l) k).0);
      tail_is = sym (line_tail l);
      out_is = sym (replaced_line l h k);
      text_is = sym (replaced_text l h k);
    }

-- the fault of a line that is refused
unfoldable pub refused_fault : {rules : Rules} {mail : Bool} {line : List ℕ} {number byte : ℕ} → LineRefused rules mail line number byte → Fault
refused_fault (LineRefused.no_alternative l h) = NoAlternative
refused_fault (LineRefused.beside_ascii l a h) = BadAlternative
refused_fault (LineRefused.no_address l a h) = BadAlternative
refused_fault (LineRefused.retired l n) = RetiredAlternative

pub refused_exact : {rules : Rules} {mail : Bool} {line : List ℕ} {number byte : ℕ} (r : LineRefused rules mail line number byte) → line_fault rules mail line ≡ Err (refused_fault r)
unfolding refused_fault value_fault
refused_exact {rules} (LineRefused.no_alternative {path = p} l h) = line_fault_lem l rules ∙ rw (no_false (all is_ascii p) h)
refused_exact {rules} (LineRefused.beside_ascii {path = p} l a h) = line_fault_lem l rules ∙ rw (yes_true (allows_alternative rules) a, yes_true (all is_ascii p) h)
refused_exact {rules} (LineRefused.no_address {path = p} {v} l a h) =
    let no = no_false (is_alt_address v) (not_T (is_alt_address v) (λ t. h (decoded v) (read_alt_address v t))) in
    line_fault_lem l rules ∙ rw (yes_true (allows_alternative rules) a, no, and-false (not (all is_ascii p)))
refused_exact {rules} (LineRefused.retired l n) = line_fault_lem l rules ∙ rw (no_false (allows_alternative rules) n)

-- where an ALT-ADDRESS is refused every line is written as it came
pub written_kept : {rules : Rules} {mail : Bool} {line t out text : List ℕ} → T (not (allows_alternative rules)) → Written rules mail line t out text → (out ≡ line) × (text ≡ [])
written_kept n (Written.copied l h) = (refl, refl)
written_kept {rules} n (Written.replaced l a h k) = absurd (T_not (allows_alternative rules) a n)
