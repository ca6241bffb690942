-- A header without malformed lines is a row of fields; the text of such a field.
use Rattle.std.specs.Prelude.{◌≡◌, Bool, false, not, ◌&&◌, ◌||◌, ℕ, zero, suc, ◌+◌, ◌-◌, ◌≤◌, ◌<◌, leb, eqb, length, take, drop, get_or, Ok}
use Rattle.std.proofs.Math.Path.{refl}
use Rattle.std.proofs.Common.{ap, sym, ◌∙◌, add-zero, arith, eqb→eq, lt→ltb, length-append, length-drop, take-append-drop, drop-drop, length-take-le, take_at, drop_at}
use Rattle.std.proofs.Math.Bool.{true, and-false, and_assoc}
use mathlib.Core.List.{List, [], ◌∷◌, ◌++◌, append_assoc, append-nil}
use Rattle.std.proofs.Math.Dec.{T}
use Rattle.std.proofs.Math.ListN.{get_or-eq_default}
use Rattle.std.proofs.Math.Seq.{split_at}
use Rattle.std.proofs.Math.Facts.{and_yes, yes_and, leb_yes, leb_no}
use Rattle.lists.specs.ListsLaws.{by_test, yes_true, no_false, all_append, all_right, all_past, all_weaken}
use Rattle.lists.specs.Lists.{all, joined}
use Rattle.lists.specs.Byte.{is_ascii, within}
use Rattle.lists.specs.ByteLaws.{within_high}
use Rattle.lists.specs.Run.{run}
use Rattle.lists.specs.RunLaws.{run_all, run_past}
use Rattle.utf8.specs.Utf8.{utf8}
use Rattle.utf8.specs.Utf8Laws.{utf8_right, utf8_append, utf8_ascii, utf8_cut}
use Rattle.header_line.specs.Lines.{line_byte, name_byte, name_len, named, continuation, well_formed, line_ok, checked_lines, bad_line}
use Rattle.line.specs.Line.{blank, crlf, line_len, not_cr}
use Rattle.header_line.specs.LineLaws.{lines_at, front_good, front_bad}
use Rattle.line.specs.LineLaws.{crlf_inside}
use Rattle.header.specs.Fields.{fold, field_len, fields_of, name_of, value_of, unfolded_after, trimmed, text_of}
use Rattle.header.specs.FieldLaws.{ends, len_cons, len_past, fields_nil, fields_front}
use Rattle.header.specs.FieldShape.{piece, continued, folded, Shaped, Each, without_breaks}

-- ---- pieces

pub piece_bytes : (a : List ℕ) → T (piece a) → T (all line_byte a)
unfolding piece
piece_bytes a t = (and_yes (all line_byte a) (utf8 a) t).0

piece_utf8 : (a : List ℕ) → T (piece a) → T (utf8 a)
unfolding piece
piece_utf8 a t = (and_yes (all line_byte a) (utf8 a) t).1

to_piece : (a : List ℕ) → T (all line_byte a) → T (utf8 a) → T (piece a)
unfolding piece
to_piece a h u = yes_and (all line_byte a) (utf8 a) h u

continued_piece : (a : List ℕ) → T (continued a) → T (piece a)
unfolding continued
continued_piece a t = (and_yes (piece a) (blank (get_or a 0 0)) t).0

-- a continuation has a first byte, a blank
front_blank : (a b : List ℕ) → T (continued a) → blank (get_or (a ++ b) 0 0) ≡ true
unfolding continued blank
front_blank [] b t = absurd (and_yes (piece []) false t).1
front_blank (x ∷ a) b t = yes_true (blank x) (and_yes (piece (x ∷ a)) (blank x) t).1

not_break : (b : ℕ) → T (line_byte b) → eqb b 13 || eqb b 10 ≡ false
unfolding line_byte
not_break b t =
    by_test (eqb b 13) (λ u. absurd (rw (eqb→eq b 13 u) at t))
    (λ u. by_test (eqb b 10) (λ v. absurd (rw (eqb→eq b 10 v) at t)) (λ v. rw (no_false (eqb b 13) u, no_false (eqb b 10) v)))

pub line_not_cr : (b : ℕ) → T (line_byte b) → T (not_cr b)
unfolding line_byte
line_not_cr b t = by_test (eqb b 13) (λ u. absurd (rw (eqb→eq b 13 u) at t)) (λ u. u)

-- the front of a folded value is that of its first line
folded_front : (a : List ℕ) (more : List (List ℕ)) (b : List ℕ) → (tail : List ℕ) × (folded a more ++ b ≡ a ++ tail)
unfolding folded
folded_front a [] b = (b, refl)
folded_front a (next ∷ more) b = (13 ∷ 10 ∷ folded next more ++ b, append_assoc a (13 ∷ 10 ∷ folded next more) b)

folded_blank : (a : List ℕ) (more : List (List ℕ)) (b : List ℕ) → T (continued a) → blank (get_or (folded a more ++ b) 0 0) ≡ true
folded_blank a more b t = let f = folded_front a more b in rw f.1 (front_blank a f.0 t)

-- ---- where a field of a name line and continuations ends

fold_len : (rest : List ℕ) → blank (get_or rest 0 0) ≡ true → field_len (13 ∷ 10 ∷ rest) ≡ 2 + field_len rest
unfolding ends crlf fold
fold_len rest e = rw (len_cons 13 (10 ∷ rest), len_cons 10 rest, e) (omega arith)

end_len : (rest : List ℕ) → blank (get_or rest 0 0) ≡ false → field_len (13 ∷ 10 ∷ rest) ≡ 2
unfolding ends crlf fold
end_len rest e = rw (len_cons 13 (10 ∷ rest), e)

past : (a b : List ℕ) → T (piece a) → field_len (a ++ b) ≡ length a + field_len b
past a b t = len_past a b (all_weaken line_byte not_cr line_not_cr a (piece_bytes a t))

folded_len : (a : List ℕ) (more : List (List ℕ)) (others : List ℕ) → T (piece a) → T (all continued more) → blank (get_or others 0 0) ≡ false
    → field_len (folded a more ++ (13 ∷ 10 ∷ others)) ≡ length (folded a more) + 2
unfolding folded
folded_len a [] others t u e = rw (past a (13 ∷ 10 ∷ others) t, end_len others e)
folded_len a (next ∷ more) others t u e =
    let both = and_yes (continued next) (all continued more) u in
    let rest = folded next more ++ (13 ∷ 10 ∷ others) in
    let more_len : field_len rest ≡ length (folded next more) + 2 = folded_len next more others (continued_piece next both.0) both.1 e in
    let size : length (a ++ (13 ∷ 10 ∷ folded next more)) ≡ length a + (2 + length (folded next more)) = rw length-append (omega arith) in
    rw (append_assoc a (13 ∷ 10 ∷ folded next more) (13 ∷ 10 ∷ others), past a (13 ∷ 10 ∷ rest) t, fold_len rest (folded_blank next more (13 ∷ 10 ∷ others) both.0), more_len, size)
    (omega arith)

-- ---- a field of a name, a colon, a value and CRLF

colon : name_byte 58 ≡ false
unfolding name_byte
colon = refl

run_stops : (f : ℕ → Bool) (a : List ℕ) (x : ℕ) (b : List ℕ) → T (all f a) → f x ≡ false → run f (a ++ (x ∷ b)) ≡ length a
unfolding run
run_stops f a x b h e = run_past f a (x ∷ b) h ∙ rw (e, add-zero)

shaped_of : (name line : List ℕ) (more : List (List ℕ)) → T (all name_byte name) → T (within 1 76 (length name)) → T (piece line) → T (all continued more)
    → Shaped (name ++ (58 ∷ (folded line more ++ (13 ∷ 10 ∷ []))))
unfolding name_len name_of value_of
shaped_of name line more h size t u =
    let value = folded line more in
    let field = name ++ (58 ∷ (value ++ (13 ∷ 10 ∷ []))) in
    let n : run name_byte field ≡ length name = run_stops name_byte name 58 (value ++ (13 ∷ 10 ∷ [])) h colon in
    let name_is : take (run name_byte field) field ≡ name = rw n (take_at name (58 ∷ (value ++ (13 ∷ 10 ∷ []))) (length name) refl) in
    let before = name ++ (58 ∷ value) in
    let split : before ++ (13 ∷ 10 ∷ []) ≡ field = append_assoc name (58 ∷ value) (13 ∷ 10 ∷ []) in
    let len : length field - 2 ≡ length before = omega (arith, ap length split, length-append before (13 ∷ 10 ∷ [])) in
    let cut : take (length field - 2) field ≡ before = rw (len, ← split) (take_at before (13 ∷ 10 ∷ []) (length before) refl) in
    let one : (name ++ (58 ∷ [])) ++ value ≡ before = append_assoc name (58 ∷ []) value in
    let value_is : drop (run name_byte field + 1) (take (length field - 2) field) ≡ value =
    rw (cut, n, ← one) (drop_at (name ++ (58 ∷ [])) value (length name + 1) (length-append name (58 ∷ []))) in
    record {
      name = rw n size;
      parts = rw (name_is, value_is);
      line = line;
      more = more;
      value = value_is;
      line_is = t;
      more_are = u;
    }

-- ---- the row of fields

-- what starts with no continuation: fields
record Fresh (h : List ℕ) : Type 0 where
  pub start : blank (get_or h 0 0) ≡ false
  pub fields : Each Shaped (fields_of h)

-- what follows a line: continuations of its field first, or other fields
data Follow (h : List ℕ) : Type 0 where
  continues : (line : List ℕ) (more : List (List ℕ)) (others : List ℕ) → h ≡ folded line more ++ (13 ∷ 10 ∷ others) → T (continued line) → T (all continued more) → Fresh others → Follow h
  starts : Fresh h → Follow h

fresh_nil : Fresh []
unfolding blank
fresh_nil = record { start = refl; fields = rw fields_nil tt }

-- a name line: its name, and what follows the colon
record Named (line : List ℕ) : Type 0 where
  pub name : List ℕ
  pub rest : List ℕ
  pub is : line ≡ name ++ (58 ∷ rest)
  pub bytes : T (all name_byte name)
  pub size : T (within 1 76 (length name))
  pub rest_is : T (piece rest)

to_named : (line : List ℕ) → T (named line) → T (piece line) → Named line
unfolding named name_len
to_named line t p =
    let n = run name_byte line in
    let both = and_yes (within 1 76 n) (eqb (get_or line n 0) 58) t in
    let there : get_or line n 0 ≡ 58 = eqb→eq (get_or line n 0) 58 both.1 in
    let inside : n < length line =
    by_test (leb (length line) n) (λ u. absurd (omega (arith, sym (get_or-eq_default line 0 {n = n} (leb_yes u)) ∙ there))) (λ u. leb_no {a = length line} {b = n} u) in
    let name = take n line in
    let rest = drop (suc n) line in
    let is : line ≡ name ++ (58 ∷ rest) = split_at line n 0 inside ∙ ap (λ (x : ℕ). name ++ (x ∷ rest)) there in
    let len : length name ≡ n = length-take-le n line (omega arith) in
    let clean : T (all line_byte (name ++ (58 ∷ rest))) = rw is at (piece_bytes line p) in
    let text : T (utf8 (name ++ (58 ∷ rest))) = rw is at (piece_utf8 line p) in
    let after : T (utf8 (58 ∷ rest)) = (utf8_cut name 58 rest (omega arith) text).1 in
    record {
      name = name;
      rest = rest;
      is = is;
      bytes = run_all name_byte line;
      size = rw len both.0;
      rest_is = to_piece rest (all_right line_byte (name ++ (58 ∷ [])) rest (rw append_assoc clean)) (rw (utf8_right (58 ∷ []) rest (utf8_ascii (58 ∷ []) tt)) at after);
    }

name_not_blank : (x : ℕ) → T (name_byte x) → blank x ≡ false
unfolding blank name_byte
name_not_blank x t =
    by_test (eqb x 32) (λ u. absurd (rw (eqb→eq x 32 u) at t))
    (λ u. by_test (eqb x 9) (λ v. absurd (rw (eqb→eq x 9 v) at t)) (λ v. rw (no_false (eqb x 32) u, no_false (eqb x 9) v)))

name_front : (line b : List ℕ) → T (named line) → blank (get_or (line ++ b) 0 0) ≡ false
unfolding named name_len run
name_front [] b t = absurd t
name_front (x ∷ line) b t = by_test (name_byte x) (name_not_blank x) (λ u. absurd (rw (no_false (name_byte x) u) at t))

folded_join : (a b : List ℕ) (more : List (List ℕ)) → folded (a ++ b) more ≡ a ++ folded b more
unfolding folded
folded_join a b [] = refl
folded_join a b (next ∷ more) = append_assoc a b (13 ∷ 10 ∷ folded next more)

field_is : (name rest : List ℕ) (more : List (List ℕ)) → folded (name ++ (58 ∷ rest)) more ++ (13 ∷ 10 ∷ []) ≡ name ++ (58 ∷ (folded rest more ++ (13 ∷ 10 ∷ [])))
field_is name rest more =
    let one : folded (58 ∷ rest) more ≡ 58 ∷ folded rest more = folded_join (58 ∷ []) rest more in
    rw (folded_join name (58 ∷ rest) more, one) (append_assoc name (58 ∷ folded rest more) (13 ∷ 10 ∷ []))

-- a name line, its continuations, and other fields
named_fresh : (line : List ℕ) (more : List (List ℕ)) (others : List ℕ) → T (named line) → T (piece line) → T (all continued more) → Fresh others
    → Fresh (folded line more ++ (13 ∷ 10 ∷ others))
named_fresh line more others t p u f =
    let h = folded line more ++ (13 ∷ 10 ∷ others) in
    let front = folded_front line more (13 ∷ 10 ∷ others) in
    let field = folded line more ++ (13 ∷ 10 ∷ []) in
    let whole : field ++ others ≡ h = append_assoc (folded line more) (13 ∷ 10 ∷ []) others in
    let len : field_len h ≡ length (folded line more) + 2 = folded_len line more others p u f.start in
    let size : length field ≡ length (folded line more) + 2 = length-append (folded line more) (13 ∷ 10 ∷ []) in
    let some : 0 < length h = omega (arith, length-append (folded line more) (13 ∷ 10 ∷ others)) in
    let first : take (length (folded line more) + 2) h ≡ field = rw (← whole) (take_at field others (length (folded line more) + 2) size) in
    let after : drop (length (folded line more) + 2) h ≡ others = rw (← whole) (drop_at field others (length (folded line more) + 2) size) in
    let cut : fields_of h ≡ field ∷ fields_of others = fields_front h some ∙ rw (len, first, after) in
    let n = to_named line t p in
    let shape : folded line more ++ (13 ∷ 10 ∷ []) ≡ n.name ++ (58 ∷ (folded n.rest more ++ (13 ∷ 10 ∷ []))) =
    ap (λ (l : List ℕ). folded l more ++ (13 ∷ 10 ∷ [])) n.is ∙ field_is n.name n.rest more in
    record {
      start = rw front.1 (name_front line front.0 t);
      fields = rw cut (rw shape (shaped_of n.name n.rest more n.bytes n.size n.rest_is u), f.fields);
    }

joins : (line next : List ℕ) (more : List (List ℕ)) (h others : List ℕ) → h ≡ folded next more ++ (13 ∷ 10 ∷ others) → line ++ (13 ∷ 10 ∷ h) ≡ folded line (next ∷ more) ++ (13 ∷ 10 ∷ others)
unfolding folded
joins line next more h others e = rw e (sym (append_assoc line (13 ∷ 10 ∷ folded next more) (13 ∷ 10 ∷ others)))

alone : (line h : List ℕ) → line ++ (13 ∷ 10 ∷ h) ≡ folded line [] ++ (13 ∷ 10 ∷ h)
unfolding folded
alone line h = refl

named_follow : (line h : List ℕ) → T (named line) → T (piece line) → Follow h → Fresh (line ++ (13 ∷ 10 ∷ h))
named_follow line h t p (Follow.continues next more others e c m f) =
    rw (joins line next more h others e) (named_fresh line (next ∷ more) others t p (yes_and (continued next) (all continued more) c m) f)
named_follow line h t p (Follow.starts f) = rw (alone line h) (named_fresh line [] h t p tt f)

continued_follow : (line h : List ℕ) → T (continued line) → Follow h → Follow (line ++ (13 ∷ 10 ∷ h))
continued_follow line h t (Follow.continues next more others e c m f) =
    Follow.continues line (next ∷ more) others (joins line next more h others e) t (yes_and (continued next) (all continued more) c m) f
continued_follow line h t (Follow.starts f) = Follow.continues line [] h (alone line h) t tt f

-- ---- line after line

-- what a well-formed line is made of, and how it starts
well_parts : (first : Bool) (line : List ℕ) → T (well_formed first line) → T (piece line) × T (continuation first line || named line)
unfolding well_formed piece
well_parts first line t =
    let size = within 1 998 (length line) in
    let c = and_yes (size && all line_byte line && utf8 line) (continuation first line || named line) t in
    let b = and_yes (size && all line_byte line) (utf8 line) c.0 in
    (yes_and (all line_byte line) (utf8 line) (and_yes size (all line_byte line) b.0).1 b.1, c.1)

pub well_piece : (first : Bool) (line : List ℕ) → T (well_formed first line) → T (piece line)
well_piece first line t = (well_parts first line t).0

well_continued : (first : Bool) (line : List ℕ) → T (well_formed first line) → T (not (named line)) → T (continued line)
unfolding continued continuation
well_continued first line t n =
    let start : T (continuation first line || false) = rw (no_false (named line) n) at (well_parts first line t).1 in
    yes_and (piece line) (blank (get_or line 0 0)) (well_piece first line t) (left (blank (get_or line 0 0)) (not first) start)
  where
    left : (a b : Bool) → T (a && b || false) → T a
    left true b u = tt
    left false b u = absurd u

follow_line : (first : Bool) (line h : List ℕ) → T (well_formed first line) → Follow h → Follow (line ++ (13 ∷ 10 ∷ h))
follow_line first line h t f =
    by_test (named line) (λ n. Follow.starts (named_follow line h n (well_piece first line t) f)) (λ n. continued_follow line h (well_continued first line t n) f)

pub crlf_front : (h : List ℕ) → T (crlf h) → h ≡ 13 ∷ 10 ∷ drop 2 h
unfolding crlf
crlf_front [] t = absurd t
crlf_front (x ∷ []) t = absurd (and_yes (eqb x 13) false t).1
crlf_front (x ∷ y ∷ rest) t = let both = and_yes (eqb x 13) (eqb y 10) t in rw (eqb→eq x 13 both.0, eqb→eq y 10 both.1)

-- a well-formed line at the front, and what follows it
pub record Cut (n at : ℕ) (h : List ℕ) : Type 0 where
  pub line : List ℕ
  pub others : List ℕ
  pub next : ℕ
  pub is : h ≡ line ++ (13 ∷ 10 ∷ others)
  pub well : T (well_formed (eqb n 0) line)
  pub left : lines_at n at h ≡ lines_at (n + 1) next others
  pub after : next ≡ at + (length line + 2)
  pub shorter : length others < length h

pub cut_line : (n at : ℕ) (h : List ℕ) → 0 < length h → T (line_ok (eqb n 0) h) → Cut n at h
unfolding line_ok
cut_line n at h k t =
    let m = line_len h in
    let both = and_yes (crlf (drop m h)) (well_formed (eqb n 0) (take m h)) t in
    let fits = crlf_inside h m (yes_true (crlf (drop m h)) both.0) in
    let split : drop m h ≡ 13 ∷ 10 ∷ drop (m + 2) h = crlf_front (drop m h) both.0 ∙ rw drop-drop in
    record {
      line = take m h;
      others = drop (m + 2) h;
      next = at + (m + 2);
      is = sym (take-append-drop m h) ∙ ap (λ (r : List ℕ). take m h ++ r) split;
      well = both.1;
      left = front_good n at h k (yes_true (line_ok (eqb n 0) h) t);
      after = omega (arith, length-take-le m h (omega arith));
      shorter = rw length-drop (omega arith);
    }

different : {n at : ℕ} → bad_line n at ≡ Ok tt → ⊥
different e = let z : ◌≡◌ {A = ℕ} 0 1 = cc in omega arith

-- where the lines are well formed, the first one is
first_well : (n at : ℕ) (h : List ℕ) → 0 < length h → lines_at n at h ≡ Ok tt → T (line_ok (eqb n 0) h)
first_well n at h k e =
    by_test (line_ok (eqb n 0) h) (λ t. t) (λ t. absurd (different (sym (front_bad n at h k (no_false (line_ok (eqb n 0) h) t)) ∙ e)))

follow_none : (h : List ℕ) → length h ≤ 0 → Follow h
follow_none [] k = Follow.starts fresh_nil
follow_none (b ∷ rest) k = absurd (omega arith)

-- by the number of bytes
follow : (m n at : ℕ) (h : List ℕ) → length h ≤ m → lines_at n at h ≡ Ok tt → Follow h
follow zero n at h k e = follow_none h k
follow (suc m) n at h k e =
    by_test (leb 1 (length h))
    (λ t.
    let c = cut_line n at h (leb_yes t) (first_well n at h (leb_yes t) e) in
    let f = follow_line (eqb n 0) c.line c.others c.well (follow m (n + 1) c.next c.others (omega (arith, c.shorter)) (sym c.left ∙ e)) in
    rw c.is f)
    (λ t. follow_none h (omega (arith, leb_no {a = 1} {b = length h} t)))

first_named : (line : List ℕ) → T (well_formed true line) → T (named line)
unfolding continuation
first_named line t = rw and-false at (well_parts true line t).1

-- each field of a header without malformed lines is a name, a colon, a value and CRLF
pub fields_shaped : (h : List ℕ) → checked_lines h ≡ Ok tt → Each Shaped (fields_of h)
unfolding checked_lines
fields_shaped [] e = rw fields_nil tt
fields_shaped (b ∷ rest) e =
    let c = cut_line 0 0 (b ∷ rest) (omega arith) (first_well 0 0 (b ∷ rest) (omega arith) e) in
    let f : Fresh (c.line ++ (13 ∷ 10 ∷ c.others)) =
    named_follow c.line c.others (first_named c.line c.well) (well_piece true c.line c.well) (follow (length c.others) 1 c.next c.others (omega arith) (sym c.left ∙ e)) in
    rw c.is f.fields

-- ---- the text

unfold_past : (a b : List ℕ) → T (all line_byte a) → unfolded_after 0 (a ++ b) ≡ a ++ unfolded_after 0 b
unfolding unfolded_after fold crlf
unfold_past [] b t = refl
unfold_past (x ∷ a) b t =
    let both = and_yes (line_byte x) (all line_byte a) t in
    rw (no_false (eqb x 13) (line_not_cr x both.0), unfold_past a b both.1)

breaks_past : (a b : List ℕ) → T (all line_byte a) → without_breaks (a ++ b) ≡ a ++ without_breaks b
unfolding without_breaks
breaks_past [] b t = refl
breaks_past (x ∷ a) b t =
    let both = and_yes (line_byte x) (all line_byte a) t in
    rw (not_break x both.0, breaks_past a b both.1)

folded_first : (a : List ℕ) (more : List (List ℕ)) → T (continued a) → blank (get_or (folded a more) 0 0) ≡ true
folded_first a more t = rw append-nil at (folded_blank a more [] t)

unfold_fold : (rest : List ℕ) → blank (get_or rest 0 0) ≡ true → unfolded_after 0 (13 ∷ 10 ∷ rest) ≡ unfolded_after 0 rest
unfolding unfolded_after fold crlf
unfold_fold rest e = rw e

breaks_fold : (rest : List ℕ) → without_breaks (13 ∷ 10 ∷ rest) ≡ without_breaks rest
unfolding without_breaks
breaks_fold rest = refl

unfold_folded : (a : List ℕ) (more : List (List ℕ)) → T (piece a) → T (all continued more) → unfolded_after 0 (folded a more) ≡ joined (a ∷ more)
unfolding folded unfolded_after
unfold_folded a [] t u = rw append-nil (rw append-nil at (unfold_past a [] (piece_bytes a t)))
unfold_folded a (next ∷ more) t u =
    let both = and_yes (continued next) (all continued more) u in
    unfold_past a (13 ∷ 10 ∷ folded next more) (piece_bytes a t)
    ∙ rw (unfold_fold (folded next more) (folded_first next more both.0), unfold_folded next more (continued_piece next both.0) both.1)

breaks_folded : (a : List ℕ) (more : List (List ℕ)) → T (piece a) → T (all continued more) → without_breaks (folded a more) ≡ joined (a ∷ more)
unfolding folded without_breaks
breaks_folded a [] t u = rw append-nil (rw append-nil at (breaks_past a [] (piece_bytes a t)))
breaks_folded a (next ∷ more) t u =
    let both = and_yes (continued next) (all continued more) u in
    breaks_past a (13 ∷ 10 ∷ folded next more) (piece_bytes a t)
    ∙ rw (breaks_fold (folded next more), breaks_folded next more (continued_piece next both.0) both.1)

joined_utf8 : (a : List ℕ) (more : List (List ℕ)) → T (piece a) → T (all continued more) → T (utf8 (joined (a ∷ more)))
joined_utf8 a [] t u = rw append-nil (piece_utf8 a t)
joined_utf8 a (next ∷ more) t u =
    let both = and_yes (continued next) (all continued more) u in
    utf8_append a (joined (next ∷ more)) (piece_utf8 a t) (joined_utf8 next more (continued_piece next both.0) both.1)

folded_utf8 : (a : List ℕ) (more : List (List ℕ)) → T (piece a) → T (all continued more) → T (utf8 (folded a more))
unfolding folded
folded_utf8 a [] t u = piece_utf8 a t
folded_utf8 a (next ∷ more) t u =
    let both = and_yes (continued next) (all continued more) u in
    utf8_append a (13 ∷ 10 ∷ folded next more) (piece_utf8 a t)
    (utf8_append (13 ∷ 10 ∷ []) (folded next more) (utf8_ascii (13 ∷ 10 ∷ []) tt) (folded_utf8 next more (continued_piece next both.0) both.1))

all_both : (f : ℕ → Bool) (a b : List ℕ) → all f (a ++ b) ≡ all f a && all f b
all_both f [] b = refl
all_both f (x ∷ a) b = rw (all_both f a b) (sym (and_assoc (f x) (all f a) (all f b)))

joined_ascii : (a : List ℕ) (more : List (List ℕ)) → all is_ascii (joined (a ∷ more)) ≡ all is_ascii (folded a more)
unfolding folded
joined_ascii a [] = rw append-nil
joined_ascii a (next ∷ more) =
    rw (all_both is_ascii a (joined (next ∷ more)), all_both is_ascii a (13 ∷ 10 ∷ folded next more), joined_ascii next more)

blank_ascii : (b : ℕ) → T (blank b) → T (is_ascii b)
unfolding blank
blank_ascii b t =
    by_test (eqb b 32) (λ u. rw (eqb→eq b 32 u) tt)
    (λ u. by_test (eqb b 9) (λ v. rw (eqb→eq b 9 v) tt) (λ v. absurd (rw (no_false (eqb b 32) u, no_false (eqb b 9) v) at t)))

-- leading blanks are ASCII
blanks : (text : List ℕ) → T (all is_ascii (take (run blank text) text))
blanks text = all_weaken blank is_ascii blank_ascii (take (run blank text) text) (run_all blank text)

trimmed_utf8 : (text : List ℕ) → T (utf8 text) → T (utf8 (trimmed text))
unfolding trimmed
trimmed_utf8 text t =
    let n = run blank text in
    rw (← utf8_right (take n text) (drop n text) (utf8_ascii (take n text) (blanks text)), take-append-drop n text) t

trimmed_ascii : (text : List ℕ) → all is_ascii (trimmed text) ≡ all is_ascii text
unfolding trimmed
trimmed_ascii text =
    let n = run blank text in
    sym (rw (take-append-drop n text) at (all_past is_ascii (take n text) (drop n text) (blanks text)))

module _ {field : List ℕ} (s : Shaped field) where
  unfolded : unfolded_after 0 (value_of field) ≡ joined (s.line ∷ s.more)
  unfolded = rw s.value (unfold_folded s.line s.more s.line_is s.more_are)

  -- no line holds a lone CR or LF, so removing each CRLF before a continuation is removing every CR and LF
  pub unfolded_breaks : unfolded_after 0 (value_of field) ≡ without_breaks (value_of field)
  unfolded_breaks = unfolded ∙ sym (rw s.value (breaks_folded s.line s.more s.line_is s.more_are))

  -- the text of a field is UTF-8
  pub text_utf8 : T (utf8 (text_of field))
  unfolding text_of
  text_utf8 = trimmed_utf8 (unfolded_after 0 (value_of field)) (rw unfolded (joined_utf8 s.line s.more s.line_is s.more_are))

  -- and so is its value
  pub value_utf8 : T (utf8 (value_of field))
  value_utf8 = rw s.value (folded_utf8 s.line s.more s.line_is s.more_are)

  -- the text of a field is ASCII exactly where its value is
  pub text_ascii : all is_ascii (text_of field) ≡ all is_ascii (value_of field)
  unfolding text_of
  text_ascii = trimmed_ascii (unfolded_after 0 (value_of field)) ∙ rw (unfolded, s.value) (joined_ascii s.line s.more)

-- ---- ASCII

name_byte_ascii : (b : ℕ) → T (name_byte b) → T (is_ascii b)
unfolding name_byte
name_byte_ascii b t = lt→ltb b 128 (omega (arith, within_high 33 126 b (and_yes (within 33 126 b) _ t).0))

pub name_ascii : (field : List ℕ) → T (all is_ascii (name_of field))
unfolding name_of name_len
name_ascii field = all_weaken name_byte is_ascii name_byte_ascii (name_of field) (run_all name_byte field)

-- a field whose value is ASCII is ASCII
pub field_ascii : {field : List ℕ} → Shaped field → T (all is_ascii (value_of field)) → T (all is_ascii field)
field_ascii {field} s t =
    rw s.parts
    (all_append is_ascii (name_of field) (58 ∷ (value_of field ++ (13 ∷ 10 ∷ []))) (name_ascii field)
    (all_append is_ascii (58 ∷ value_of field) (13 ∷ 10 ∷ []) t tt))
