-- The lines of a field by the grammar are those that code takes.
use Rattle.std.specs.Prelude.{◌≡◌, Bool, true, false, ◌&&◌, ◌||◌, List, [], ◌∷◌, ◌++◌, ℕ, zero, suc, ◌+◌, ◌≤◌, ◌<◌, T, take, drop, get_or}
use Rattle.std.proofs.Math.Path.{refl}
use Rattle.std.proofs.Common.{ap, sym, ◌∙◌, append_assoc, arith, length-append, length-drop, take-append-drop, drop-drop, get_or-take, length-take-le}
use Rattle.std.proofs.Math.Nat.{add-zero}
use Rattle.std.proofs.Math.ListN.{length}
use Rattle.std.proofs.Math.Seq.{take_at, drop_at}
use Rattle.std.proofs.Math.Facts.{and_yes, yes_and}
use Rattle.lists.specs.Lists.{all}
use Rattle.lists.specs.ListsLaws.{all_weaken}
use Rattle.lists.specs.Byte.{within}
use Rattle.lists.specs.ByteLaws.{within_low}
use Rattle.lists.specs.Run.{run}
use Rattle.lists.specs.RunLaws.{run_past}
use Rattle.utf8.specs.Utf8.{utf8}
use Rattle.line.specs.Line.{blank, crlf, line_len, not_cr, cr_run}
use Rattle.line.specs.LineLaws.{line_cr, line_none, line_le}
use Rattle.header_line.specs.Lines.{line_byte, named_to, continuation, line_ok_to, lines_of}
use Rattle.header.specs.FieldShapeLaws.{line_not_cr, crlf_front}
use Rattle.downgraded_field.specs.Shown.{continues, is_formed, lines_formed}
use Rattle.downgraded_field.specs.FormedLaws.{lines_nil, lines_front, continues_front, formed_front}
use Rattle.reader_grammar.specs.FieldGrammar.{formed, Continuations, FieldLines}

-- ---- a line before more

module _ (line rest : List ℕ) (t : T (all line_byte line)) where
  crlf_there : crlf (13 ∷ 10 ∷ rest) ≡ true
  unfolding crlf
  crlf_there = refl

  pub front_len : line_len (line ++ (13 ∷ 10 ∷ rest)) ≡ length line
  unfolding run
  front_len =
      let s = line ++ (13 ∷ 10 ∷ rest) in
      let n : cr_run s ≡ length line = run_past not_cr line (13 ∷ 10 ∷ rest) (all_weaken line_byte not_cr line_not_cr line t) ∙ add-zero (length line) in
      line_cr s ∙ rw (n, drop_at line (13 ∷ 10 ∷ rest) (length line) refl, line_none (13 ∷ 10 ∷ rest) crlf_there) (add-zero (length line))

  pub front_after : drop (line_len (line ++ (13 ∷ 10 ∷ rest)) + 2) (line ++ (13 ∷ 10 ∷ rest)) ≡ rest
  front_after =
      rw (front_len, ← append_assoc line (13 ∷ 10 ∷ []) rest) (drop_at (line ++ (13 ∷ 10 ∷ [])) rest (length line + 2) (length-append line (13 ∷ 10 ∷ [])))

  pub front_ok : (first : Bool) → T (formed first line) → T (line_ok_to 87 first (line ++ (13 ∷ 10 ∷ rest)))
  unfolding line_ok_to
  front_ok first f =
      rw (front_len, drop_at line (13 ∷ 10 ∷ rest) (length line) refl, take_at line (13 ∷ 10 ∷ rest) (length line) refl, crlf_there) f

line_bytes : (first : Bool) (line : List ℕ) → T (formed first line) → T (all line_byte line) × (1 ≤ length line)
line_bytes first line t =
    let size = within 1 998 (length line) in
    let start = continuation first line || named_to 87 line in
    let b = and_yes (size && all line_byte line && utf8 line) start t in
    let c = and_yes (size && all line_byte line) (utf8 line) b.0 in
    let d = and_yes size (all line_byte line) c.0 in
    (d.1, within_low 1 998 (length line) d.0)

some_front : (line rest : List ℕ) → 1 ≤ length line → get_or (line ++ rest) 0 0 ≡ get_or line 0 0
some_front [] rest k = absurd (omega arith)
some_front (b ∷ line) rest k = refl

-- ---- taken

continuations_taken : {more : List ℕ} → Continuations more → T (all continues (lines_of more))
continuations_taken Continuations.none = rw lines_nil tt
continuations_taken (Continuations.then line {more} f b c) =
    let x = line ++ (13 ∷ 10 ∷ more) in
    let p = line_bytes false line f in
    let some : 0 < length x = omega (arith, length-append line (13 ∷ 10 ∷ more)) in
    let first : T (continues (take (line_len x + 2) x)) =
    rw (continues_front x, some_front line (13 ∷ 10 ∷ more) p.1) (yes_and (line_ok_to 87 false x) (blank (get_or line 0 0)) (front_ok line more p.0 false f) b) in
    rw (lines_front x some) (yes_and (continues (take (line_len x + 2) x)) (all continues (lines_of (drop (line_len x + 2) x))) first (rw (front_after line more p.0) (continuations_taken c)))

pub lines_taken : {field : List ℕ} → FieldLines field → T (is_formed field)
lines_taken (FieldLines.lines line {more} f c) =
    let x = line ++ (13 ∷ 10 ∷ more) in
    let p = line_bytes true line f in
    let some : 0 < length x = omega (arith, length-append line (13 ∷ 10 ∷ more)) in
    rw (formed_front x some)
    (yes_and (line_ok_to 87 true x) (all continues (lines_of (drop (line_len x + 2) x))) (front_ok line more p.0 true f) (rw (front_after line more p.0) (continuations_taken c)))

-- ---- found

-- the line at the front, where it is well formed
line_found : (first : Bool) (x : List ℕ) → T (line_ok_to 87 first x) → T (formed first (take (line_len x) x)) × (x ≡ take (line_len x) x ++ (13 ∷ 10 ∷ drop (line_len x + 2) x))
unfolding line_ok_to
line_found first x t =
    let n = line_len x in
    let both = and_yes (crlf (drop n x)) (formed first (take n x)) t in
    let split : drop n x ≡ 13 ∷ 10 ∷ drop (n + 2) x = crlf_front (drop n x) both.0 ∙ rw drop-drop refl in
    (both.1, sym (take-append-drop n x) ∙ ap (λ (r : List ℕ). take n x ++ r) split)

front_size : (first : Bool) (x : List ℕ) → T (formed first (take (line_len x) x)) → 0 < line_len x
front_size first x f = omega (arith, (line_bytes first (take (line_len x) x) f).1, length-take-le (line_len x) x (line_le x))

continuations_found : (m : ℕ) (x : List ℕ) → length x ≤ m → T (all continues (lines_of x)) → Continuations x
continuations_found zero [] k t = Continuations.none
continuations_found zero (b ∷ s) k t = absurd (omega arith)
continuations_found (suc m) [] k t = Continuations.none
continuations_found (suc m) (b ∷ s) k t =
    let x : List ℕ = b ∷ s in
    let n = line_len x in
    let both = and_yes (continues (take (n + 2) x)) (all continues (lines_of (drop (n + 2) x))) (rw (lines_front x (omega arith)) at t) in
    let ok = and_yes (line_ok_to 87 false x) (blank b) (rw (continues_front x) at both.0) in
    let f = line_found false x ok.0 in
    let first : T (blank (get_or (take n x) 0 0)) = rw (get_or-take n x 0 0 (front_size false x f.0)) ok.1 in
    let rest = continuations_found m (drop (n + 2) x) (omega (arith, length-drop (n + 2) x)) both.1 in
    rw f.1 (Continuations.then (take n x) f.0 first rest)

pub lines_found : (field : List ℕ) → T (is_formed field) → FieldLines field
unfolding is_formed lines_formed
lines_found [] t = absurd (rw lines_nil at t)
lines_found (b ∷ s) t =
    let x : List ℕ = b ∷ s in
    let n = line_len x in
    let both = and_yes (line_ok_to 87 true x) (all continues (lines_of (drop (n + 2) x))) (rw (formed_front x (omega arith)) at t) in
    let f = line_found true x both.0 in
    rw f.1 (FieldLines.lines (take n x) f.0 (continuations_found (length x) (drop (n + 2) x) (omega (arith, length-drop (n + 2) x)) both.1))
