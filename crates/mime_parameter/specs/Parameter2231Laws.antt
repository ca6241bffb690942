-- The promise of a converted parameter holds of our pieces, for every name that leaves room.
use Rattle.std.specs.Prelude.{◌≡◌, not, ℕ, suc, ◌≤◌, ◌<◌}
use Rattle.std.proofs.Math.Path.{refl, sym, ap}
use Rattle.std.proofs.Common.{◌∙◌, arith, T_not, length-append}
use Rattle.std.proofs.Math.Bool.{true}
use mathlib.Core.List.Memᴰ
use mathlib.Core.List.{List, [], ◌∷◌, ◌++◌, append-nil, map, Memᴰ}
use Rattle.std.proofs.Math.Dec.{T}
use Rattle.std.proofs.Math.ListN.{length}
use Rattle.std.proofs.lemmas.List.{length-map}
use Rattle.std.proofs.Math.Facts.{and_yes, yes_and}
use Rattle.lists.specs.Lists.{all, joined, nonempty}
use Rattle.lists.specs.ListsLaws.{by_test, all_append, all_joined, all_mem, joined_append, some_nonempty}
use Rattle.utf8.specs.Utf8.{is_char, chars, utf8}
use Rattle.utf8.specs.Utf8Laws.{chars_joined, chars_of, utf8_of, utf8_bytes, char_some}
use Rattle.cut.proofs.CutLaws as cuts
use Rattle.mime_parameter.specs.Extended.{extended}
use Rattle.mime_parameter.specs.ExtendedLaws.{extended_reads}
use Rattle.mime_parameter.specs.Pieces.{alone_label, part_label, line_fits, alone_piece, part_piece, fits, runs_from, numbered, parts, pieces, has_room}
use Rattle.mime_parameter.specs.PiecesLaws.{line_fits_lem, fits_line_lem, fits_part, runs_joined, runs_some, length_numbered, pieces_alone, pieces_parts}
use Rattle.mime_parameter.specs.Parameter2231.{Part, NumberedFrom, Parameter, Proper, PiecesOf, ParameterDemand}

abbrev bytes_in : List Part → List (List ℕ)
bytes_in ps = map (λ (p : Part). p.bytes) ps

abbrev AllProper : List Part → Type 0
AllProper ps = (p : Part) → Memᴰ p ps → Proper p

first_proper : {p : Part} {ps : List Part} → AllProper (p ∷ ps) → Proper p
first_proper {p} h = h p (Memᴰ.head refl)

rest_proper : {p : Part} {ps : List Part} → AllProper (p ∷ ps) → AllProper ps
rest_proper h = λ v m. h v (Memᴰ.tail m)

-- ---- our parts

-- some characters in our spelling
abbrev part_of : List ℕ → Part
part_of bytes = record { standing = extended bytes; bytes = bytes }

abbrev parts_of : List (List (List ℕ)) → List Part
parts_of runs = map (λ (run : List (List ℕ)). part_of (joined run)) runs

run_utf8 : (run : List (List ℕ)) → T (all is_char run) → T (utf8 (joined run))
run_utf8 run h = utf8_of run h

runs_reads : (name : List ℕ) (k : ℕ) (runs : List (List (List ℕ))) → T (all (all is_char) runs) → NumberedFrom name k (numbered name k runs) (parts_of runs)
unfolding numbered part_piece
runs_reads name k [] h = NumberedFrom.end
runs_reads name k (run ∷ runs) h =
    let both = and_yes (all is_char run) (all (all is_char) runs) h in
    NumberedFrom.part {p = part_of (joined run)} refl (extended_reads (joined run) (utf8_bytes (joined run) (run_utf8 run both.0))) (runs_reads name (suc k) runs both.1)

runs_bytes : (runs : List (List (List ℕ))) → joined (bytes_in (parts_of runs)) ≡ joined (joined runs)
runs_bytes [] = refl
runs_bytes (run ∷ runs) = rw (runs_bytes runs) (sym (joined_append run (joined runs)))

runs_proper : (runs : List (List (List ℕ))) → T (all (all is_char) runs) → AllProper (parts_of runs)
runs_proper [] h p m = absurd (Memᴰ.not-nil m)
runs_proper (run ∷ runs) h p (Memᴰ.head e) =
    rw e (record { spelt = refl; whole = run_utf8 run (and_yes (all is_char run) (all (all is_char) runs) h).0 })
runs_proper (run ∷ runs) h p (Memᴰ.tail m) = runs_proper runs (and_yes (all is_char run) (all (all is_char) runs) h).1 p m

joined_some : (run : List (List ℕ)) → T (nonempty run) → T (all is_char run) → T (nonempty (joined run))
joined_some [] n h = absurd n
joined_some (c ∷ run) n h =
    some_nonempty (c ++ joined run) (omega (arith, length-append c (joined run), char_some c (and_yes (is_char c) (all is_char run) h).0))

runs_filled : (runs : List (List (List ℕ))) → T (all nonempty runs) → T (all (all is_char) runs) → (p : Part) → Memᴰ p (parts_of runs) → T (nonempty p.bytes)
runs_filled [] n h p m = absurd (Memᴰ.not-nil m)
runs_filled (run ∷ runs) n h p (Memᴰ.head e) =
    rw e (joined_some run (and_yes (nonempty run) (all nonempty runs) n).0 (and_yes (all is_char run) (all (all is_char) runs) h).0)
runs_filled (run ∷ runs) n h p (Memᴰ.tail m) =
    runs_filled runs (and_yes (nonempty run) (all nonempty runs) n).1 (and_yes (all is_char run) (all (all is_char) runs) h).1 p m

-- ---- the runs of characters that any parts hold

abbrev runs_of : List Part → List (List (List ℕ))
runs_of ps = map (λ (p : Part). chars p.bytes) ps

length_runs_of : (ps : List Part) → length (runs_of ps) ≡ length ps
length_runs_of ps = length-map ps (λ (p : Part). chars p.bytes)

runs_of_chars : (ps : List Part) → AllProper ps → T (all is_char (joined (runs_of ps)))
unfolding utf8
runs_of_chars [] h = tt
runs_of_chars (p ∷ ps) h = all_append is_char (chars p.bytes) (joined (runs_of ps)) (first_proper h).whole (runs_of_chars ps (rest_proper h))

runs_of_bytes : (ps : List Part) → joined (joined (runs_of ps)) ≡ joined (bytes_in ps)
runs_of_bytes [] = refl
runs_of_bytes (p ∷ ps) = rw (joined_append (chars p.bytes) (joined (runs_of ps)), chars_joined p.bytes, runs_of_bytes ps)

runs_of_whole : (ps : List Part) → AllProper ps → chars (joined (bytes_in ps)) ≡ joined (runs_of ps)
runs_of_whole ps h = ap chars (sym (runs_of_bytes ps)) ∙ chars_of (joined (runs_of ps)) (runs_of_chars ps h)

abbrev OnLines : List (List ℕ) → Type 0
OnLines rows = (piece : List ℕ) → Memᴰ piece rows → length (32 ∷ (piece ++ (59 ∷ []))) ≤ 76

length_parts_of : {name : List ℕ} {k : ℕ} {rows : List (List ℕ)} {ps : List Part} → NumberedFrom name k rows ps → length ps ≡ length rows
length_parts_of NumberedFrom.end = refl
length_parts_of (NumberedFrom.part e r n) = ap suc (length_parts_of n)

runs_of_fit : (name : List ℕ) {k : ℕ} {rows : List (List ℕ)} {ps : List Part} → NumberedFrom name k rows ps → AllProper ps → OnLines rows → cuts.AllFit (fits name) k (runs_of ps)
unfolding fits part_piece
runs_of_fit name NumberedFrom.end h l = tt
runs_of_fit name (NumberedFrom.part {k} {piece} {p} e r n) h l =
    let same : piece ≡ part_label name k ++ extended (joined (chars p.bytes)) = e ∙ rw (chars_joined p.bytes, (first_proper h).spelt) in
    (rw same at (fits_line_lem piece (l piece (Memᴰ.head refl))), runs_of_fit name n (rest_proper h) (λ q m. l q (Memᴰ.tail m)))

-- no numbering has fewer parts
fewest_runs : (name : List ℕ) (cs : List (List ℕ)) (runs : List (List (List ℕ))) → cuts.AllFit (fits name) 0 runs → joined runs ≡ cs
    → length (runs_from name 0 cs) ≤ length runs
unfolding runs_from
fewest_runs name [] runs f e = omega arith
fewest_runs name (c ∷ cs) [] f e = absurd (let z : ◌≡◌ {A = ℕ} 0 1 = cc in omega arith)
fewest_runs name (c ∷ cs) (h ∷ hs) f e = cuts.fewest (fits name) (fits_part name) 0 [] (c ∷ []) cs h hs f e

-- ---- the promise

on_lines : (rows : List (List ℕ)) → T (all line_fits rows) → OnLines rows
on_lines rows h piece m = line_fits_lem piece (all_mem line_fits h m)

module _ (name value : List ℕ) (u : T (utf8 value)) where
  module _ (t : T (line_fits (alone_piece name value))) where
    alone_of : PiecesOf name value (alone_piece name value ∷ [])
    unfolding alone_piece
    alone_of = record {
      parts = part_of value ∷ [];
      reads = Parameter.alone {p = part_of value} refl (extended_reads value (utf8_bytes value u));
      gives = append-nil value;
      proper = λ p m. only p m;
      lines = on_lines (alone_piece name value ∷ []) (yes_and (line_fits (alone_piece name value)) true t tt);
    }
      where
        only : (p : Part) → Memᴰ p (part_of value ∷ []) → Proper p
        only p (Memᴰ.head e) = rw e (record { spelt = refl; whole = u })
        only p (Memᴰ.tail m) = absurd (Memᴰ.not-nil m)

    one_at_least : (other : List (List ℕ)) → PiecesOf name value other → 1 ≤ length other
    one_at_least other o = go o.reads
      where
        go : {rows : List (List ℕ)} {ps : List Part} → Parameter name rows ps → 1 ≤ length rows
        go (Parameter.alone e r) = omega arith
        go (Parameter.numbered n) = omega arith

    demand_alone : T (nonempty value) → ParameterDemand name value (alone_piece name value ∷ [])
    unfolding alone_of
    demand_alone n = record { ours = alone_of; filled = λ p m. only p m; fewest = one_at_least }
      where
        only : (p : Part) → Memᴰ p (part_of value ∷ []) → T (nonempty p.bytes)
        only p (Memᴰ.head e) = rw e n
        only p (Memᴰ.tail m) = absurd (Memᴰ.not-nil m)

  module _ (t : T (not (line_fits (alone_piece name value)))) where
    abbrev our_runs : List (List (List ℕ))
    our_runs = runs_from name 0 (chars value)

    our_chars : T (all (all is_char) our_runs)
    unfolding utf8
    our_chars = all_joined is_char our_runs (rw (runs_joined name 0 (chars value)) u)

    numbered_reads : (rows : List (List ℕ)) (ps : List Part) → NumberedFrom name 0 rows ps → 0 < length rows → Parameter name rows ps
    numbered_reads [] ps n h = absurd (omega arith)
    numbered_reads (r ∷ rows) ps n h = Parameter.numbered n

    some_part : T (nonempty value) → (cs : List (List ℕ)) → joined cs ≡ value → 0 < length (runs_from name 0 cs)
    some_part n [] e = absurd (rw (← e) at n)
    some_part n (c ∷ cs) e = go (runs_from name 0 (c ∷ cs)) (runs_joined name 0 (c ∷ cs))
      where
        go : (runs : List (List (List ℕ))) → joined runs ≡ c ∷ cs → 0 < length runs
        go [] e = absurd (let z : ◌≡◌ {A = ℕ} 0 1 = cc in omega arith)
        go (r ∷ runs) e = omega arith

    parts_of_lem : T (nonempty value) → T (all line_fits (parts name value)) → PiecesOf name value (parts name value)
    unfolding parts
    parts_of_lem n h = record {
      parts = parts_of our_runs;
      reads = numbered_reads (numbered name 0 our_runs) (parts_of our_runs) (runs_reads name 0 our_runs our_chars)
          (omega (arith, length_numbered name 0 our_runs, some_part n (chars value) (chars_joined value)));
      gives = runs_bytes our_runs ∙ rw (runs_joined name 0 (chars value)) (chars_joined value);
      proper = runs_proper our_runs our_chars;
      lines = on_lines (numbered name 0 our_runs) h;
    }

    no_fewer : (other : List (List ℕ)) → PiecesOf name value other → length (parts name value) ≤ length other
    unfolding parts alone_piece
    no_fewer other o = go o.reads o.gives o.proper o.lines
      where
        go : {other : List (List ℕ)} {ps : List Part} → Parameter name other ps → joined (bytes_in ps) ≡ value → AllProper ps → OnLines other
            → length (numbered name 0 our_runs) ≤ length other
        go (Parameter.alone {piece} {p} e r) g h l =
            let bytes : p.bytes ≡ value = sym (append-nil p.bytes) ∙ g in
            let same : piece ≡ alone_label name ++ extended value = e ∙ rw ((first_proper h).spelt, bytes) in
            absurd (T_not (line_fits (alone_label name ++ extended value)) t (rw same at (fits_line_lem piece (l piece (Memᴰ.head refl)))))
        go (Parameter.numbered {ps = ps} n) g h l =
            let whole : joined (runs_of ps) ≡ chars value = sym (runs_of_whole ps h) ∙ ap chars g in
            omega (arith, fewest_runs name (chars value) (runs_of ps) (runs_of_fit name n h l) whole, length_numbered name 0 our_runs, length_runs_of ps, length_parts_of n)

    demand_parts : T (nonempty value) → T (all line_fits (parts name value)) → ParameterDemand name value (parts name value)
    unfolding parts parts_of_lem
    demand_parts n h = record { ours = parts_of_lem n h; filled = runs_filled our_runs (runs_some name 0 (chars value)) our_chars; fewest = no_fewer }

  pub parameter_demand : T (nonempty value) → T (has_room name value) → ParameterDemand name value (pieces name value)
  unfolding has_room
  parameter_demand n h =
      by_test (line_fits (alone_piece name value))
      (λ t. rw (pieces_alone name value t) (demand_alone t n))
      (λ t. rw (pieces_parts name value t) (demand_parts t n (rw (pieces_parts name value t) at h)))
