-- What a call of the reader answers and leaves is what the rules give, and nothing else.
use Rattle.std.specs.Prelude.{◌≡◌, List, [], ℕ, ◌+◌, ◌≤◌, ◌<◌, eqb, leb, ltb, drop}
use Rattle.std.proofs.Math.Path.{refl, ap, sym}
use Rattle.std.proofs.Common.{◌∙◌, arith, eqb→eq}
use Rattle.std.proofs.Math.ListN.{length}
use borrow.Author.Tests.{lt-ltb, le-ltb, le-leb, lt-leb}
use Rattle.std.proofs.Math.Facts.{ltb_yes, ltb_no, leb_yes, leb_no, eqb_no}
use Rattle.lists.specs.ListsLaws.{by_test}
use Rattle.header.specs.Fields.{field_len}
use Rattle.std.specs.Prelude.{Some, None, Ok, Err}
use Rattle.std.specs.declared.option.Option.{Option}
use Rattle.std.specs.declared.result.Result.{Result}
use Rattle.downgraded_field.specs.declared.FieldFault.{FieldFault}
use Rattle.downgraded_field.specs.Shown.{field_read, field_text, of_number}
use Rattle.downgraded_reader.specs.declared.Found.{Found}
use Rattle.downgraded_reader.specs.Reader.{field_start, field_at, fitting, of_field, reading, text_left, left_by, buffer_after, text_number, number_of, start_of, next_of, text_size, length_of, Outcome, outcome}
use Rattle.reader_grammar.specs.FieldGrammar.{FieldShows}
use Rattle.reader_grammar.specs.FieldGrammarLaws.{read_of, text_range, field_shown, field_read_lem}
use Rattle.reader_grammar.specs.ReaderGrammar.{FirstField, Reads}
use Rattle.reader_grammar.specs.StartLaws.{field_inside, start_up, start_begins, start_first, start_none, first_once}

-- a refusal's number
shows_few : {field text : List ℕ} {n : ℕ} → FieldShows field n text → n < 5
shows_few (FieldShows.malformed f) = omega arith
shows_few (FieldShows.refused l s k) = k
shows_few (FieldShows.text l s) = omega arith

-- an outcome by what is found
abbrev by : ℕ → Option Found → List ℕ → List ℕ → Outcome
by end r text buffer = record { number = number_of r; start = start_of end r; next = next_of end r; size = length_of r; buffer = left_by r text buffer }

-- a refused field
refused_by : (end room start next n : ℕ) (text buffer : List ℕ) → 0 < n → n < 5
    → by end (Some (of_field room start next (read_of n []))) text buffer ≡ record { number = n; start = start; next = next; size = 0; buffer = buffer }
unfolding read_of of_number of_field fitting number_of text_number start_of next_of length_of text_size left_by text_left
refused_by end room start next n text buffer k l =
    by_test (eqb n 1) (λ t. let e : n ≡ 1 = eqb→eq n 1 t in rw e refl)
    (λ t. by_test (eqb n 2) (λ u. let e : n ≡ 2 = eqb→eq n 2 u in rw e refl)
    (λ u. by_test (eqb n 3) (λ v. let e : n ≡ 3 = eqb→eq n 3 v in rw e refl)
    (λ v. let e : n ≡ 4 = omega (arith, eqb_no {a = n} {b = 1} t, eqb_no {a = n} {b = 2} u, eqb_no {a = n} {b = 3} v) in rw e refl)))

module _ (h : List ℕ) (place : ℕ) (buffer : List ℕ) where
  -- where a field is found
  found_by : {start : ℕ} → FirstField h place start
      → outcome h place buffer ≡ by (length h) (Some (of_field (length buffer) start (start + field_len (drop start h)) (field_read (field_at h start)))) (field_text (field_at h start)) buffer
  unfolding outcome buffer_after reading
  found_by {start} f =
      let e : field_start h place ≡ start = first_once h place f in
      rw (e, lt-ltb start (length h) (field_inside f.begins)) refl

  -- the rules give one outcome, that of the call
  pub reads_only : {o : Outcome} → Reads h place buffer o → o ≡ outcome h place buffer
  unfolding outcome buffer_after reading read_of of_field fitting number_of text_number start_of next_of length_of text_size left_by text_left
  reads_only (Reads.none no_field) =
      let past : length h ≤ field_start h place =
      by_test (ltb (field_start h place) (length h))
      (λ t. absurd (no_field (field_start h place) (start_up h place) (start_begins h place (ltb_yes t))))
      (λ t. ltb_no {a = field_start h place} {b = length h} t) in
      rw (le-ltb (field_start h place) (length h) past) refl
  reads_only (Reads.shown {start} {text} f s k) =
      let r = field_read_lem s in
      sym (found_by f ∙ rw (r.0, le-leb (length text) (length buffer) k, r.1 refl) refl)
  reads_only (Reads.short {start} {text} f s k) =
      let r = field_read_lem s in
      sym (found_by f ∙ rw (r.0, lt-leb (length text) (length buffer) k) refl)
  reads_only (Reads.refused {start} {number} f s k) =
      let r = field_read_lem s in
      sym (found_by f ∙ ap (λ (x : Result ℕ FieldFault). by (length h) (Some (of_field (length buffer) start (start + field_len (drop start h)) x)) (field_text (field_at h start)) buffer) r.0
      ∙ refused_by (length h) (length buffer) start (start + field_len (drop start h)) number (field_text (field_at h start)) buffer k (shows_few s))

  some_shown : {start n : ℕ} {text : List ℕ} → FirstField h place start → FieldShows (field_at h start) n text → (o : Outcome) × Reads h place buffer o
  some_shown f (FieldShows.malformed m) = (_, Reads.refused f (FieldShows.malformed m) (omega arith))
  some_shown f (FieldShows.refused l s k) = (_, Reads.refused f (FieldShows.refused l s k) (omega (arith, (text_range s).0)))
  some_shown f (FieldShows.text {text} l s) =
      by_test (leb (length text) (length buffer))
      (λ t. (_, Reads.shown f (FieldShows.text l s) (leb_yes t)))
      (λ t. (_, Reads.short f (FieldShows.text l s) (leb_no {a = length text} {b = length buffer} t)))

  some_reads : (o : Outcome) × Reads h place buffer o
  some_reads =
      by_test (ltb (field_start h place) (length h))
      (λ t. let f = start_first h place (ltb_yes t) in some_shown f (field_shown (field_at h (field_start h place))).2)
      (λ t. (_, Reads.none (start_none h place (ltb_no {a = field_start h place} {b = length h} t))))

  pub reads : Reads h place buffer (outcome h place buffer)
  reads = let r = some_reads in rw (reads_only r.1) at r.1
