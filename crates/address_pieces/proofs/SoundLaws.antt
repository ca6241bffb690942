-- What an address field becomes is sound: bytes that stand as they are are ASCII, and texts that are encoded are UTF-8.
use Rattle.std.specs.Prelude.{◌≡◌, refl, cond, ◌||◌, ℕ, zero, suc, pred, ◌+◌, ◌-◌, ◌≤◌, ◌<◌, take, drop, get_or}
use Rattle.std.proofs.Common.{ap, not-suc-le-zero, arith, take-append-drop}
use Rattle.std.proofs.Math.Bool.{true, false}
use mathlib.Core.List.{List, [], ◌∷◌, ◌++◌, map}
use Rattle.std.proofs.Math.Dec.{T}
use Rattle.std.proofs.Math.Facts.{and_yes, yes_and}
use Rattle.lists.specs.Byte.{is_ascii}
use Rattle.lists.specs.ListsLaws.{cond_has, all_append, all_left}
use Rattle.lists.specs.Lists.{all}
use Rattle.lists.specs.Run.{run}
use Rattle.utf8.specs.Utf8.{utf8}
use Rattle.utf8.specs.Utf8Laws.{utf8_append, utf8_ascii}
use Rattle.line.specs.Line.{blank}
use Rattle.letter_case.specs.LetterCase.{bytes}
use Rattle.rules.specs.Rules.{removal_start, removal_end}
use Rattle.rules.specs.declared.Rules.{Rules}
use Rattle.rules.specs.declared.Rules.TheVariants.{Spool, Current, Mailbox}
use Rattle.encoded_word.specs.Segments.{Segment, sound}
use Rattle.encoded_word.specs.Segments.Segment.{words}
use Rattle.field.specs.Field.{encoded_field}
use Rattle.field.proofs.FieldLaws.{encoded_sound, named_sound}
use Rattle.phrase.specs.Phrase.{word_size, words_from, phrase_words, phrase_text}
use Rattle.phrase.specs.BoundaryLaws.{Boundary, boundary_then, boundary_first, boundary_byte, address_boundary, blank_low, blanks_boundary, phrase_boundary, phrase_text_utf8}
use Rattle.comment.proofs.BoundaryLaws.{comment_cut}
use Rattle.piece.proofs.CommentPiecesLaws.{comment_sound}
use Rattle.address_list.specs.Parts.{part_at, Part, parts_from, parts_of, any_changes}
use Rattle.address_list.specs.PartCasesLaws.{Opened, part_has}
use Rattle.address_list.specs.Table.{after, complete, examined_from, examined}
use Rattle.address_list.specs.TableLaws.{after_stray, complete_unfit}
use Rattle.address_list.specs.declared.Front.{Front}
use Rattle.address_list.specs.declared.PartKind.{PartKind}
use Rattle.address_list.specs.declared.PartKind.TheVariants.{Blank, Comment, Comma, Colon, Semicolon, Phrase, Address, Angled, Alternative, Stray}
use Rattle.address_list.specs.declared.State.{State}
use Rattle.address_list.specs.declared.State.TheVariants.{ItemDue}
use Rattle.address_list.specs.declared.Examined.{Examined}
use Rattle.address_list.specs.declared.Examined.TheVariants.{DoesNotFit, Kept, Changed}
use Rattle.group.specs.Group.{inside, text_of, Turn, turns_from, turns_of}
use Rattle.group.specs.Trimmed.{trimmed}
use Rattle.group.proofs.GroupLaws.{Each, each_inside, TurnCases, turns_have}
use Rattle.group.proofs.TrimmedLaws.{trimmed_utf8}
use Rattle.piece.specs.Piece.{piece}
use Rattle.address_pieces.specs.Pieces.{phrase_pieces, removed, in_angles, address_pieces, pieces, turn_pieces, pieces_of}
use Rattle.address_pieces.specs.AddressField.{rewritten_field, adds_copy, copy_of, field_by, address_field}

-- ---- a phrase

front_ascii : (n : ℕ) (t : List ℕ) → T (all is_ascii t) → T (all is_ascii (take n t))
front_ascii n t h = all_left is_ascii (take n t) (drop n t) (rw (take-append-drop n t) h)

word_pieces_sound : (k : ℕ) (t : List ℕ) → T (all is_ascii t) → T (all sound (map piece (words_from k t)))
unfolding words_from
word_pieces_sound k [] h = tt
word_pieces_sound (suc k) (b ∷ t) h = word_pieces_sound k t (and_yes (is_ascii b) (all is_ascii t) h).1
word_pieces_sound zero (b ∷ t) h =
    let word : ℕ = word_size (b ∷ t) in
    let k : ℕ = pred (word + run blank (drop word (b ∷ t))) in
    yes_and (all is_ascii (take word (b ∷ t))) (all sound (map piece (words_from k t))) (front_ascii word (b ∷ t) h) (word_pieces_sound k t (and_yes (is_ascii b) (all is_ascii t) h).1)

phrase_sound : (t : List ℕ) → T (utf8 t) → T (all sound (phrase_pieces t))
unfolding phrase_pieces phrase_words
phrase_sound t h =
    cond_has (λ (ss : List Segment). T (all sound ss)) (all is_ascii t) (map piece (words_from 0 t)) (words (phrase_text t) ∷ [])
    (λ a. word_pieces_sound 0 t a)
    (λ a. yes_and (utf8 (phrase_text t)) true (phrase_text_utf8 t h) tt)

-- ---- an address

removed_sound : (rules : Rules) (t : List ℕ) → T (utf8 t) → T (all sound (removed rules t))
unfolding removed removal_start removal_end bytes
removed_sound Spool t h = yes_and (utf8 t) true h tt
removed_sound Current t h = yes_and (utf8 t) true h tt
removed_sound Mailbox t h = yes_and (utf8 t) true h tt

bare_sound : (rules : Rules) (t : List ℕ) → T (utf8 t) → T (all sound (address_pieces rules piece t))
unfolding address_pieces
bare_sound rules t h =
    cond_has (λ (ss : List Segment). T (all sound ss)) (all is_ascii t) (piece t ∷ []) (removed rules t)
    (λ a. yes_and (all is_ascii t) true a tt)
    (λ a. removed_sound rules t h)

in_angles_sound : (t : List ℕ) → T (all is_ascii t) → T (all sound (in_angles t ∷ []))
in_angles_sound t a = yes_and (all is_ascii (t ++ (62 ∷ []))) true (all_append is_ascii t (62 ∷ []) a tt) tt

angled_sound : (rules : Rules) (t : List ℕ) → T (utf8 t) → T (all sound (address_pieces rules in_angles t))
unfolding address_pieces
angled_sound rules t h =
    cond_has (λ (ss : List Segment). T (all sound ss)) (all is_ascii t) (in_angles t ∷ []) (removed rules t)
    (λ a. in_angles_sound t a)
    (λ a. removed_sound rules t h)

-- ---- the part at the front of a text that is UTF-8

-- what is known of the address in a part
abbrev address_known : PartKind → List ℕ → Type 0
address_known Blank t = Unit
address_known Comment t = Unit
address_known Comma t = Unit
address_known Colon t = Unit
address_known Semicolon t = Unit
address_known Phrase t = Unit
address_known Address t = Unit
address_known (Angled start size) t = T (utf8 (take size (drop start t)))
address_known (Alternative start size) t = T (all is_ascii (take size (drop start t)))
address_known Stray t = Unit

-- a part other than a stray byte ends at a boundary
abbrev end_known : PartKind → List ℕ → ℕ → Type 0
end_known Blank s n = Boundary s n
end_known Comment s n = Boundary s n
end_known Comma s n = Boundary s n
end_known Colon s n = Boundary s n
end_known Semicolon s n = Boundary s n
end_known Phrase s n = Boundary s n
end_known Address s n = Boundary s n
end_known (Angled start size) s n = Boundary s n
end_known (Alternative start size) s n = Boundary s n
end_known Stray s n = Unit

record Known (s : List ℕ) (f : Front) : Type 0 where
  some : 0 < f.size
  end : end_known f.kind s f.size
  address : address_known f.kind (take f.size s)

-- a part of the front is a part of the whole
part_front : (b n m : ℕ) (s : List ℕ) → b + n ≤ m → take n (drop b (take m s)) ≡ take n (drop b s)
part_front zero zero m s h = refl
part_front zero (suc n) zero s h = absurd (not-suc-le-zero {n = n} (omega arith))
part_front zero (suc n) (suc m) [] h = refl
part_front zero (suc n) (suc m) (x ∷ s) h = ap (λ (l : List ℕ). x ∷ l) (part_front zero n m s (omega arith))
part_front (suc b) n zero s h = absurd (not-suc-le-zero {n = b + n} (omega arith))
part_front (suc b) n (suc m) [] h = refl
part_front (suc b) n (suc m) (x ∷ s) h = part_front b n m s (omega arith)

-- `<` and blanks after it
opened_boundary : (s : List ℕ) (start size : ℕ) → T (utf8 s) → Opened s start size → Boundary s start
opened_boundary s start size h o =
    let first = boundary_first s h (rw o.opens (omega arith)) in
    rw o.start_is (boundary_then s 1 (run blank (drop 1 s)) first (blanks_boundary (drop 1 s) first.after))

part_known : (rules : Rules) (s : List ℕ) → T (utf8 s) → Known s (part_at rules s)
part_known rules s h = part_has (Known s) rules s (record {
  none = record { some = omega arith; end = tt; address = tt };
  is_blank_lem = λ t. record { some = omega arith; end = boundary_first s h (blank_low (get_or s 0 0) t); address = tt };
  comma = λ e. record { some = omega arith; end = mark 44 (omega arith) e; address = tt };
  colon = λ e. record { some = omega arith; end = mark 58 (omega arith) e; address = tt };
  semicolon = λ e. record { some = omega arith; end = mark 59 (omega arith) e; address = tt };
  angled =
      λ start size o close.
      let begun = opened_boundary s start size h o in
      let address = rw (← o.size_is) at (address_boundary (drop start s) begun.after) in
      record {
        some = omega arith;
        end = boundary_byte s (start + size) 62 (boundary_then s start size begun address) close (omega arith);
        address = rw (part_front start size (start + size + 1) s (omega arith)) address.before;
      };
  alternative =
      λ a n inner start size allowed o r.
      let first = boundary_then s a n (opened_boundary s a n h o) (rw (← o.size_is) at (address_boundary (drop a s) (opened_boundary s a n h o).after)) in
      let at_inner = rw (← r.inner_is) at (boundary_then s (a + n) (run blank (drop (a + n) s)) first (blanks_boundary (drop (a + n) s) first.after)) in
      let opens = boundary_byte s inner 60 at_inner r.opens (omega arith) in
      let at_start = rw (← r.start_is) at (boundary_then s (inner + 1) (run blank (drop (inner + 1) s)) opens (blanks_boundary (drop (inner + 1) s) opens.after)) in
      let at_end_lem = boundary_then s start size at_start (rw (← r.size_is) at (address_boundary (drop start s) at_start.after)) in
      let closed = boundary_byte s (start + size) 62 at_end_lem r.close (omega arith) in
      let twice = boundary_byte s (start + size + 1) 62 closed r.close₂ (omega arith) in
      let two : start + size + 1 + 1 ≡ start + size + 2 = omega arith in
      record { some = omega arith; end = rw two at twice; address = rw (part_front start size (start + size + 2) s (omega arith)) r.ascii };
  comment = λ some runs. record { some = some; end = (let cut = comment_cut s some h in record { before = cut.0; after = cut.1 }); address = tt };
  address = λ some. record { some = some; end = address_boundary s h; address = tt };
  phrase = λ some. record { some = some; end = phrase_boundary s h; address = tt };
})
  where
    mark : (b : ℕ) → b < 128 → get_or s 0 0 ≡ b → Boundary s 1
    mark b k e = boundary_first s h (rw e k)

-- ---- the parts of a text that fits

abbrev KnownPart : Part → Type 0
KnownPart p = T (utf8 p.text) × address_known p.kind p.text

not_stray : (state : State) (kind : PartKind) (ps : List Part) → T (complete (after state kind) ps) → kind ≡ Stray → ⊥
not_stray state kind ps t e = rw (e, after_stray state, complete_unfit ps) at t

end_boundary : (kind : PartKind) (s : List ℕ) (n : ℕ) → (kind ≡ Stray → ⊥) → end_known kind s n → Boundary s n
end_boundary Blank s n p e = e
end_boundary Comment s n p e = e
end_boundary Comma s n p e = e
end_boundary Colon s n p e = e
end_boundary Semicolon s n p e = e
end_boundary Phrase s n p e = e
end_boundary Address s n p e = e
end_boundary (Angled start size) s n p e = e
end_boundary (Alternative start size) s n p e = e
end_boundary Stray s n p e = absurd (p refl)

parts_known : (rules : Rules) (k : ℕ) (s : List ℕ) (state : State) → T (utf8 (drop k s)) → T (complete state (parts_from rules k s)) → Each KnownPart (parts_from rules k s)
unfolding parts_from complete
parts_known rules k [] state h t = tt
parts_known rules (suc k) (b ∷ s) state h t = parts_known rules k s state h t
parts_known rules zero (b ∷ s) state h t =
    let f = part_at rules (b ∷ s) in
    let k = part_known rules (b ∷ s) h in
    let end = end_boundary f.kind (b ∷ s) f.size (not_stray state f.kind (parts_from rules (pred f.size) s) t) k.end in
    ((end.before, k.address), parts_known rules (pred f.size) s (after state f.kind) (rest f.size k.some end.after) t)
  where
    rest : (n : ℕ) → 0 < n → T (utf8 (drop n (b ∷ s))) → T (utf8 (drop (pred n) s))
    rest zero p u = absurd (not-suc-le-zero p)
    rest (suc n) p u = u

text_utf8 : (ps : List Part) → Each KnownPart ps → T (utf8 (text_of ps))
unfolding text_of
text_utf8 [] e = utf8_ascii [] tt
text_utf8 (p ∷ ps) e = utf8_append p.text (text_of ps) e.0.0 (text_utf8 ps e.1)

-- ---- the pieces of their turns

pieces_sound : (rules : Rules) (kind : PartKind) (t : List ℕ) → T (utf8 t) → address_known kind t → T (all sound (pieces rules kind t))
unfolding pieces
pieces_sound rules Blank t u a = tt
pieces_sound rules Comment t u a = comment_sound t u
pieces_sound rules Comma t u a = tt
pieces_sound rules Colon t u a = tt
pieces_sound rules Semicolon t u a = tt
pieces_sound rules Phrase t u a = phrase_sound t u
pieces_sound rules Address t u a = bare_sound rules t u
pieces_sound rules (Angled start size) t u a = angled_sound rules (take size (drop start t)) a
pieces_sound rules (Alternative start size) t u a = in_angles_sound (take size (drop start t)) a
pieces_sound rules Stray t u a = tt

abbrev SoundTurns : Rules → List Part → List Turn → Type 0
SoundTurns rules ps ts = Each KnownPart ps → T (all sound (pieces_of rules ts))

turns_sound : (rules : Rules) → TurnCases (SoundTurns rules) (SoundTurns rules)
unfolding pieces_of turn_pieces
turns_sound rules = record {
  none = λ e. tt;
  over = λ e. tt;
  group =
      λ p ps ts colon lost more e.
      let t = trimmed (text_of (inside ps)) in
      all_append sound (removed rules t) (pieces_of rules ts) (removed_sound rules t (trimmed_utf8 (text_of (inside ps)) (text_utf8 (inside ps) (each_inside KnownPart ps e.1)))) (more e.1);
  part = λ p ps ts n more e. all_append sound (pieces rules p.kind p.text) (pieces_of rules ts) (pieces_sound rules p.kind p.text e.0.0 e.0.1) (more e.1);
  end = λ p ps ts m more e. more e.1;
  passed = λ p ps ts m more e. more e.1;
}

-- ---- the field

module _ (rules : Rules) (name text : List ℕ) (a : T (all is_ascii name)) (u : T (utf8 text)) where
  rewritten_sound : T (complete ItemDue (parts_of rules text)) → T (all sound (rewritten_field rules name text))
  unfolding rewritten_field parts_of turns_of
  rewritten_sound t =
      let ps = parts_from rules 0 text in
      named_sound name (pieces_of rules (turns_from false ps)) a ((turns_have (SoundTurns rules) (SoundTurns rules) (turns_sound rules) ps).0 (parts_known rules 0 text ItemDue u t))

  copy_sound : T (all sound (copy_of rules name text))
  unfolding copy_of
  copy_sound = cond_has (λ (ss : List Segment). T (all sound ss)) (adds_copy rules) (encoded_field true name text) [] (λ t. encoded_sound true name text a u) (λ t. tt)

  -- Every segment of an address field is sound.
  pub address_field_sound : T (all sound (address_field rules name text))
  unfolding address_field examined examined_from field_by
  address_field_sound =
      let ps = parts_of rules text in
      let by : Examined → Type 0 = (λ e. T (all sound (field_by e rules name text))) in
      let encoded = encoded_sound true name text a u in
      cond_has by (complete ItemDue ps) (cond (false || any_changes ps) Changed Kept) DoesNotFit
      (λ t.
      cond_has by (false || any_changes ps) Changed Kept
      (λ v. all_append sound (rewritten_field rules name text) (copy_of rules name text) (rewritten_sound t) copy_sound)
      (λ v. rewritten_sound t))
      (λ t. encoded)
