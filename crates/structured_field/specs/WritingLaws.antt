-- The writing of a structured field and the test of its value, step by step.
use Rattle.std.specs.Prelude.{◌≡◌, Bool, true, false, ◌&&◌, List, [], ◌∷◌, ◌++◌, map, ℕ, ◌+◌, ◌-◌, ◌≤◌, ◌<◌, length, take, drop}
use Rattle.std.proofs.Common.{sym, ap, ◌∙◌, append-nil, arith, length-take, length-drop}
use Rattle.lists.specs.Byte.{is_ascii}
use Rattle.lists.specs.Lists.{all, joined}
use Rattle.buffer.specs.Buffer.{AppendedCapped, greatest}
use Rattle.buffer.specs.BufferLaws.{capped_then}
use Rattle.row.specs.Row.{row, bounded}
use Rattle.row.proofs.RowLaws.{bounded_short}
use Rattle.encoded_word.specs.Segments.{rendered}
use Rattle.field.proofs.FieldLaws.{named_added}
use Rattle.comment.specs.Parts.{part_len, parts, run_text}
use Rattle.comment.proofs.PartsLaws.{parts_next, parts_over}
use Rattle.comment.proofs.BoundaryLaws.{length_run_text}
use Rattle.piece.proofs.PieceLaws.{MadeIn}
use Rattle.encoded_word.specs.MappedLaws.{mapped_next, mapped_none}
use Rattle.encoded_word.specs.SegmentsLaws.{rendered_append}
use Rattle.structured_token.specs.declared.Kind.{Kind}
use Rattle.structured_token.specs.Tokens.{size_of, goes_on, calm_len, comment_kind, Took}
use Rattle.structured_token.specs.Walk.{clear_all, becoming}
use Rattle.structured_token.proofs.WalkLaws.{At, clear_over, becoming_over, clear_at, becoming_at}
use Rattle.structured_field.specs.CalmLaws.{calm_clear, calm_bytes, structured_calm}
use Rattle.structured_field.specs.StructuredField.{part_segments, clear, becomes, structured_front, value_segments, structured_field}

-- a part is no longer than the whole
pub part_served : (s : List ℕ) (i e room : ℕ) → length s ≤ 32768 → length s ≤ room
    → (length (take (e - i) (drop i s)) ≤ 32768) × (length (take (e - i) (drop i s)) ≤ room)
part_served s i e room h k =
    let size : length (take (e - i) (drop i s)) ≤ length s = omega (arith, length-take (e - i) (drop i s), length-drop i s) in
    (omega arith, omega arith)

-- ---- a parenthesis or a run

pub part_stays : (part : List ℕ) → all is_ascii part ≡ true → part ≡ rendered (part_segments part)
unfolding part_segments rendered
part_stays part h = rw h (sym (append-nil part))

-- a run whose text is made in a scratch
pub part_encoded : (run : List ℕ) {text before mid after : List ℕ} {n at m r : ℕ} → MadeIn text n (run_text run) → all is_ascii run ≡ false → length run ≤ 32768
    → length before ≤ greatest → AppendedCapped (row (bounded (take n text))) at before mid m → AppendedCapped (13 ∷ 10 ∷ 32 ∷ []) m mid after r
    → AppendedCapped (rendered (part_segments run)) at before after r
unfolding part_segments rendered
part_encoded run u e k g a b =
    let words = rw (u.is, bounded_short (run_text run) (omega (arith, length_run_text run))) at a in
    rw e (capped_then words b g)

-- ---- a comment, part by part

module _ (s : List ℕ) (i : ℕ) where
  pub comment_next : (e : ℕ) → i < length s → e ≡ i + part_len (drop i s)
      → rendered (joined (map part_segments (parts (drop i s)))) ≡ rendered (part_segments (take (e - i) (drop i s))) ++ rendered (joined (map part_segments (parts (drop e s))))
  comment_next e h r = mapped_next part_segments (parts_next s i h e r)

  pub comment_none : length s ≤ i → rendered (joined (map part_segments (parts (drop i s)))) ≡ []
  comment_none h = mapped_none part_segments (parts_over s i h)

-- ---- a value, token by token

module _ (what : Kind) (token : List ℕ) {comment : Bool} (k : comment ≡ comment_kind what) where
  pub token_comment : comment ≡ true → rendered (joined (map part_segments (parts token))) ≡ rendered (becomes what token)
  unfolding becomes
  token_comment e = rw (sym k ∙ e)

  pub token_stays : comment ≡ false → token ≡ rendered (becomes what token)
  unfolding becomes rendered
  token_stays e = rw (sym k ∙ e) (sym (append-nil token))

module _ {comments on : Bool} {s : List ℕ} {i e : ℕ} {what : Kind} (h : i < length s) (t : Took comments s i what e) (o : on ≡ goes_on comments what) where
  at_token : At structured_front comments s i e (record { size = e - i; clear = clear what (take (e - i) (drop i s)); becomes = becomes what (take (e - i) (drop i s)); next = on })
  at_token =
      let size : size_of what (drop i s) ≡ e - i = omega (arith, t.is) in
      record { is = rw (← t.what, size, o); end = omega (arith, t.some h); some = λ l. omega (arith, t.some h) }

  -- the token, and the bytes after it that stay as they came
  module _ (k : ℕ) (q : k ≡ e + calm_len (drop e s)) where
    pub outside_step : {r : Bool} → r ≡ clear what (take (e - i) (drop i s)) → clear_all structured_front comments (drop i s) ≡ r && clear_all structured_front on (drop k s)
    outside_step p =
        rw p (clear_at structured_front h at_token ∙ ap (λ x. clear what (take (e - i) (drop i s)) && x) (calm_clear structured_front on (structured_calm on) s e k q))

    pub value_calm : rendered (becoming structured_front on (drop e s)) ≡ take (k - e) (drop e s) ++ rendered (becoming structured_front on (drop k s))
    value_calm = calm_bytes structured_front on (structured_calm on) s e k q

  pub value_step_lem : rendered (becoming structured_front comments (drop i s)) ≡ rendered (becomes what (take (e - i) (drop i s))) ++ rendered (becoming structured_front on (drop e s))
  value_step_lem = ap rendered (becoming_at structured_front h at_token) ∙ rendered_append (becomes what (take (e - i) (drop i s))) (becoming structured_front on (drop e s))

module _ (comments : Bool) (s : List ℕ) (i : ℕ) (h : length s ≤ i) where
  pub value_none : rendered (becoming structured_front comments (drop i s)) ≡ []
  unfolding rendered
  value_none = rw (becoming_over structured_front comments s i h)

  pub outside_none : clear_all structured_front comments (drop i s) ≡ true
  outside_none = clear_over structured_front comments s i h
