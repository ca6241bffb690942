-- The lines of a comment, part by part.
use Rattle.std.specs.Prelude.{◌≡◌, true, false, List, [], ◌∷◌, map, ℕ, ◌+◌, ◌-◌, ◌≤◌, ◌<◌, length, take, drop}
use Rattle.std.proofs.Math.Path.{sym}
use Rattle.std.proofs.Common.{ap, ◌∙◌}
use Rattle.lists.specs.Lists.{all, joined}
use Rattle.lists.specs.Byte.{is_ascii}
use Rattle.encoded_word.specs.Segments.{rendered}
use Rattle.comment.specs.Parts.{part_len, parts, run_text}
use Rattle.structured_field.specs.StructuredField.{part_segments}
use Rattle.structured_field.specs.WritingLaws.{part_stays, comment_next, comment_none}
use Rattle.received.specs.Received.{column_after}
use Rattle.received.specs.LinesLaws.{column_append}
use Rattle.received.specs.RowLinesLaws.{row_column}

module _ (column : ℕ) (part : List ℕ) {r : ℕ} where
  pub part_ascii : all is_ascii part ≡ true → r ≡ column_after column part → r ≡ column_after column (rendered (part_segments part))
  part_ascii e q = q ∙ ap (λ (l : List ℕ). column_after column l) (part_stays part e)

  pub part_encoded : all is_ascii part ≡ false → r ≡ column_after column (13 ∷ 10 ∷ 32 ∷ []) → r ≡ column_after column (rendered (part_segments part))
  unfolding part_segments rendered
  part_encoded e q = rw e (q ∙ sym (row_column column (run_text part)))

abbrev pub comment_bytes : List ℕ → List ℕ
comment_bytes s = rendered (joined (map part_segments (parts s)))

module _ (column : ℕ) (s : List ℕ) (i : ℕ) where
  pub comment_step : {next : ℕ} (e : ℕ) → i < length s → e ≡ i + part_len (drop i s) → next ≡ column_after column (rendered (part_segments (take (e - i) (drop i s))))
      → column_after column (comment_bytes (drop i s)) ≡ column_after next (comment_bytes (drop e s))
  comment_step e h r q =
      ap (λ (l : List ℕ). column_after column l) (comment_next s i e h r)
      ∙ (column_append column (rendered (part_segments (take (e - i) (drop i s)))) (comment_bytes (drop e s))
      ∙ ap (λ c. column_after c (comment_bytes (drop e s))) (sym q))

  pub comment_over : length s ≤ i → column_after column (comment_bytes (drop i s)) ≡ column
  unfolding column_after
  comment_over h = rw (comment_none s i h)
