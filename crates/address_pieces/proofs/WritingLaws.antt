-- The writing of an address field, step by step.
use Rattle.std.specs.Prelude.{◌≡◌, true, false, List, [], ◌∷◌, ◌++◌, map, ℕ, ◌+◌, ◌-◌, ◌*◌, ◌≤◌, length}
use Rattle.std.proofs.Common.{ap, sym, ◌∙◌, arith, length-append}
use Rattle.buffer.specs.Buffer.{Wrote, AppendedCapped, greatest}
use Rattle.buffer.specs.BufferLaws.{appended_from, appended_of, appended_then, capped_none, capped_then, capped_same, length_wrote, wrote_from}
use Rattle.rules.specs.Rules.{removal_start, removal_end}
use Rattle.rules.specs.declared.Rules.{Rules}
use Rattle.row.specs.Row.{row, bounded}
use Rattle.row.proofs.RowLaws.{bounded_short}
use Rattle.encoded_word.specs.SegmentsLaws.{rendered_append}
use Rattle.encoded_word.specs.Segments.{rendered, bytes_of}
use Rattle.field.specs.Field.{encoded_field}
use Rattle.field.proofs.FieldLaws.{named_added}
use Rattle.phrase.specs.Phrase.{phrase_text}
use Rattle.phrase.specs.PhraseLaws.{length_phrase_text}
use Rattle.address_list.specs.Parts.{parts_of}
use Rattle.group.specs.Group.{turns_of}
use Rattle.address_list.specs.Table.{examined}
use Rattle.address_list.specs.declared.Examined.{Examined}
use Rattle.address_list.specs.declared.Examined.TheVariants.{DoesNotFit, Kept, Changed}
use Rattle.piece.specs.Piece.{piece}
use Rattle.address_pieces.specs.Pieces.{removed, pieces_of}
use Rattle.piece.proofs.PieceLaws.{rendered_one, wrote_same, MadeIn, made_in}
use Rattle.address_pieces.specs.AddressField.{rewritten_field, adds_copy, copy_of, field_by, address_field}
use Rattle.address_pieces.proofs.LengthLaws.{removed_le}
pub use Rattle.piece.proofs.PieceLaws.{fitting_short}

-- ---- two writings, one after the other

pub wrote_then : {xs ys before mid after : List ℕ} {n r : ℕ} → Wrote xs before mid n → AppendedCapped ys n mid after r → length xs + length ys ≤ greatest
    → Wrote (xs ++ ys) before after r
wrote_then w a h = wrote_from (appended_then (appended_from w) (appended_of a (omega (arith, w.size, h))))

-- ---- the pieces in place of an address that is removed

module _ (rules : Rules) (address : List ℕ) where
  removed_bytes : rendered (removed rules address) ≡ rendered (map piece (removal_start rules)) ++ (row address ++ bytes_of (piece (removal_end rules)))
  unfolding removed rendered
  removed_bytes = rendered_append (map piece (removal_start rules)) _ ∙ rw (rendered_one (piece (removal_end rules)))

  pub removed_wrote : {before begun mid after : List ℕ} {n m r : ℕ} → length address ≤ 32768 → length before ≤ greatest
      → Wrote (rendered (map piece (removal_start rules))) before begun n → AppendedCapped (row (bounded address)) n begun mid m
      → AppendedCapped (bytes_of (piece (removal_end rules))) m mid after r → Wrote (rendered (removed rules address)) before after r
  removed_wrote {before} {begun} h k w a b =
      let words = rw (bounded_short address (omega arith)) at a in
      let more = capped_then words b (omega (arith, length_wrote w)) in
      wrote_same (sym removed_bytes) (wrote_then w more (omega (arith, removed_le rules address, simp length-append at (ap length removed_bytes))))

-- ---- a phrase's text in a scratch that has room for it

module _ (t : List ℕ) {begun text : List ℕ} {n : ℕ} (u : AppendedCapped (phrase_text t) 0 begun text n) (k : length t ≤ 32768) (h : 2 * length t ≤ length begun) where
  pub phrase_made : MadeIn text n (phrase_text t)
  phrase_made = made_in u (omega (arith, length_phrase_text t)) (omega (arith, length_phrase_text t))

-- ---- the field

module _ (rules : Rules) (name text : List ℕ) where
  pub rewritten_added : {before labelled marked valued after : List ℕ} {at n c v s : ℕ} → length before ≤ greatest
      → AppendedCapped name at before labelled n → AppendedCapped (58 ∷ []) n labelled marked c → AppendedCapped (rendered (pieces_of rules (turns_of (parts_of rules text)))) c marked valued v
      → AppendedCapped (13 ∷ 10 ∷ []) v valued after s → AppendedCapped (rendered (rewritten_field rules name text)) at before after s
  unfolding rewritten_field
  rewritten_added k a b d f = named_added name (pieces_of rules (turns_of (parts_of rules text))) k a b d f

  module _ (h : length text ≤ 32768) where
    encoded_added : {before after : List ℕ} {at r : ℕ} → AppendedCapped (rendered (encoded_field true name (bounded text))) at before after r
        → AppendedCapped (rendered (encoded_field true name text)) at before after r
    encoded_added a = rw (bounded_short text (omega arith)) at a

    -- the copy, where the rules add one
    pub copy_added : {before after : List ℕ} {at r : ℕ} → adds_copy rules ≡ true → AppendedCapped (rendered (encoded_field true name (bounded text))) at before after r
        → AppendedCapped (rendered (copy_of rules name text)) at before after r
    unfolding copy_of
    copy_added e a = rw e (encoded_added a)

    pub by_encoded : {before after : List ℕ} {at r : ℕ} → AppendedCapped (rendered (encoded_field true name (bounded text))) at before after r
        → AppendedCapped (rendered (field_by DoesNotFit rules name text)) at before after r
    unfolding field_by
    by_encoded a = encoded_added a

  pub copy_none : (before : List ℕ) (at : ℕ) → adds_copy rules ≡ false → at ≤ greatest → AppendedCapped (rendered (copy_of rules name text)) at before before at
  unfolding copy_of rendered
  copy_none before at e h = rw e (capped_none at before h)

  pub with_copy : {before mid after : List ℕ} {at n r : ℕ} → length before ≤ greatest → AppendedCapped (rendered (rewritten_field rules name text)) at before mid n
      → AppendedCapped (rendered (copy_of rules name text)) n mid after r → AppendedCapped (rendered (field_by Changed rules name text)) at before after r
  unfolding field_by
  with_copy k w a = capped_same (sym (rendered_append (rewritten_field rules name text) (copy_of rules name text))) (capped_then w a k)

  pub by_kept : {before after : List ℕ} {at r : ℕ} → AppendedCapped (rendered (rewritten_field rules name text)) at before after r
      → AppendedCapped (rendered (field_by Kept rules name text)) at before after r
  unfolding field_by
  by_kept w = w

  pub by_examined : {e d : Examined} {before after : List ℕ} {at r : ℕ} → d ≡ e → d ≡ examined rules text
      → AppendedCapped (rendered (field_by e rules name text)) at before after r → AppendedCapped (rendered (address_field rules name text)) at before after r
  unfolding address_field
  by_examined k x w = rw (← x, k) w
