-- What an address field becomes is what the grammar of AddressField.antt makes of its text.
use Rattle.std.specs.Prelude.{◌≡◌, Bool, true, false, cond, List, [], ℕ}
use Rattle.std.proofs.Math.Path.{refl}
use Rattle.std.proofs.Common.{sym, ◌∙◌, append-nil}
use Rattle.rules.specs.declared.Rules.{Rules}
use Rattle.encoded_word.specs.Segments.{Segment}
use Rattle.field.specs.Field.{named}
use Rattle.address_list.specs.Parts.{Part, parts_of, any_changes}
use Rattle.address_list.specs.Table.{fits, examined}
use Rattle.address_list.specs.declared.Examined.{Examined}
use Rattle.address_list.specs.declared.Examined.TheVariants.{DoesNotFit, Kept, Changed}
use Rattle.group.specs.Group.{turns_from, turns_of}
use Rattle.address_pieces.specs.Pieces.{pieces_of}
use Rattle.address_pieces.specs.AddressField.{rewritten_field, field_by, address_field}
use Rattle.address_grammar.specs.PartGrammar.{AddressList}
use Rattle.address_grammar.proofs.PartGrammarLaws.{parts_made, parts_joined}
use Rattle.address_grammar.proofs.GrammarLaws.{fits_made, examined_is, kept_examined, changed_examined}
use Rattle.address_grammar.proofs.FittingLaws.{one_reading, listed_fits, unfit_text, text_unfit}
use Rattle.address_grammar.specs.AddressField.{ListText, AddressField}
use Rattle.address_grammar.proofs.PartListLaws.{written, WrittenParts}
use Rattle.address_grammar.proofs.FormPartsLaws.{value_parts}
use Rattle.address_grammar.proofs.PartsFormLaws.{value_formed}

-- the pieces that code writes for a text that fits
abbrev pub written_pieces : Rules → List ℕ → List Segment
written_pieces rules text = pieces_of rules (turns_of (parts_of rules text))

written_whole : {rules : Rules} {ps : List Part} {text : List ℕ} {segments : List Segment} {changed : Bool} → WrittenParts rules ps text segments changed → pieces_of rules (turns_of ps) ≡ segments
unfolding turns_of turns_from pieces_of
written_whole {ps = ps} {segments = segments} w = rw (append-nil ps, append-nil segments) at (w.written_is [])

-- ---- a text that the grammar makes

module _ {rules : Rules} {text : List ℕ} {pieces : List Segment} {changed : Bool} (v : ListText rules text pieces changed) where
  pub value_list : AddressList rules text
  value_list = let p = value_parts v in record { parts = p.parts; kinds = p.kinds; each = p.written.each; joined = p.written.joined }

  pub value_pieces : written_pieces rules text ≡ pieces
  unfolding value_list
  value_pieces = rw (one_reading rules text value_list) (written_whole (value_parts v).written)

  pub value_examined : examined rules text ≡ cond changed Changed Kept
  unfolding value_list
  value_examined =
      let parts_are : parts_of rules text ≡ (value_parts v).parts = one_reading rules text value_list in
      rw (examined_is rules text, listed_fits rules text value_list, parts_are, (value_parts v).written.changed_is)

-- ---- a text that fits

module _ (rules : Rules) (text : List ℕ) where
  pub fitting_value : fits rules text ≡ true → ListText rules text (written_pieces rules text) (any_changes (parts_of rules text))
  fitting_value h =
      let f = value_formed (parts_of rules text) (parts_made rules text) (fits_made rules text h) in
      let same : f.text ≡ text = sym f.written.joined ∙ parts_joined rules text in
      rw (written_whole f.written, f.written.changed_is) (rw same at f.form)

  pub kept_value : examined rules text ≡ Kept → ListText rules text (written_pieces rules text) false
  kept_value h = let k = kept_examined rules text h in rw k.1 at (fitting_value k.0)

  pub changed_value : examined rules text ≡ Changed → ListText rules text (written_pieces rules text) true
  changed_value h = let k = changed_examined rules text h in rw k.1 at (fitting_value k.0)

  pub unfit_value : {pieces : List Segment} {changed : Bool} → examined rules text ≡ DoesNotFit → ListText rules text pieces changed → ⊥
  unfit_value h v = unfit_text rules text h (value_list v)

  pub value_unfit : ((pieces : List Segment) (changed : Bool) → ListText rules text pieces changed → ⊥) → examined rules text ≡ DoesNotFit
  value_unfit none = text_unfit rules text (λ l. none (written_pieces rules text) (any_changes (parts_of rules text)) (fitting_value (listed_fits rules text l)))

-- ---- what a field becomes

module _ (rules : Rules) (name text : List ℕ) where
  rewritten_pieces : named name (written_pieces rules text) ≡ rewritten_field rules name text
  unfolding rewritten_field
  rewritten_pieces = refl

  -- what code writes is what the grammar makes,
  pub field_made : AddressField rules name text (address_field rules name text)
  unfolding address_field field_by
  field_made = go (examined rules text) refl
    where
      go : (e : Examined) → examined rules text ≡ e → AddressField rules name text (field_by e rules name text)
      go Kept h = rw (← rewritten_pieces) (AddressField.none_replaced (kept_value rules text h))
      go Changed h = rw (← rewritten_pieces) (AddressField.some_replaced (changed_value rules text h))
      go DoesNotFit h = AddressField.encapsulated (λ pieces c v. unfit_value rules text h v)

  -- and it makes nothing else
  pub field_only : {segments : List Segment} → AddressField rules name text segments → address_field rules name text ≡ segments
  unfolding address_field field_by
  field_only (AddressField.none_replaced v) = rw (value_examined v, ← rewritten_pieces, value_pieces v)
  field_only (AddressField.some_replaced v) = rw (value_examined v, ← rewritten_pieces, value_pieces v)
  field_only (AddressField.encapsulated none) = rw (value_unfit rules text none)
