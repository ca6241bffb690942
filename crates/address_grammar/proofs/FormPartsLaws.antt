-- A text that the grammar of AddressField.antt makes has parts that are a comma list, with the same pieces.
use Rattle.std.specs.Prelude.{◌≡◌, Bool, false, ◌||◌, T, drop}
use Rattle.std.proofs.Math.Path.{refl}
use Rattle.std.proofs.Math.Bool.{or-false}
use mathlib.Core.List.{List, [], ◌∷◌, ◌++◌, append_assoc, append-nil, map}
use Prim.Native.Nat.{ℕ, ◌+◌}
use Rattle.std.proofs.Common.{arith}
use Rattle.std.proofs.Math.ListN.{length, take, length-append}
use Rattle.std.proofs.Math.Seq.{drop-append_seam, take-append_seam}
use Rattle.lists.specs.Byte.{is_ascii}
use Rattle.lists.specs.Lists.{all}
use Rattle.lists.specs.ListsLaws.{yes_true, no_false}
use Rattle.rules.specs.declared.Rules.{Rules}
use Rattle.encoded_word.specs.Segments.{Segment}
use Rattle.encoded_word.specs.Segments.Segment.{words}
use Rattle.piece.specs.Piece.{piece}
use Rattle.address_list.specs.Parts.{Part, changes}
use Rattle.address_list.specs.Grammar.{unless_gap, kinds_of, InAngles as AnglesKind, Mailbox as MailboxKinds, Mailboxes as MailboxesKinds, Item as ItemKinds, Items as ItemsKinds}
use Rattle.address_list.specs.declared.PartKind.{PartKind}
use Rattle.address_list.specs.declared.PartKind.TheVariants.{Blank, Comment, Comma, Colon, Semicolon, Phrase as PhraseKind, Address, Angled, Alternative}
use Rattle.group.specs.Group.{is_lost}
use Rattle.address_pieces.specs.Pieces.{phrase_pieces, pieces}
use Rattle.address_grammar.specs.PartGrammar.{IsPart, AngledText, AlternativeText}
use Rattle.address_grammar.specs.AddressField.{Gap, Phrase, InAngles, Mailbox, Mailboxes, Members, Item, Items, ListText}
use Rattle.address_grammar.proofs.PartListLaws.{part, is_unmarked, colon, semicolon, kinds_append, PlainParts, plain_none, plain_one, plain_both, WrittenParts, plain_written, written_both, group_written, lost_written}
use Rattle.address_grammar.proofs.PhraseWordsLaws.{words_phrase, words_are, text_is}

-- ---- forms without a colon or a semicolon

-- a text has parts of such kinds
record Parted (rules : Rules) (K : List PartKind → Type 0) (text : List ℕ) (segments : List Segment) (lost changed : Bool) : Type 0 where
  parts : List Part
  plain : PlainParts rules parts text segments lost changed
  kinds : K (kinds_of parts)

-- the kinds of a gap, of one part, and of what stands in `< >`
abbrev NoKind : List PartKind → Type 0
NoKind ks = ks ≡ []

abbrev OneKind : PartKind → List PartKind → Type 0
OneKind k ks = ks ≡ k ∷ []

record InAnglesKind (ks : List PartKind) : Type 0 where
  kind : PartKind
  is : AnglesKind kind
  one : OneKind kind ks

after_gap : (K : List PartKind → Type 0) (ks ls : List PartKind) → NoKind ks → K ls → K (ks ++ ls)
after_gap K ks ls e k = rw e k

before_gap : (K : List PartKind → Type 0) (ks ls : List PartKind) → K ks → NoKind ls → K (ks ++ ls)
before_gap K ks ls k e = rw (e, append-nil ks) k

-- a mailbox after a comma
record AfterComma (ks : List PartKind) : Type 0 where
  after : List PartKind
  made : ks ≡ Comma ∷ after
  is : MailboxKinds after

after_comma : (ks ls : List PartKind) → OneKind Comma ks → MailboxKinds ls → AfterComma (ks ++ ls)
after_comma ks ls e m = record { after = ls; made = rw e; is = m }

mailboxes_then : (ks ls : List PartKind) → MailboxesKinds ks → AfterComma ls → MailboxesKinds (ks ++ ls)
mailboxes_then ks ls a c = rw c.made (MailboxesKinds.then a c.is)

-- what stands between a group's colon and its semicolon
abbrev InGroup : List PartKind → Type 0
InGroup ks = ItemKinds (PhraseKind ∷ Colon ∷ (ks ++ (Semicolon ∷ [])))

-- the address in a text where it starts after so many bytes
pub inner : (x a y : List ℕ) (n : ℕ) → n ≡ length x → take (length a) (drop n (x ++ (a ++ y))) ≡ a
inner x a y n e = rw (e, drop-append_seam x (a ++ y), take-append_seam a y)

module _ {rules : Rules} where
  parted_one : {K : List PartKind → Type 0} (k : PartKind) {t : List ℕ} → IsPart rules k t → T (is_unmarked (part k t)) → K (unless_gap k []) → Parted rules K t (pieces rules k t) (is_lost k t) (changes k t)
  unfolding kinds_of
  parted_one k {t} p m n = record { parts = part k t ∷ []; plain = plain_one k p m; kinds = n }

  parted_both : {K L : List PartKind → Type 0} (M : List PartKind → Type 0) {t u : List ℕ} {s r : List Segment} {l m c d : Bool} → ((ks ls : List PartKind) → K ks → L ls → M (ks ++ ls))
      → Parted rules K t s l c → Parted rules L u r m d → Parted rules M (t ++ u) (s ++ r) (l || m) (c || d)
  parted_both M join a b = record {
    parts = a.parts ++ b.parts;
    plain = plain_both a.plain b.plain;
    kinds = rw (kinds_append a.parts b.parts) (join (kinds_of a.parts) (kinds_of b.parts) a.kinds b.kinds);
  }

  comma_parts : Parted rules (OneKind Comma) (44 ∷ []) (pieces rules Comma (44 ∷ [])) false false
  unfolding is_lost changes unless_gap
  comma_parts = parted_one Comma refl tt refl

  gap_parts : {g : List ℕ} {p : List Segment} → Gap g p → Parted rules NoKind g p false false
  unfolding kinds_of pieces is_lost changes unless_gap
  gap_parts Gap.none = record { parts = []; plain = plain_none rules; kinds = refl }
  gap_parts (Gap.blank {b} h more) = parted_both NoKind (after_gap NoKind) (parted_one {K = NoKind} Blank (record { byte = b; made = refl; is = h }) tt refl) (gap_parts more)
  gap_parts (Gap.comment h runs more) = parted_both NoKind (after_gap NoKind) (parted_one {K = NoKind} Comment (record { form = h; runs = runs }) tt refl) (gap_parts more)

  followed : {K : List PartKind → Type 0} {t g : List ℕ} {s q : List Segment} {l c : Bool} → Parted rules K t s l c → Gap g q → Parted rules K (t ++ g) (s ++ q) l c
  followed {K} {l = l} {c = c} a g = rw (or-false l, or-false c) at (parted_both K (before_gap K) a (gap_parts g))

  -- ---- a phrase, and what stands in `< >`

  phrase_parts : {f : List ℕ} {p : List Segment} → Phrase f p → Parted rules (OneKind PhraseKind) f p false false
  unfolding pieces phrase_pieces is_lost changes unless_gap
  phrase_parts (Phrase.ascii {t} {ws = ws} h y) =
      let are : phrase_pieces t ≡ map piece ws = rw (yes_true (all is_ascii t) y, words_are h) in
      rw are at (parted_one {K = OneKind PhraseKind} PhraseKind (words_phrase h) tt refl)
  phrase_parts (Phrase.other {t} {meant} h n) =
      let are : phrase_pieces t ≡ words meant ∷ [] = rw (no_false (all is_ascii t) n, text_is h) in
      rw are at (parted_one {K = OneKind PhraseKind} PhraseKind (words_phrase h) tt refl)

  angles_parts : {a : List ℕ} {p : List Segment} {l c : Bool} → InAngles rules a p l c → Parted rules InAnglesKind a p l c
  unfolding pieces is_lost changes unless_gap
  angles_parts (InAngles.sole gap {a} b h) =
      let start : ℕ = 1 + length gap in
      let size : ℕ = length a in
      let t : List ℕ = 60 ∷ (gap ++ (a ++ (62 ∷ []))) in
      let there : take size (drop start t) ≡ a = inner (60 ∷ gap) a (62 ∷ []) start (omega arith) in
      let is : AngledText start size t = record { gap = gap; address = a; made = refl; blanks = b; is = h; start_is = refl; size_is = refl } in
      rw there at (parted_one {K = InAnglesKind} (Angled start size) is tt (record { kind = Angled start size; is = AnglesKind.address start size; one = refl }))
  angles_parts (InAngles.alternative gap gap₂ {a} {between} {b} allowed g h n o g₂ h₂ y) =
      let start : ℕ = 1 + length gap + length a + length between + 1 + length gap₂ in
      let size : ℕ = length b in
      let t : List ℕ = 60 ∷ (gap ++ (a ++ (between ++ (60 ∷ (gap₂ ++ (b ++ (62 ∷ 62 ∷ []))))))) in
      let before : List ℕ = 60 ∷ (gap ++ (a ++ (between ++ (60 ∷ gap₂)))) in
      let whole : before ++ (b ++ (62 ∷ 62 ∷ [])) ≡ t = simp append_assoc in
      let long : start ≡ length before = simp length-append (omega arith) in
      let there : take size (drop start t) ≡ b = rw whole at (inner before b (62 ∷ 62 ∷ []) start long) in
      let is : AlternativeText rules start size t =
      record {
        allowed = allowed;
        gap = gap;
        first = a;
        between = between;
        gap₂ = gap₂;
        alternative = b;
        made = refl;
        blanks = g;
        first_is = h;
        first_high = n;
        apart = o;
        blanks₂ = g₂;
        alternative_is = h₂;
        alternative_ascii = y;
        start_is = refl;
        size_is = refl;
      } in
      rw there at (parted_one {K = InAnglesKind} (Alternative start size) is tt (record { kind = Alternative start size; is = AnglesKind.alternative start size; one = refl }))

  -- ---- mailboxes

  mailbox_parts : {m : List ℕ} {p : List Segment} {l c : Bool} → Mailbox rules m p l c → Parted rules MailboxKinds m p l c
  unfolding pieces is_lost changes unless_gap
  mailbox_parts (Mailbox.bare h g) = followed (parted_one {K = MailboxKinds} Address h tt MailboxKinds.bare) g
  mailbox_parts (Mailbox.angled h g) = followed (record { parts = (angles_parts h).parts; plain = (angles_parts h).plain; kinds = only (angles_parts h).kinds }) g
    where
      only : {ks : List PartKind} → InAnglesKind ks → MailboxKinds ks
      only a = rw a.one (MailboxKinds.angled a.is)
  mailbox_parts (Mailbox.named f g h i) =
      parted_both MailboxKinds named (phrase_parts f) (parted_both InAnglesKind (after_gap InAnglesKind) (gap_parts g) (followed (angles_parts h) i))
    where
      named : (ks ls : List PartKind) → OneKind PhraseKind ks → InAnglesKind ls → MailboxKinds (ks ++ ls)
      named ks ls e a = rw (e, a.one) (MailboxKinds.named a.is)

  mailboxes_parts : {m : List ℕ} {p : List Segment} {l c : Bool} → Mailboxes rules m p l c → Parted rules MailboxesKinds m p l c
  unfolding pieces
  mailboxes_parts (Mailboxes.one h) = let a = mailbox_parts h in record { parts = a.parts; plain = a.plain; kinds = MailboxesKinds.one a.kinds }
  mailboxes_parts (Mailboxes.then more g h) =
      parted_both MailboxesKinds mailboxes_then (mailboxes_parts more) (parted_both AfterComma after_comma comma_parts (parted_both MailboxKinds (after_gap MailboxKinds) (gap_parts g) (mailbox_parts h)))

  members_parts : {m : List ℕ} {p : List Segment} {l c : Bool} → Members rules m p l c → Parted rules InGroup m p l c
  members_parts (Members.none g) = let a = gap_parts g in record { parts = a.parts; plain = a.plain; kinds = rw a.kinds ItemKinds.empty_group }
  members_parts (Members.some g h) = parted_both InGroup (λ ks ls e k. rw e (ItemKinds.group k)) (gap_parts g) (mailboxes_parts h)

-- ---- items

-- a text has parts of such kinds, which may have groups
pub record ItemParted (rules : Rules) (K : List PartKind → Type 0) (text : List ℕ) (segments : List Segment) (changed : Bool) : Type 0 where
  pub parts : List Part
  pub written : WrittenParts rules parts text segments changed
  pub kinds : K (kinds_of parts)

-- a phrase, a gap, and a group from its colon on, with the kinds between its colon and its semicolon
group_kinds : (fs gs ms hs : List Part) → OneKind PhraseKind (kinds_of fs) → NoKind (kinds_of gs) → InGroup (kinds_of ms) → NoKind (kinds_of hs)
    → ItemKinds (kinds_of (fs ++ (gs ++ (colon ∷ (ms ++ (semicolon ∷ hs))))))
unfolding kinds_of unless_gap
group_kinds fs gs ms hs f g m h =
    rw (kinds_append fs (gs ++ (colon ∷ (ms ++ (semicolon ∷ hs)))), kinds_append gs (colon ∷ (ms ++ (semicolon ∷ hs))), kinds_append ms (semicolon ∷ hs), f, g, h) m

items_then : (is js : List Part) → ItemKinds (kinds_of is) → (gs : List Part) → NoKind (kinds_of gs) → ItemsKinds (kinds_of js) → ItemsKinds (kinds_of (is ++ (part Comma (44 ∷ []) ∷ (gs ++ js))))
unfolding kinds_of unless_gap
items_then is js i gs g j = rw (kinds_append is (part Comma (44 ∷ []) ∷ (gs ++ js)), kinds_append gs js, g) (ItemsKinds.then i j)

module _ {rules : Rules} where
  -- a phrase and a gap, and a group from its colon on, with the gap after it
  grouped : {f g h t : List ℕ} {p q s r : List Segment} {c : Bool} → Phrase f p → Gap g q → (ms : List Part) → InGroup (kinds_of ms) → (e : Gap h s)
      → WrittenParts rules (colon ∷ (ms ++ (semicolon ∷ (gap_parts {rules = rules} e).parts))) t r (c || false) → ItemParted rules ItemKinds (f ++ (g ++ t)) (p ++ (q ++ r)) c
  grouped {c = c} h g ms k e w =
      let f = phrase_parts {rules = rules} h in
      let a = gap_parts {rules = rules} g in
      let d = gap_parts {rules = rules} e in
      record {
        parts = f.parts ++ (a.parts ++ (colon ∷ (ms ++ (semicolon ∷ d.parts))));
        written = rw (or-false c) at (written_both (plain_written f.plain) (written_both (plain_written a.plain) w));
        kinds = group_kinds f.parts a.parts ms d.parts f.kinds a.kinds k d.kinds;
      }

  item_parts : {i : List ℕ} {p : List Segment} {c : Bool} → Item rules i p c → ItemParted rules ItemKinds i p c
  item_parts (Item.mailbox h) = let a = mailbox_parts h in record { parts = a.parts; written = plain_written a.plain; kinds = ItemKinds.mailbox a.kinds }
  item_parts (Item.group h g m e) = let b = members_parts m in grouped h g b.parts b.kinds e (group_written b.plain (plain_written (gap_parts e).plain))
  item_parts (Item.lost_group h g m e) = let b = members_parts m in grouped h g b.parts b.kinds e (lost_written b.plain (plain_written (gap_parts e).plain))

  items_parts : {i : List ℕ} {p : List Segment} {c : Bool} → Items rules i p c → ItemParted rules ItemsKinds i p c
  unfolding pieces is_lost changes
  items_parts (Items.one h) = let a = item_parts h in record { parts = a.parts; written = a.written; kinds = ItemsKinds.one a.kinds }
  items_parts (Items.then h g more) =
      let a = item_parts h in
      let b = gap_parts {rules = rules} g in
      let d = items_parts more in
      record {
        parts = a.parts ++ (part Comma (44 ∷ []) ∷ (b.parts ++ d.parts));
        written = written_both a.written (written_both (plain_written (plain_one Comma refl tt)) (written_both (plain_written b.plain) d.written));
        kinds = items_then a.parts d.parts a.kinds b.parts b.kinds d.kinds;
      }

  pub value_parts : {t : List ℕ} {p : List Segment} {c : Bool} → ListText rules t p c → ItemParted rules ItemsKinds t p c
  value_parts (ListText.list g h) =
      let a = gap_parts {rules = rules} g in
      let b = items_parts h in
      record {
        parts = a.parts ++ b.parts;
        written = written_both (plain_written a.plain) b.written;
        kinds = rw (kinds_append a.parts b.parts, a.kinds) b.kinds;
      }
