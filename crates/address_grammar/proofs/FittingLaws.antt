-- A text fits exactly if it is a comma list of mailboxes or groups, down to its bytes.
use Rattle.std.specs.Prelude.{◌≡◌, refl, Bool, true, false, ◌||◌, List, [], ◌∷◌, ◌++◌, ℕ, suc, ◌+◌, ◌-◌, ◌<◌, T, length, take, drop, get_or}
use Rattle.std.proofs.Common.{ap, sym, ◌∙◌, append_assoc, not-suc-le-zero, arith, length-append, drop-drop, get_or-drop}
use Rattle.std.proofs.Math.Seq.{drop-append_seam, get_or-append_seam, take-append_seam}
use Rattle.std.proofs.Math.Facts.{and_yes, yes_and}
use Rattle.lists.specs.Byte.{is_ascii}
use Rattle.lists.specs.Lists.{all, nonempty}
use Rattle.lists.specs.ListsLaws.{yes_true, no_false}
use Rattle.lists.specs.Run.{run}
use Rattle.line.specs.Line.{blank}
use Rattle.address.specs.Address.{is_atext, is_atom_byte}
use Rattle.address.specs.AddressLaws.{front_byte}
use Rattle.address.specs.GrammarLaws.{Closed}
use Rattle.comment.specs.Parts.{parts, fits as run_fits}
use Rattle.comment.specs.Grammar.{Comment as CommentForm}
use Rattle.comment.proofs.GrammarLaws.{comment_taken}
use Rattle.rules.specs.Rules.{allows_alternative}
use Rattle.rules.specs.declared.Rules.{Rules}
use Rattle.phrase.specs.Words.{address_len}
use Rattle.address_list.specs.Parts.{Part, front, angled_at, comment_at, named_at, part_at, parts_from, parts_of}
use Rattle.address_list.specs.PartsLaws.{parts_front, parts_end, named_address, named_phrase, comment_there, angled_there, angled_more, alternative_there}
use Rattle.address_list.specs.Grammar.{unless_gap, kinds_of}
use Rattle.address_list.specs.Table.{after, complete, fits, examined}
use Rattle.address_list.specs.TableLaws.{after_stray, complete_unfit}
use Rattle.address_list.specs.declared.PartKind.{PartKind}
use Rattle.address_list.specs.declared.PartKind.TheVariants.{Blank, Comment, Comma, Colon, Semicolon, Phrase, Address, Angled, Alternative, Stray}
use Rattle.address_list.specs.declared.State.{State}
use Rattle.address_list.specs.declared.State.TheVariants.{ItemDue}
use Rattle.address_list.specs.declared.Examined.TheVariants.{DoesNotFit}
use Rattle.address_grammar.specs.PartGrammar.{CommentText, PhraseText, AngledText, AlternativeText, OneByte, IsPart, EachIsPart, joined_parts, AddressList}
use Rattle.address_grammar.specs.PartTexts.{AddressText, Blanks, SomeBlanks}
use Rattle.address_grammar.proofs.PartGrammarLaws.{parts_made, parts_joined}
use Rattle.address_grammar.proofs.GrammarLaws.{false_true, is_mark, opens_with_mark, mark_between, items_marked, fits_made, made_complete, made_fits, examined_unfit, unfit_examined}
use Rattle.address_grammar.proofs.FoundLaws.{starting, starts, ending, Ended, ended_apart, stops_blanks, apart_closed, run_whole, some_length, phrase_starts, phrase_no_address, phrase_found, phrase_some, address_starts, address_some, address_found}

-- a text that fits is such a list
pub fitting_text : (rules : Rules) (text : List ℕ) → fits rules text ≡ true → AddressList rules text
fitting_text rules text h = record { parts = parts_of rules text; kinds = fits_made rules text h; each = parts_made rules text; joined = parts_joined rules text }

-- ---- what follows a phrase or a bare address

after_blank : {t y : List ℕ} → OneByte (λ b. T (blank b)) t → Ended y → Ended (t ++ y)
after_blank {t} {y} p r = record {
  gap = p.byte ∷ r.gap;
  tail = r.tail;
  made = rw (p.made, r.made);
  blanks = yes_and (blank p.byte) (all blank r.gap) p.is r.blanks;
  ends = r.ends;
}

after_mark : {t : List ℕ} (b : ℕ) (more y : List ℕ) → T (ending b) → t ≡ b ∷ more → Ended (t ++ y)
after_mark {t} b more y m e = record { gap = []; tail = t ++ y; made = refl; blanks = tt; ends = rw e m }

-- a comment starts with `(`
comment_opens : {t : List ℕ} → CommentForm t → (y : List ℕ) → get_or (t ++ y) 0 0 ≡ 40
comment_opens (CommentForm.comment i) y = refl

after_comment : {t : List ℕ} → CommentText t → (y : List ℕ) → Ended (t ++ y)
unfolding ending
after_comment {t} p y = record { gap = []; tail = t ++ y; made = refl; blanks = tt; ends = rw (comment_opens p.form y) tt }

-- the next part that is not blank opens with a mark, or is a comment
ended_next : (rules : Rules) (k l : PartKind) (t : List ℕ) (ps : List Part) → is_mark k ≡ false → T (mark_between (k ∷ unless_gap l (kinds_of ps))) → IsPart rules l t
    → (T (mark_between (k ∷ kinds_of ps)) → Ended (joined_parts ps)) → Ended (t ++ joined_parts ps)
unfolding unless_gap ending
ended_next rules k Blank t ps n m p more = after_blank p (more m)
ended_next rules k Comment t ps n m p more = after_comment p (joined_parts ps)
ended_next rules k Comma t ps n m p more = after_mark 44 [] (joined_parts ps) tt p
ended_next rules k Colon t ps n m p more = after_mark 58 [] (joined_parts ps) tt p
ended_next rules k Semicolon t ps n m p more = after_mark 59 [] (joined_parts ps) tt p
ended_next rules k (Angled start size) t ps n m p more = after_mark 60 _ (joined_parts ps) tt p.made
ended_next rules k (Alternative start size) t ps n m p more = after_mark 60 _ (joined_parts ps) tt p.made
ended_next rules k Phrase t ps n m p more = absurd (rw n at m)
ended_next rules k Address t ps n m p more = absurd (rw n at m)
ended_next rules k Stray t ps n m p more = absurd (rw n at m)

ended_rest : (rules : Rules) (k : PartKind) (ps : List Part) → is_mark k ≡ false → T (mark_between (k ∷ kinds_of ps)) → EachIsPart rules ps → Ended (joined_parts ps)
unfolding kinds_of ending
ended_rest rules k [] n m e = record { gap = []; tail = []; made = refl; blanks = tt; ends = tt }
ended_rest rules k (p ∷ ps) n m e = ended_next rules k p.kind p.text ps n m e.0 (λ h. ended_rest rules k ps n h e.1)

-- between the parts after the first
marked_more : (k : PartKind) (ks : List PartKind) → T (mark_between (k ∷ ks)) → T (mark_between ks)
marked_more k [] m = tt
marked_more k (l ∷ ks) m = (and_yes (is_mark k || opens_with_mark l) (mark_between (l ∷ ks)) m).1

marked_rest : (k : PartKind) (ks : List PartKind) → T (mark_between (unless_gap k ks)) → T (mark_between ks)
unfolding unless_gap
marked_rest Blank ks m = m
marked_rest Comment ks m = m
marked_rest Comma ks m = marked_more Comma ks m
marked_rest Colon ks m = marked_more Colon ks m
marked_rest Semicolon ks m = marked_more Semicolon ks m
marked_rest Phrase ks m = marked_more Phrase ks m
marked_rest Address ks m = marked_more Address ks m
marked_rest (Angled start size) ks m = marked_more (Angled start size) ks m
marked_rest (Alternative start size) ks m = marked_more (Alternative start size) ks m
marked_rest Stray ks m = marked_more Stray ks m

-- ---- a part that the grammar makes is found

record Found (rules : Rules) (s : List ℕ) (kind : PartKind) (size : ℕ) : Type 0 where
  is : front kind size ≡ part_at rules s
  some : 0 < size

whole_found : {rules : Rules} {s : List ℕ} (k : PartKind) (n : ℕ) → front k n ≡ part_at rules s → 0 < n → Found rules s k n
whole_found k n e p = record { is = e; some = p }

blank_found : {rules : Rules} {t : List ℕ} → OneByte (λ b. T (blank b)) t → (y : List ℕ) → Found rules (t ++ y) Blank (length t)
unfolding part_at
blank_found p y = rw p.made (whole_found Blank 1 (rw (yes_true (blank p.byte) p.is)) (omega arith))

mark_found : {rules : Rules} {t : List ℕ} (k : PartKind) (b : ℕ) → t ≡ b ∷ [] → (y : List ℕ) → front k 1 ≡ part_at rules (b ∷ y) → Found rules (t ++ y) k (length t)
mark_found k b p y e = rw p (whole_found k 1 e (omega arith))

named_part : (rules : Rules) (s : List ℕ) → T (starting (get_or s 0 0)) → named_at s ≡ part_at rules s
unfolding part_at
named_part rules s t = let n = starts (get_or s 0 0) t in rw (n.no_blank, n.no_comma, n.no_colon, n.no_semicolon, n.no_bracket, n.no_paren)

bare_found : {rules : Rules} {t : List ℕ} → AddressText t → (y : List ℕ) → Ended y → Found rules (t ++ y) Address (length t)
bare_found {rules} {t} p y r =
    whole_found Address (length t)
    (named_address (t ++ y) (length t) (sym (address_found p y (apart_closed (ended_apart r)))) (λ z. not-suc-le-zero {n = 0} (omega (arith, address_some p))) ∙ named_part rules (t ++ y) (address_starts p y))
    (address_some p)

phrase_part : {rules : Rules} {t : List ℕ} → PhraseText t → (y : List ℕ) → Ended y → Found rules (t ++ y) Phrase (length t)
phrase_part {rules} {t} p y r =
    whole_found Phrase (length t)
    (named_phrase (t ++ y) 0 (sym (phrase_no_address p y r)) refl (length t) (sym (phrase_found p y r)) (λ z. not-suc-le-zero {n = 0} (omega (arith, phrase_some p))) ∙ named_part rules (t ++ y) (phrase_starts p y r))
    (phrase_some p)

comment_some : {t : List ℕ} → CommentForm t → 0 < length t
comment_some (CommentForm.comment i) = omega arith

comment_part : (rules : Rules) (s : List ℕ) → get_or s 0 0 ≡ 40 → comment_at s ≡ part_at rules s
unfolding part_at blank
comment_part rules s e = rw e

comment_found : {rules : Rules} {t : List ℕ} → CommentText t → (y : List ℕ) → Found rules (t ++ y) Comment (length t)
comment_found {rules} {t} p y =
    let runs : all run_fits (parts (take (length t) (t ++ y))) ≡ true = rw (take-append_seam t y) (yes_true (all run_fits (parts t)) p.runs) in
    whole_found Comment (length t)
    (comment_there (t ++ y) (length t) (omega (arith, comment_taken p.form y)) (λ z. not-suc-le-zero {n = 0} (omega (arith, comment_some p.form))) runs ∙ comment_part rules (t ++ y) (comment_opens p.form y))
    (comment_some p.form)

bracket_part : (rules : Rules) (y : List ℕ) → angled_at rules (60 ∷ y) ≡ part_at rules (60 ∷ y)
unfolding part_at blank
bracket_part rules y = refl

close_closed : (y : List ℕ) → Closed (62 ∷ y)
unfolding is_atom_byte is_atext
close_closed y = record { atom = refl; dot = refl }

-- blanks before an address
gap_run : (gap : List ℕ) {a : List ℕ} → Blanks gap → AddressText a → (y : List ℕ) → run blank (gap ++ (a ++ y)) ≡ length gap
gap_run gap {a} b h y = run_whole blank gap (a ++ y) b (starts (get_or (a ++ y) 0 0) (address_starts h y)).no_blank

no_address : {a : List ℕ} → AddressText a → length a ≡ 0 → ⊥
no_address h z = not-suc-le-zero {n = 0} (omega (arith, address_some h))

angled_found : {rules : Rules} {start size : ℕ} {t : List ℕ} → AngledText start size t → (y : List ℕ) → Found rules (t ++ y) (Angled start size) (length t)
angled_found {rules} {start} {size} {t} p y =
    let gap = p.gap in
    let address = p.address in
    let s : List ℕ = 60 ∷ (gap ++ (address ++ (62 ∷ y))) in
    let whole : t ++ y ≡ s = rw (p.made, append_assoc gap (address ++ (62 ∷ [])) y, append_assoc address (62 ∷ []) y) in
    let a = suc (length gap) in
    let n = length address in
    let before : run blank (drop 1 s) ≡ length gap = gap_run gap p.blanks p.is (62 ∷ y) in
    let from : drop a s ≡ address ++ (62 ∷ y) = drop-append_seam gap (address ++ (62 ∷ y)) in
    let qs : a ≡ 1 + run blank (drop 1 s) = omega (arith, before) in
    let qz : n ≡ address_len (drop a s) = rw from (sym (address_found p.is (62 ∷ y) (close_closed y))) in
    let close : get_or s (a + n) 0 ≡ 62 = sym (get_or-drop a s n 0) ∙ rw from (get_or-append_seam address 62 y 0) in
    let size_is : a + n + 1 ≡ length t = omega (arith, ap length p.made, length-append gap (address ++ (62 ∷ [])), length-append address (62 ∷ [])) in
    let start_is : start ≡ a = omega (arith, p.start_is) in
    rw (whole, start_is, p.size_is, ← size_is)
    (whole_found (Angled a n) (a + n + 1) (angled_there rules s a n qs qz (no_address p.is) close ∙ bracket_part rules (gap ++ (address ++ (62 ∷ y)))) (omega arith))

beyond : (s : List ℕ) (i : ℕ) (x y : List ℕ) → drop i s ≡ x ++ y → drop (i + length x) s ≡ y
beyond s i x y e = sym (drop-drop (length x) i s) ∙ rw e (drop-append_seam x y)

blanks_first : {gap : List ℕ} → SomeBlanks gap → (y : List ℕ) → T (blank (get_or (gap ++ y) 0 0))
blanks_first {gap} g y = go gap g.some g.blanks
  where
    go : (gap : List ℕ) → T (nonempty gap) → Blanks gap → T (blank (get_or (gap ++ y) 0 0))
    go [] s t = absurd s
    go (b ∷ gap) s t = (and_yes (blank b) (all blank gap) t).0

bracket_no_blank : blank 60 ≡ false
unfolding blank
bracket_no_blank = refl

close_no_blank : (b : ℕ) → T (blank b) → b ≡ 62 → ⊥
unfolding blank
close_no_blank b t e = rw e at t

alternative_found : {rules : Rules} {start size : ℕ} {t : List ℕ} → AlternativeText rules start size t → (y : List ℕ) → Found rules (t ++ y) (Alternative start size) (length t)
alternative_found {rules} {start} {size} {t} p y =
    let gap = p.gap in
    let first = p.first in
    let between = p.between in
    let gap₂ = p.gap₂ in
    let other = p.alternative in
    let y₃ : List ℕ = other ++ (62 ∷ 62 ∷ y) in
    let y₂ : List ℕ = 60 ∷ (gap₂ ++ y₃) in
    let y₁ : List ℕ = between ++ y₂ in
    let s : List ℕ = 60 ∷ (gap ++ (first ++ y₁)) in
    let whole : t ++ y ≡ s =
    rw (
      p.made,
      append_assoc gap (first ++ (between ++ (60 ∷ (gap₂ ++ (other ++ (62 ∷ 62 ∷ [])))))) y,
      append_assoc first (between ++ (60 ∷ (gap₂ ++ (other ++ (62 ∷ 62 ∷ []))))) y,
      append_assoc between (60 ∷ (gap₂ ++ (other ++ (62 ∷ 62 ∷ [])))) y,
      append_assoc gap₂ (other ++ (62 ∷ 62 ∷ [])) y,
      append_assoc other (62 ∷ 62 ∷ []) y,
    ) in
    let a = suc (length gap) in
    let n = length first in
    let b = a + n in
    let inner = b + length between in
    let from = inner + 1 + length gap₂ in
    let m = length other in
    let end = from + m in
    let d₁ : drop a s ≡ first ++ y₁ = drop-append_seam gap (first ++ y₁) in
    let d₂ : drop b s ≡ between ++ y₂ = beyond s a first y₁ d₁ in
    let d₃ : drop inner s ≡ y₂ = beyond s b between y₂ d₂ in
    let d₄ : drop (inner + 1) s ≡ gap₂ ++ y₃ = sym (drop-drop 1 inner s) ∙ rw d₃ in
    let d₅ : drop from s ≡ other ++ (62 ∷ 62 ∷ y) = beyond s (inner + 1) gap₂ y₃ d₄ in
    let d₆ : drop end s ≡ 62 ∷ 62 ∷ y = beyond s from other (62 ∷ 62 ∷ y) d₅ in
    let before : run blank (drop 1 s) ≡ length gap = gap_run gap p.blanks p.first_is y₁ in
    let qs : a ≡ 1 + run blank (drop 1 s) = omega (arith, before) in
    let qn : n ≡ address_len (drop a s) = rw d₁ (sym (address_found p.first_is y₁ (apart_closed (stops_blanks p.apart y₂)))) in
    let qi : inner ≡ b + run blank (drop b s) = rw (d₂, run_whole blank between y₂ p.apart.blanks bracket_no_blank) in
    let qf : from ≡ inner + 1 + run blank (drop (inner + 1) s) = rw (d₄, gap_run gap₂ p.blanks₂ p.alternative_is (62 ∷ 62 ∷ y)) in
    let qm : m ≡ address_len (drop from s) = rw d₅ (sym (address_found p.alternative_is (62 ∷ 62 ∷ y) (close_closed (62 ∷ y)))) in
    let apart : get_or s b 0 ≡ 62 → ⊥ = close_no_blank (get_or s b 0) (rw (← front_byte s b, d₂) (blanks_first p.apart y₂)) in
    let high : all is_ascii (take (b - a) (drop a s)) ≡ false = (let w : b - a ≡ n = omega arith in rw (w, d₁, take-append_seam first y₁) (no_false (all is_ascii first) p.first_high)) in
    let ascii : all is_ascii (take (end - from) (drop from s)) ≡ true =
    (let w : end - from ≡ m = omega arith in rw (w, d₅, take-append_seam other (62 ∷ 62 ∷ y)) (yes_true (all is_ascii other) p.alternative_ascii)) in
    let opens : get_or s inner 0 ≡ 60 = sym (front_byte s inner) ∙ rw d₃ in
    let close : get_or s end 0 ≡ 62 = sym (front_byte s end) ∙ rw d₆ in
    let close₂ : get_or s (end + 1) 0 ≡ 62 = sym (get_or-drop end s 1 0) ∙ rw d₆ in
    let gap_some : b < inner = omega (arith, some_length between p.apart.some) in
    let size_is : end + 2 ≡ length t =
    omega (
      arith,
      ap length p.made,
      length-append gap (first ++ (between ++ (60 ∷ (gap₂ ++ (other ++ (62 ∷ 62 ∷ [])))))),
      length-append first (between ++ (60 ∷ (gap₂ ++ (other ++ (62 ∷ 62 ∷ []))))),
      length-append between (60 ∷ (gap₂ ++ (other ++ (62 ∷ 62 ∷ [])))),
      length-append gap₂ (other ++ (62 ∷ 62 ∷ [])),
      length-append other (62 ∷ 62 ∷ []),
    ) in
    let start_is : start ≡ from = omega (arith, p.start_is) in
    rw (whole, start_is, p.size_is, ← size_is)
    (whole_found (Alternative from m) (end + 2)
    (alternative_there s a b inner from m qi qf qm high gap_some opens (address_some p.alternative_is) close close₂ ascii
    ∙ angled_more rules s a n qs qn (no_address p.first_is) apart (yes_true (allows_alternative rules) p.allowed) ∙ bracket_part rules (gap ++ (first ++ y₁)))
    (omega arith))

part_found : (rules : Rules) (k : PartKind) (t : List ℕ) (state : State) (ps : List Part) → complete (after state k) ps ≡ true → T (mark_between (unless_gap k (kinds_of ps)))
    → IsPart rules k t → EachIsPart rules ps → Found rules (t ++ joined_parts ps) k (length t)
unfolding unless_gap part_at blank
part_found rules Blank t state ps h m p e = blank_found p (joined_parts ps)
part_found rules Comment t state ps h m p e = comment_found p (joined_parts ps)
part_found rules Comma t state ps h m p e = mark_found Comma 44 p (joined_parts ps) refl
part_found rules Colon t state ps h m p e = mark_found Colon 58 p (joined_parts ps) refl
part_found rules Semicolon t state ps h m p e = mark_found Semicolon 59 p (joined_parts ps) refl
part_found rules Phrase t state ps h m p e = phrase_part p (joined_parts ps) (ended_rest rules Phrase ps refl m e)
part_found rules Address t state ps h m p e = bare_found p (joined_parts ps) (ended_rest rules Address ps refl m e)
part_found rules (Angled start size) t state ps h m p e = angled_found p (joined_parts ps)
part_found rules (Alternative start size) t state ps h m p e = alternative_found p (joined_parts ps)
part_found rules Stray t state ps h m p e = false_true (sym (complete_unfit ps) ∙ (rw (after_stray state) at h))

-- ---- a list that the grammar makes fits

joined_parts_lem : (rules : Rules) (state : State) (ps : List Part) → complete state ps ≡ true → T (mark_between (kinds_of ps)) → EachIsPart rules ps → parts_from rules 0 (joined_parts ps) ≡ ps
unfolding complete kinds_of
joined_parts_lem rules state [] h m e = parts_end rules [] 0 (omega arith)
joined_parts_lem rules state (p ∷ ps) h m e =
    let text = p.text in
    let rest = joined_parts ps in
    let s = text ++ rest in
    let n = length text in
    let f = part_found rules p.kind text state ps h m e.0 e.1 in
    let long : 0 < length s = omega (arith, f.some, length-append text rest) in
    let more = joined_parts_lem rules (after state p.kind) ps h (marked_rest p.kind (kinds_of ps) m) e.1 in
    parts_front rules (front p.kind n) s f.is f.some long ∙ rw (take-append_seam text rest, drop-append_seam text rest, more)

-- a text is such a list in one way only
pub one_reading : (rules : Rules) (text : List ℕ) (l : AddressList rules text) → parts_of rules text ≡ l.parts
unfolding parts_of
one_reading rules text l = rw l.joined at (joined_parts_lem rules ItemDue l.parts (made_complete l.parts l.kinds) (items_marked l.kinds) l.each)

-- such a list fits
pub listed_fits : (rules : Rules) (text : List ℕ) → AddressList rules text → fits rules text ≡ true
listed_fits rules text l = made_fits rules text (rw (one_reading rules text l) l.kinds)

-- `DoesNotFit` is told exactly of the other texts
pub unfit_text : (rules : Rules) (text : List ℕ) → examined rules text ≡ DoesNotFit → AddressList rules text → ⊥
unfit_text rules text h l = false_true (sym (unfit_examined rules text h) ∙ listed_fits rules text l)

pub text_unfit : (rules : Rules) (text : List ℕ) → (AddressList rules text → ⊥) → examined rules text ≡ DoesNotFit
text_unfit rules text none = examined_unfit rules text (go (fits rules text) refl)
  where
    go : (b : Bool) → fits rules text ≡ b → fits rules text ≡ false
    go true e = absurd (none (fitting_text rules text e))
    go false e = e
