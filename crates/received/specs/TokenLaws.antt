-- What becomes of a Received field's value from a place on, token by token.
use Rattle.std.proofs.Common.{◌⊎◌, inl, inr, ne_eqb, sym, ap, ◌∙◌, append-nil, not-suc-le-zero, arith}
use Rattle.std.specs.Prelude.{◌≡◌, refl, Bool, true, false, not, ◌&&◌, ◌||◌, List, [], ◌∷◌, ◌++◌, ℕ, ◌+◌, ◌-◌, ◌≤◌, ◌<◌, eqb, length, take, drop, get_or}
use Rattle.lists.specs.Byte.{is_ascii}
use Rattle.lists.specs.Lists.{all}
use Rattle.lists.specs.ListsLaws.{true_yes}
use Rattle.lists.specs.Run.{run}
use Rattle.encoded_word.specs.Segments.{rendered}
use Rattle.encoded_word.specs.SegmentsLaws.{rendered_append}
use Rattle.structured_token.specs.Tokens.{is_white, is_plain, ends_space, calm_len}
use Rattle.structured_token.specs.Walk.{clear_all, becoming}
use Rattle.structured_token.proofs.WalkLaws.{At, clear_over, becoming_over, clear_at, becoming_at}
use Rattle.structured_field.specs.CalmLaws.{Calm, calm_clear, calm_bytes, lone_space, structured_calm}
use Rattle.received_token.specs.Clause.{white_len}
use Rattle.received_token.specs.Tokens.{starts_for, received_size, goes_on, Took}
use Rattle.received_token.proofs.TokensLaws.{no_for}
use Rattle.received_token.specs.declared.ReceivedKind.{ReceivedKind}
use Rattle.received_token.specs.declared.ReceivedKind.TheVariants.{Comment, Clause, BareFor, Open, Other}
use Rattle.received.specs.Received.{Place, clear, becomes, received_front, value_clear, value_segments}
use Rattle.received.specs.Received.Place.{place}
use Rattle.received.specs.FrontLaws.{begun, token_front_lem}
use Rattle.received.specs.CommentLinesLaws.{comment_bytes}

-- ---- bytes that stay as they came may be passed over together, past the start of the value

plain_white : (b : ℕ) → is_plain b ≡ true → is_white b ≡ false
plain_white b e = go (is_white b) (eqb b 34) (eqb b 40) (eqb b 59) e
  where
    go : (x y z w : Bool) → not (x || y || z || w) ≡ true → x ≡ false
    go false y z w e = refl
    go true y z w e = absurd (true_yes false e)

no_start : (b : ℕ) (s : List ℕ) → is_white b ≡ false → starts_for false (b ∷ s) ≡ false
unfolding starts_for
no_start b s e = rw e

space_size : (s : List ℕ) → ends_space (get_or s 0 0) ≡ true → white_len (32 ∷ s) ≡ 1
unfolding white_len run
space_size s e = rw (lone_space s e)

space_alone : (s : List ℕ) → ends_space (get_or s 0 0) ≡ true → starts_for false (32 ∷ s) ≡ false
unfolding starts_for
space_alone s e =
    let b = get_or s 0 0 in
    let n = no_letter (is_white b) (eqb b 102) (eqb b 70) e in
    rw (space_size s e, no_for s n.0 n.1)
  where
    no_letter : (x y z : Bool) → not (x || y || z) ≡ true → (y ≡ false) × (z ≡ false)
    no_letter false false false e = (refl, refl)
    no_letter false false true e = absurd (true_yes false e)
    no_letter false true z e = absurd (true_yes false e)
    no_letter true y z e = absurd (true_yes false e)

module _ (comments : Bool) where
  pub received_calm : Calm received_front (place comments false)
  received_calm =
      let k = structured_calm comments in
      record {
        plain = λ b s e. token_front_lem comments false (b ∷ s) (no_start b s (plain_white b e)) ∙ ap begun (k.plain b s e);
        semicolon = λ s. token_front_lem comments false (59 ∷ s) (no_start 59 s refl) ∙ ap begun (k.semicolon s);
        space = λ s e. token_front_lem comments false (32 ∷ s) (space_alone s e) ∙ ap begun (k.space s e);
      }

-- ---- by position

pub clear_start : (value : List ℕ) → value_clear value ≡ clear_all received_front (place true true) (drop 0 value)
unfolding value_clear
clear_start value = refl

module _ (at : Place) (s : List ℕ) (i : ℕ) (h : length s ≤ i) where
  pub clear_none : clear_all received_front at (drop i s) ≡ true
  clear_none = clear_over received_front at s i h

  pub bytes_none : rendered (becoming received_front at (drop i s)) ≡ []
  unfolding rendered
  bytes_none = rw (becoming_over received_front at s i h)

module _ {comments on : Bool} {s : List ℕ} {i e : ℕ} {what : ReceivedKind} (h : i < length s) (t : Took comments s i what e) (o : on ≡ goes_on comments what) where
  at_token : At received_front (place comments (eqb i 0)) s i e
      (record { size = e - i; clear = clear what (take (e - i) (drop i s)); becomes = becomes what (take (e - i) (drop i s)); next = place on false })
  at_token =
      let size : received_size (eqb i 0) comments (drop i s) ≡ e - i = omega (arith, t.is) in
      record { is = rw (← t.what, size, o); end = omega (arith, t.some h); some = λ l. omega (arith, t.some h) }

  -- after it the value has begun
  later : (k : ℕ) → e ≤ k → eqb k 0 ≡ false
  later k l = ne_eqb k 0 (λ z. not-suc-le-zero {n = 0} (omega (arith, t.some h)))

  pub bytes_step : rendered (becoming received_front (place comments (eqb i 0)) (drop i s)) ≡ rendered (becomes what (take (e - i) (drop i s))) ++ rendered (becoming received_front (place on (eqb e 0)) (drop e s))
  bytes_step =
      rw (later e (omega arith))
      (ap rendered (becoming_at received_front h at_token) ∙ rendered_append (becomes what (take (e - i) (drop i s))) (becoming received_front (place on false) (drop e s)))

  module _ (k : ℕ) (q : k ≡ e + calm_len (drop e s)) where
    past_start : eqb k 0 ≡ false
    past_start = later k (omega arith)

    pub clear_step : {r : Bool} → r ≡ clear what (take (e - i) (drop i s)) → clear_all received_front (place comments (eqb i 0)) (drop i s) ≡ r && clear_all received_front (place on (eqb k 0)) (drop k s)
    clear_step {r} p = rw (p, past_start) (clear_at received_front h at_token ∙ ap (λ x. clear what (take (e - i) (drop i s)) && x) (calm_clear received_front (place on false) (received_calm on) s e k q))

    pub bytes_calm : rendered (becoming received_front (place on (eqb e 0)) (drop e s)) ≡ take (k - e) (drop e s) ++ rendered (becoming received_front (place on (eqb k 0)) (drop k s))
    bytes_calm = rw (later e (omega arith), past_start) (calm_bytes received_front (place on false) (received_calm on) s e k q)

-- ---- what becomes of a token, as code tells it

module _ (what : ReceivedKind) (token : List ℕ) where
  pub bytes_comment : what ≡ Comment → comment_bytes token ≡ rendered (becomes what token)
  unfolding becomes
  bytes_comment e = rw e

  module _ (e : what ≡ Clause) where
    pub clause_stays : all is_ascii token ≡ true → token ≡ rendered (becomes what token)
    unfolding becomes rendered
    clause_stays a = rw (e, a) (sym (append-nil token))

    pub clause_removed : all is_ascii token ≡ false → [] ≡ rendered (becomes what token)
    unfolding becomes rendered
    clause_removed a = rw (e, a)

  pub bytes_kept : (what ≡ BareFor) ⊎ ((what ≡ Open) ⊎ (what ≡ Other)) → token ≡ rendered (becomes what token)
  unfolding becomes rendered
  bytes_kept h = elim h [
    | inl e ↦ rw e (sym (append-nil token))
    | inr k ↦ elim k [ inl e ↦ rw e (sym (append-nil token)) | inr e ↦ rw e (sym (append-nil token)) ]
  ]
