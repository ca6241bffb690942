-- A field that is read token by token: its rule makes exactly what stands at the front.
use Rattle.std.specs.Prelude.{Bool, List, ◌∷◌, ℕ, T, take, drop}
use Rattle.std.proofs.Math.Seq.{take-append_seam, drop-append_seam}
use Rattle.lists.specs.ListsLaws.{yes_true}
use Rattle.structured_token.specs.declared.Kind.{Kind}
use Rattle.structured_token.specs.Tokens.{token_front as front_of}
use Rattle.structured_token.specs.Grammar.{TokenRule}
use Rattle.structured_token.proofs.GrammarLaws.{token_taken, found}
use Rattle.structured_token.specs.Walk.{Front}
use Rattle.structured_token.proofs.WalkLaws as walks

module _ {A : Type 0} (clear : Kind → List ℕ → Bool) (becomes : Kind → List ℕ → List A) where
  abbrev token_front : Bool → List ℕ → Front Bool A
  token_front comments s = front_of clear becomes comments s

  pub exact : walks.Exact token_front (TokenRule clear becomes)
  exact = record { taken = λ r. rule_taken r; made = λ comments b s c. rule_made comments b s c }
    where
      rule_taken : {comments after : Bool} {t more : List ℕ} {p : List A} → TokenRule clear becomes comments t more p after → walks.Taken token_front comments t more p after
      rule_taken (TokenRule.token {comments} {what} {t} {more} m c) =
          let k = token_taken m in
          record { is = rw (k.what_is, k.size, take-append_seam t more, yes_true (clear what t) c); some = k.some }

      rule_made : (comments : Bool) (b : ℕ) (s : List ℕ) → T (token_front comments (b ∷ s)).clear
          → TokenRule clear becomes comments (take (token_front comments (b ∷ s)).size (b ∷ s)) (drop (token_front comments (b ∷ s)).size (b ∷ s)) (token_front comments (b ∷ s)).becomes (token_front comments (b ∷ s)).next
      rule_made comments b s =
          let f = found comments b s in
          let k = token_taken f.made in
          rw (f.is, k.what_is, k.size, take-append_seam f.t f.more, drop-append_seam f.t f.more) (λ c. TokenRule.token f.made c)
