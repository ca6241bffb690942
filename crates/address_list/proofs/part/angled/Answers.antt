use Rattle.lists.specs.NonzeroLaws.{not_found, found_is, found_some}
use Rattle.phrase.specs.Words.{address_len}
use Rattle.address_list.specs.PartsLaws.{took_stray, took_none, took_as, angled_none, angled_there, angled_more, angled_refused}
use native.Mathlib.Omega.{arith}
use Prim.Native.Nat.{◌+◌, ◌<◌}
use lib.ListN.{drop}
use mathlib.Core.Path.{◌≡◌, refl, sym, ◌∙◌}
use Rattle.address.specs.AddressLaws.{byte_within}
use Rattle.address_list.proofs.part.angled.Goals as goal

pub returns-in_err-size : goal.returns-in_err-size
returns-in_err-size c = took_none c.from_residual.ensures (angled_none _ c.args.t.now _ _ c.blanks_end-start.ensures refl (not_found _ c.address_len.ensures.0 c.in_err-size.was)) c.requires

pub overflow_add-end : goal.overflow_add-end
overflow_add-end c =
    let is : c.in_ok-size.size ≡ address_len (drop c.blanks_end-start.result c.args.t.now) = found_is _ c.address_len.ensures.0 c.in_ok-size.was in
    let some : 0 < c.in_ok-size.size = found_some _ c.address_len.ensures.0 c.in_ok-size.was in
    omega (arith, c.address_len.ensures.1)

pub returns-then-byte_at-eq62 : goal.returns-then-byte_at-eq62
returns-then-byte_at-eq62 c =
    let some : 0 < c.in_ok-size.size = found_some _ c.address_len.ensures.0 c.in_ok-size.was in
    record {
      is = angled_there _ c.args.t.now _ _ c.blanks_end-start.ensures (found_is _ c.address_len.ensures.0 c.in_ok-size.was) (λ z. omega arith) (sym c.byte_at.ensures ∙ c.if-byte_at-eq62.true);
      some = omega arith;
      within = omega (arith, byte_within c.args.t.now (c.blanks_end-start.result + c.in_ok-size.size) 61 (sym c.byte_at.ensures ∙ c.if-byte_at-eq62.true));
      inner = omega arith;
    }

pub alternative-requires : goal.alternative-requires
alternative-requires c =
    let is : c.in_ok-size.size ≡ address_len (drop c.blanks_end-start.result c.args.t.now) = found_is _ c.address_len.ensures.0 c.in_ok-size.was in
    let some : 0 < c.in_ok-size.size = found_some _ c.address_len.ensures.0 c.in_ok-size.was in
    (omega arith, (omega (arith, c.address_len.ensures.1), c.requires))

pub returns-then-not-allows_alternative : goal.returns-then-not-allows_alternative
returns-then-not-allows_alternative c =
    let some : 0 < c.in_ok-size.size = found_some _ c.address_len.ensures.0 c.in_ok-size.was in
    took_stray refl (angled_refused _ c.args.t.now _ _ c.blanks_end-start.ensures (found_is _ c.address_len.ensures.0 c.in_ok-size.was) (λ z. omega arith) (λ e. c.if-byte_at-eq62.false (c.byte_at.ensures ∙ e)) (sym c.allows_alternative.ensures ∙ c.if-not-allows_alternative.true)) c.requires

pub returns : goal.returns
returns c =
    let some : 0 < c.in_ok-size.size = found_some _ c.address_len.ensures.0 c.in_ok-size.was in
    took_as c.alternative.ensures (angled_more _ c.args.t.now _ _ c.blanks_end-start.ensures (found_is _ c.address_len.ensures.0 c.in_ok-size.was) (λ z. omega arith) (λ e. c.if-byte_at-eq62.false (c.byte_at.ensures ∙ e)) (sym c.allows_alternative.ensures ∙ c.if-not-allows_alternative.false))
