use native.Mathlib.Omega.{arith}
use mathlib.Core.Path.{◌≡◌, refl}
use Prim.Native.Nat.{◌<◌}
use lib.ListN.{drop}
use Rattle.lists.specs.NonzeroLaws.{not_found, found_is, found_some}
use Rattle.phrase.specs.Words.{address_len, phrase_len}
use Rattle.address_list.specs.PartsLaws.{took_none, named_address, named_phrase, named_none}
use Rattle.address_list.proofs.part.named.Goals as goal

pub returns-in-Some : goal.returns-in-Some
returns-in-Some c =
    let is : c.in-Some.size ≡ address_len (drop 0 c.args.t.now) = found_is _ c.address_len.ensures.0 c.in-Some.is in
    let some : 0 < c.in-Some.size = found_some _ c.address_len.ensures.0 c.in-Some.is in
    record { is = named_address c.args.t.now _ is (λ z. omega arith); some = some; within = omega (arith, is, c.address_len.ensures.1); inner = omega arith }

pub returns-in_err-size : goal.returns-in_err-size
returns-in_err-size c = took_none c.from_residual.ensures (named_none c.args.t.now _ refl (not_found _ c.address_len.ensures.0 c.in_default.is) _ refl (not_found _ c.phrase_len.ensures.0 c.in_err-size.was)) c.requires

pub returns : goal.returns
returns c =
    let is : c.in_ok-size.size ≡ phrase_len c.args.t.now = found_is _ c.phrase_len.ensures.0 c.in_ok-size.was in
    let some : 0 < c.in_ok-size.size = found_some _ c.phrase_len.ensures.0 c.in_ok-size.was in
    record { is = named_phrase c.args.t.now _ refl (not_found _ c.address_len.ensures.0 c.in_default.is) _ is (λ z. omega arith); some = some; within = omega (arith, is, c.phrase_len.ensures.1); inner = omega arith }
