-- RFC 5322 atext, byte by byte. The grammar, the scans and the bits of the code all rest on `is_atext`, which nothing else guards.
use Rattle.std.specs.Prelude.{◌≡◌, refl, Bool, cond, List, [], ◌∷◌, ℕ, zero, suc, ◌+◌}
use Prim.Native.Char.{code}
use Prim.Native.String.{String, [] as nil, ◌∷◌ as cons}
use Rattle.address.specs.Address.{is_atext}

-- the bytes of an ASCII string
abbrev bytes : String → List ℕ
bytes nil = []
bytes (cons c s) = code c ∷ bytes s

-- the numbers from k on that pass a test, n numbers in all
abbrev passing : (ℕ → Bool) → ℕ → ℕ → List ℕ
passing f k zero = []
passing f k (suc n) = let more = passing f (k + 1) n in cond (f k) (k ∷ more) more

pub atext : passing is_atext 0 256 ≡ bytes "!#$%&'*+-/0123456789=?ABCDEFGHIJKLMNOPQRSTUVWXYZ^_`abcdefghijklmnopqrstuvwxyz{|}~"
unfolding is_atext
atext = refl
