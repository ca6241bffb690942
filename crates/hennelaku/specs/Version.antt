-- The version of the library, as one number for callers to compare.
use Rattle.std.specs.Prelude.{ℕ, ◌+◌, ◌*◌}

-- 0.4.0: ten thousand for each major version, a hundred for each minor one
unfoldable pub version : ℕ
version = 10000 * 0 + 100 * 4 + 0
