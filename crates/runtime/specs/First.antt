-- The numbers of a list that lie within a limit. It stays shut, so that no proof counts to the limit.
use Rattle.std.specs.Prelude.{ℕ, List, take, ℤ}

unfoldable pub first : ℕ → List ℤ → List ℤ
first n xs = take n xs
